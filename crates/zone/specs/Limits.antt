-- The limits of a zone.
use Rattle.std.specs.Prelude.{ℕ}

-- the largest offset to either side, in minutes
abbrev pub most_offset : ℕ
most_offset = 900

-- the largest change of an offset, in minutes
abbrev pub most_change : ℕ
most_change = 179

-- how many minutes lie at least between two changes
abbrev pub least_apart : ℕ
least_apart = 1440

-- how many minutes before it decide which labels a minute is first to reach: one more than the largest change
abbrev pub look_back : ℕ
look_back = 180

-- how many entries a table may have
abbrev pub most_entries : ℕ
most_entries = 512
