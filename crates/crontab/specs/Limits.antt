-- The limits of a crontab.
use Rattle.std.specs.Prelude.{ℕ}

-- the longest file, in bytes
abbrev pub longest_file : ℕ
longest_file = 16384

-- the longest line, in bytes
abbrev pub longest_line : ℕ
longest_line = 1000

-- how many job lines a file may have
abbrev pub most_jobs : ℕ
most_jobs = 64
