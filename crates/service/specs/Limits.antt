-- The limits of the engine's calls and of a launcher.
use Rattle.std.specs.Prelude.{ℕ}

-- how many positions a look examines at most
abbrev pub most_examined : ℕ
most_examined = 4096

-- how many runs a launcher of the greatest capacity can hold
abbrev pub most_runs : ℕ
most_runs = 16
