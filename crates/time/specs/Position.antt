-- Positions are ordered by minute, then by line: the rank counts them.
use Rattle.std.specs.Prelude.{ℕ, ◌+◌, ◌*◌}
use Rattle.time.specs.Limits.{lines}
use Rattle.time.specs.declared.position.Position.{Position}

abbrev pub rank_of : ℕ → ℕ → ℕ
rank_of minute line = minute * lines + line

abbrev pub rank : Position → ℕ
rank p = rank_of p.minute.0 p.line
