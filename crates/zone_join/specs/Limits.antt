-- The limits of a join.
use Rattle.std.specs.Prelude.{ℕ}

-- the first minute at which zones may be joined
abbrev pub first_join : ℕ
first_join = 5000

-- the last
abbrev pub last_join : ℕ
last_join = 99990000
