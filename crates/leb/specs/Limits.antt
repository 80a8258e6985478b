-- The limits of what is written.
use Rattle.std.specs.Prelude.{ℕ}

-- how many bytes a block has
abbrev pub block : ℕ
block = 256
