-- The limits of a disk.
use Rattle.std.specs.Prelude.{ℕ}

-- the fewest blocks
abbrev pub fewest_blocks : ℕ
fewest_blocks = 64

-- the most blocks
abbrev pub most_blocks : ℕ
most_blocks = 4096

-- how many bytes a block holds
abbrev pub block_bytes : ℕ
block_bytes = 256
