-- A disk in memory, by what its blocks hold.
use Rattle.std.specs.Prelude.{ℕ, List, [], ◌∷◌, vec_items, vec_len}
use Rattle.disk.specs.Contents.{Content, torn}
use Rattle.disks.specs.Fresh.{Fresh}
use Rattle.disks.specs.Lookup.{at}
use Rattle.disks.specs.declared.memory_disk.MemoryDisk.{MemoryDisk}

module _ {B : Type 0} where
  abbrev pub blocks_of : MemoryDisk B → List B
  blocks_of d = vec_items d.blocks

  abbrev pub count_of : MemoryDisk B → ℕ
  count_of d = vec_len d.blocks

  abbrev pub latest_of : (B → Content) → MemoryDisk B → ℕ → Content
  latest_of latest d = at latest torn (blocks_of d)

  abbrev pub possible_of : (B → List Content) → MemoryDisk B → ℕ → List Content
  possible_of possible d = at possible (torn ∷ []) (blocks_of d)

  abbrev pub FreshDisk : (B → Content) → (B → List Content) → ℕ → MemoryDisk B → Type 0
  FreshDisk latest possible n d = Fresh n (count_of d) (latest_of latest d) (possible_of possible d)
