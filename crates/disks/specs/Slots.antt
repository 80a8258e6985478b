-- What a block of a disk in memory is.
use Rattle.std.specs.Prelude.{◌≡◌, ◌⊎◌, ℕ, List, [], ◌∷◌, replicate}
use Rattle.disk.specs.Contents.{Content, torn, held, Among}
use Rattle.disk.specs.Limits.{block_bytes}
use Rattle.disks.specs.declared.fate.Fate.{Fate}
use Rattle.disks.specs.declared.fate.Fate.TheVariants.{New}

-- By what a block holds, what it may hold once the power has failed, a new block, what a write makes of a block, and
-- what becomes of it when a write that it keeps back fares so.
pub record SlotLaws {B : Type 0} (latest : B → Content) (possible : B → List Content) (blank : B)
    (written : B → List ℕ → B) (settled : Fate → B → B) : Type 0 where
  pub includes : (b : B) → Among (latest b) (possible b)
  -- a new block holds zero bytes, and nothing else is possible
  pub zeros : latest blank ≡ held (replicate block_bytes 0)
  pub alone : possible blank ≡ latest blank ∷ []
  -- a write is what the block holds; when the power fails, also what could stand there before, or torn
  pub lands : (b : B) (bytes : List ℕ) → latest (written b bytes) ≡ held bytes
  pub at_most :
      (b : B) (bytes : List ℕ) (c : Content) → Among c (possible (written b bytes))
      → Among c (possible b) ⊎ ((c ≡ held bytes) ⊎ (c ≡ torn))
  -- once it has fared so, the block holds one of its possible contents, and that alone is possible
  pub one : (fate : Fate) (b : B) → possible (settled fate b) ≡ latest (settled fate b) ∷ []
  pub picked : (fate : Fate) (b : B) → Among (latest (settled fate b)) (possible b)
  -- a read sees what was written, so it sees the same once that has landed
  pub synced : (b : B) → latest (settled New b) ≡ latest b
