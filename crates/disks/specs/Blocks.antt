-- A block of a disk that keeps writes back.
use Rattle.std.specs.Prelude.{ℕ, List, [], ◌∷◌, replicate, Some, None, Option}
use Rattle.disk.specs.Contents.{Content, torn, held}
use Rattle.disk.specs.Limits.{block_bytes}
use Rattle.disks.specs.declared.block.Block.{Block}
use Rattle.disks.specs.declared.fate.Fate.{Fate}
use Rattle.disks.specs.declared.fate.Fate.TheVariants.{Old, New, Torn}

-- bytes, or none where they are torn, as a content
abbrev pub content_of : Option (List ℕ) → Content
content_of None = torn
content_of (Some b) = held b

-- the write that is kept back, or else what has landed
abbrev pub or_else : Option (List ℕ) → Option (List ℕ) → Option (List ℕ)
or_else None landed = landed
or_else (Some b) landed = Some b

-- what a read of a block sees
abbrev pub shown_of : Block → Option (List ℕ)
shown_of b = or_else b.held b.kept

-- where a write is kept back: the old content, the new one, or torn
abbrev pub may_stand : Option (List ℕ) → Option (List ℕ) → List Content
may_stand None landed = content_of landed ∷ []
may_stand (Some b) landed = content_of landed ∷ held b ∷ torn ∷ []

-- a new block: zero bytes that have landed
abbrev pub blank_block : Block
blank_block = record { held = None; kept = Some (replicate block_bytes 0) }

-- a block of which a write is kept back
abbrev pub held_back : Block → List ℕ → Block
held_back b bytes = record { held = Some bytes; kept = b.kept }

-- what has landed once the write b has fared so
abbrev pub fared : Fate → List ℕ → Option (List ℕ) → Option (List ℕ)
fared Old b landed = landed
fared New b landed = Some b
fared Torn b landed = None

-- the same of a block that keeps a write back or not
abbrev pub settled : Fate → Option (List ℕ) → Option (List ℕ) → Option (List ℕ)
settled fate None landed = landed
settled fate (Some b) landed = fared fate b landed

-- what a cut makes of a block
abbrev pub cut_block : Fate → Block → Block
cut_block fate b = record { held = None; kept = settled fate b.held b.kept }

-- what the block holds, and what it may hold once the power has failed
abbrev pub latest_in : Block → Content
latest_in b = content_of (shown_of b)

abbrev pub possible_in : Block → List Content
possible_in b = may_stand b.held b.kept
