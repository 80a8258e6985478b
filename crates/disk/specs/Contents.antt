-- What a block of a disk holds.
use Rattle.std.specs.Prelude.{◌≡◌, ℕ, ◌⊎◌, List, [], ◌∷◌, Some, None, Option}

-- torn: a write did not end, and the block holds nothing that can be read; held: the bytes, `block_bytes` of them
pub data Content : Type 0 where
  torn : Content
  held : List ℕ → Content

-- x is one of xs
abbrev pub Among : {A : Type 0} → A → List A → Type 0
Among x [] = ⊥
Among x (y ∷ ys) = (x ≡ y) ⊎ Among x ys

-- what a read of a block answers
abbrev pub read_of : Content → Option (List ℕ)
read_of torn = None
read_of (held b) = Some b

-- each block has one possible content: its latest
abbrev pub Only : (ℕ → Content) → (ℕ → List Content) → Type 0
Only latest possible = (i : ℕ) (c : Content) → Among c (possible i) → c ≡ latest i
