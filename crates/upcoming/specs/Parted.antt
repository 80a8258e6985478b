-- A text parted at a byte.
use Rattle.std.specs.Prelude.{◌≡◌, ℕ, ◌<◌, List, ◌∷◌, ◌++◌, length, ◌≢◌, slice_index}

-- none of the first n bytes is b
abbrev pub Lacks : List ℕ → ℕ → ℕ → Type 0
Lacks s b n = (k : ℕ) → k < n → slice_index s k ≢ b

-- s is p, the first byte b, and q
abbrev pub Parted : List ℕ → ℕ → List ℕ → List ℕ → Type 0
Parted s b p q = (s ≡ p ++ (b ∷ q)) × Lacks p b (length p)
