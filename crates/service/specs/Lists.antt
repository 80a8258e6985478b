-- Lists that lose an element, and counting by a test.
use Rattle.std.specs.Prelude.{List, ◌∷◌, Bool, cond, ℕ, zero, suc}

-- the second list is the first with one occurrence of t taken out
pub data Taken {A : Type 0} (t : A) : List A → List A → Type 0 where
  here : {xs : List A} → Taken t (t ∷ xs) xs
  there : {x : A} {xs ys : List A} → Taken t xs ys → Taken t (x ∷ xs) (x ∷ ys)

-- how many of the n numbers from a on pass the test
abbrev pub how_many : (ℕ → Bool) → ℕ → ℕ → ℕ
how_many p a zero = zero
how_many p a (suc n) = cond (p a) (suc (how_many p (suc a) n)) (how_many p (suc a) n)
