-- What stands at a place of a list.
use Rattle.std.specs.Prelude.{ℕ, zero, suc, List, [], ◌∷◌}

-- f of the element at place i, and z past the end
abbrev pub at : {A B : Type 0} → (A → B) → B → List A → ℕ → B
at f z [] i = z
at f z (x ∷ xs) zero = f x
at f z (x ∷ xs) (suc i) = at f z xs i
