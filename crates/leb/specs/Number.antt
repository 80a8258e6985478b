-- Unsigned LEB128 in shortest form: groups of seven bits, the lowest first, 128 added to each but the last.
use Rattle.std.specs.Prelude.{◌≡◌, ℕ, zero, suc, ◌+◌, ◌/◌, ◌%◌, true, false, List, [], ◌∷◌, ◌++◌, Some, None, Option, ◌≢◌, nat_lt}

-- the bytes of n; the first argument, at least n, only bounds the recursion
unfoldable pub number_by : ℕ → ℕ → List ℕ
number_by zero n = n ∷ []
number_by (suc f) n = elim (nat_lt n 128) [ true ↦ n ∷ [] | false ↦ (128 + n % 128) ∷ number_by f (n / 128) ]

unfoldable pub number_bytes : ℕ → List ℕ
number_bytes n = number_by n n

-- What a reader of one thing gives: the thing at the front of the bytes, and the rest;
-- or none, where no such thing is at the front.
abbrev pub Reads : {A : Type 0} → (A → Type 0) → (A → List ℕ) → List ℕ → Option (A × List ℕ) → Type 0
Reads {A} Ok bytes s None = (a : A) (t : List ℕ) → Ok a → s ≢ bytes a ++ t
Reads {A} Ok bytes s (Some (a, t)) = Ok a × (s ≡ bytes a ++ t)

-- no number's bytes begin another's
abbrev pub OneNumber : Type 0
OneNumber = (m n : ℕ) (s t : List ℕ) → number_bytes m ++ s ≡ number_bytes n ++ t → (m ≡ n) × (s ≡ t)
