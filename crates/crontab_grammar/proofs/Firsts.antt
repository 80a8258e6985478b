-- The first byte of a text that passes a test.
use Rattle.std.proofs.Common.{◌≡◌, ℕ, suc, ◌<◌, ◌≤◌, Bool, true, false, not, ◌⊎◌, List, [], ◌∷◌, ◌++◌, length, get_or, refl, ap, inl, inr, arith}
use Rattle.std.proofs.lemmas.Bool.{both_ways, cases_lt, not-true, not-false}
use Rattle.std.proofs.lemmas.List.Sums.{prefix_len_passes, prefix_len_stops}
use Rattle.scan.specs.Scan.{before_first}
use Rattle.scan.proofs.First.{first_position}

-- no byte of a text passes a test
abbrev pub Fails : (ℕ → Bool) → List ℕ → Type 0
Fails p a = (i : ℕ) → i < length a → p (get_or a i 0) ≡ false

-- a text has no byte, or its first byte passes a test
abbrev pub Starts : (ℕ → Bool) → List ℕ → Type 0
Starts p r = 0 < length r → p (get_or r 0 0) ≡ true

-- what fails stands before the first byte that passes
pub first_joined : (p : ℕ → Bool) (a r : List ℕ) → Fails p a → Starts p r → before_first p (a ++ r) ≡ length a
first_joined p [] [] f s = refl
first_joined p [] (x ∷ r) f s = let e : p x ≡ true = s (omega arith) in rw e refl
first_joined p (x ∷ a) r f s =
    let e : p x ≡ false = f 0 (omega arith) in
    rw e (ap suc (first_joined p a r (λ i h. f (suc i) (omega arith)) s))

-- no byte before the first passes
pub first_fails : (p : ℕ → Bool) (s : List ℕ) (i : ℕ) → i < before_first p s → p (get_or s i 0) ≡ false
first_fails p s i h =
    not-true (p (get_or s i 0)) (prefix_len_passes (λ x. not (p x)) s i 0 (rw first_position at h))

-- the first passes, if there is one
pub first_passes : (p : ℕ → Bool) (s : List ℕ) → before_first p s < length s → p (get_or s (before_first p s) 0) ≡ true
first_passes p s h =
    not-false (p (get_or s (before_first p s) 0))
    (rw first_position (prefix_len_stops (λ x. not (p x)) s 0 (rw first_position at h)))

-- a byte that passes does not stand before the first
pub first_least : (p : ℕ → Bool) (s : List ℕ) (i : ℕ) → p (get_or s i 0) ≡ true → before_first p s ≤ i
first_least p s i e = go (cases_lt i (before_first p s))
  where
    go : (i < before_first p s) ⊎ (before_first p s ≤ i) → before_first p s ≤ i
    go (inl l) = absurd (both_ways (p (get_or s i 0)) (first_fails p s i l) e)
    go (inr l) = l
