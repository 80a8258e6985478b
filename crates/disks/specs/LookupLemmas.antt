-- What stands at a place of a list that was changed.
use Rattle.std.specs.Prelude.{◌≡◌, ℕ, zero, suc, ◌<◌, ◌≤◌, cond, List, [], ◌∷◌, length, replicate, ◌≢◌, nat_lt, slice_index_or, slice_set, refl}
use Rattle.std.proofs.Common.{sym, ap, ◌∙◌, le_of_suc-le-suc, not-suc-le-zero}
use Rattle.std.proofs.Math.Dec.{leb-zero, leb-suc-zero, leb-suc-suc}
use Rattle.disks.specs.Lookup.{at}

pub at_past : {A B : Type 0} (f : A → B) (z : B) (xs : List A) (i : ℕ) → length xs ≤ i → at f z xs i ≡ z
at_past f z [] i h = refl
at_past f z (x ∷ xs) zero h = absurd (not-suc-le-zero h)
at_past f z (x ∷ xs) (suc i) h = at_past f z xs i (le_of_suc-le-suc h)

pub at_within :
    {A B : Type 0} (f : A → B) (z : B) (xs : List A) (i : ℕ) (d : A) → i < length xs → at f z xs i ≡ f (slice_index_or xs i d)
at_within f z [] i d h = absurd (not-suc-le-zero h)
at_within f z (x ∷ xs) zero d h = refl
at_within f z (x ∷ xs) (suc i) d h = at_within f z xs i d (le_of_suc-le-suc h)

pub at_set_same :
    {A B : Type 0} (f : A → B) (z : B) (xs : List A) (k : ℕ) (y : A) → k < length xs → at f z (slice_set xs k y) k ≡ f y
at_set_same f z [] k y h = absurd (not-suc-le-zero h)
at_set_same f z (x ∷ xs) zero y h = refl
at_set_same f z (x ∷ xs) (suc k) y h = at_set_same f z xs k y (le_of_suc-le-suc h)

pub at_set_other :
    {A B : Type 0} (f : A → B) (z : B) (xs : List A) (k i : ℕ) (y : A) → (i ≢ k) → at f z (slice_set xs k y) i ≡ at f z xs i
at_set_other f z [] k i y n = refl
at_set_other f z (x ∷ xs) zero zero y n = absurd (n refl)
at_set_other f z (x ∷ xs) zero (suc i) y n = refl
at_set_other f z (x ∷ xs) (suc k) zero y n = refl
at_set_other f z (x ∷ xs) (suc k) (suc i) y n = at_set_other f z xs k i y (λ e. n (ap suc e))

pub at_replicate :
    {A B : Type 0} (f : A → B) (z : B) (n i : ℕ) (x : A) → at f z (replicate n x) i ≡ cond (nat_lt i n) (f x) z
at_replicate f z zero i x = sym (ap (λ t. cond t (f x) z) (leb-suc-zero i))
at_replicate f z (suc n) zero x = sym (ap (λ t. cond t (f x) z) (leb-suc-suc zero n ∙ leb-zero n))
at_replicate f z (suc n) (suc i) x = at_replicate f z n i x ∙ sym (ap (λ t. cond t (f x) z) (leb-suc-suc (suc i) n))
