-- The laws of number-bytes, by which all else goes.
use Rattle.std.proofs.Common.{◌≡◌, leb, ℕ, zero, suc, ◌+◌, ◌-◌, ◌*◌, ◌/◌, ◌%◌, ◌^◌, ◌<◌, ◌≤◌, ◌⊎◌, List, [], ◌∷◌, ◌++◌, length, Some, None, sym, refl, ap, ◌∙◌, inl, inr, ⊎_elim, arith}
use Rattle.std.proofs.lemmas.Bool.{cases_lt, lt-ltb, le-ltb, le-leb, lt-leb}
use Rattle.std.specs.Bool.{then_some}
use Rattle.std.specs.Option.{option_map}
use Rattle.leb.specs.Number.{number_by, number_bytes, Reads}

by_low : (f n : ℕ) → n < 128 → number_by f n ≡ n ∷ []
unfolding number_by
by_low zero n h = refl
by_low (suc f) n h = rw (lt-ltb n 128 h, number_by)

by_high : (f n : ℕ) → 128 ≤ n → number_by (suc f) n ≡ (128 + n % 128) ∷ number_by f (n / 128)
unfolding number_by
by_high f n h = rw (le-ltb n 128 h, number_by)

-- more room for the recursion makes no difference
by_same : (f g n : ℕ) → n ≤ f → n ≤ g → number_by f n ≡ number_by g n
by_same zero g n p q = by_low zero n (omega arith) ∙ sym (by_low g n (omega arith))
by_same (suc f) zero n p q = by_low (suc f) n (omega arith) ∙ sym (by_low zero n (omega arith))
by_same (suc f) (suc g) n p q =
    ⊎_elim (λ l. by_low (suc f) n l ∙ sym (by_low (suc g) n l))
    (λ l. by_high f n l ∙ ap (λ t. (128 + n % 128) ∷ t) (by_same f g (n / 128) (omega arith) (omega arith)) ∙ sym (by_high g n l))
    (cases_lt n 128)

pub number_low : (n : ℕ) → n < 128 → number_bytes n ≡ n ∷ []
unfolding number_bytes
number_low n h = by_low n n h

pub number_high : (n : ℕ) → 128 ≤ n → number_bytes n ≡ (128 + n % 128) ∷ number_bytes (n / 128)
unfolding number_bytes
number_high zero h = absurd (omega arith)
number_high (suc k) h = by_high k (suc k) h ∙ ap (λ t. (128 + suc k % 128) ∷ t) (by_same k (suc k / 128) (suc k / 128) (omega arith) (omega arith))

-- the first byte tells whether the number ends there
pub front :
    (b : ℕ) (rest : List ℕ) (n : ℕ) (t : List ℕ) → b ∷ rest ≡ number_bytes n ++ t
    → ((n < 128) × (b ≡ n) × (rest ≡ t)) ⊎ ((128 ≤ n) × (b ≡ 128 + n % 128) × (rest ≡ number_bytes (n / 128) ++ t))
front b rest n t e =
    ⊎_elim
    (λ l. let d : b ∷ rest ≡ n ∷ t = e ∙ ap (λ x. x ++ t) (number_low n l) in inl (l, cc, cc))
    (λ l. let d : b ∷ rest ≡ (128 + n % 128) ∷ (number_bytes (n / 128) ++ t) = e ∙ ap (λ x. x ++ t) (number_high n l) in inr (l, cc, cc))
    (cases_lt n 128)

pub never_empty : (n : ℕ) (t : List ℕ) → length (number_bytes n ++ t) ≡ 0 → ⊥
never_empty n t e =
    ⊎_elim (λ l. let z : length (n ∷ t) ≡ 0 = sym (ap (λ x. length (x ++ t)) (number_low n l)) ∙ e in omega arith)
    (λ l. let z : length ((128 + n % 128) ∷ (number_bytes (n / 128) ++ t)) ≡ 0 = sym (ap (λ x. length (x ++ t)) (number_high n l)) ∙ e in omega arith)
    (cases_lt n 128)

-- no number's bytes begin another's
same_low : (m n : ℕ) (s t : List ℕ) → m < 128 → number_bytes m ++ s ≡ number_bytes n ++ t → (m ≡ n) × (s ≡ t)
same_low m n s t l e =
    let d : m ∷ s ≡ number_bytes n ++ t = sym (ap (λ x. x ++ s) (number_low m l)) ∙ e in
    ⊎_elim (λ w. (w.1, w.2)) (λ w. absurd (omega arith)) (front m s n t d)

same_by : (f m n : ℕ) (s t : List ℕ) → m ≤ f → number_bytes m ++ s ≡ number_bytes n ++ t → (m ≡ n) × (s ≡ t)
same_by zero m n s t p e = same_low m n s t (omega arith) e
same_by (suc f) m n s t p e =
    ⊎_elim (λ l. same_low m n s t l e)
    (λ l.
    let d : (128 + m % 128) ∷ (number_bytes (m / 128) ++ s) ≡ number_bytes n ++ t = sym (ap (λ x. x ++ s) (number_high m l)) ∙ e in
    ⊎_elim (λ w. absurd (omega arith))
    (λ w.
    let r : (m / 128 ≡ n / 128) × (s ≡ t) = same_by f (m / 128) (n / 128) s t (omega arith) w.2 in
    (omega arith, r.1))
    (front (128 + m % 128) (number_bytes (m / 128) ++ s) n t d))
    (cases_lt m 128)

pub same_number : (m n : ℕ) (s t : List ℕ) → number_bytes m ++ s ≡ number_bytes n ++ t → (m ≡ n) × (s ≡ t)
same_number m n s t e = same_by m m n s t (omega arith) e

-- the reader's ways: s has a first byte b and the rest
abbrev AtMost : ℕ → ℕ → Type 0
AtMost max n = n ≤ max

pub none_empty : (max : ℕ) (s : List ℕ) → length s ≡ 0 → Reads (AtMost max) number_bytes s None
none_empty max s z n t h e = never_empty n t (ap length (sym e) ∙ z)

module _ (max : ℕ) (s : List ℕ) (b : ℕ) (rest : List ℕ) (cut : s ≡ b ∷ rest) where
  some_low : b < 128 → b ≤ max → Reads (AtMost max) number_bytes s (Some (b, rest))
  some_low l h = (h, cut ∙ sym (ap (λ x. x ++ rest) (number_low b l)))

  none_low : b < 128 → max < b → Reads (AtMost max) number_bytes s None
  none_low l h n t k e =
      ⊎_elim (λ w. omega arith) (λ w. omega arith) (front b rest n t (sym cut ∙ e))

  -- the number is the byte, if it is at most max; r is the rest, read as x
  pub one_low :
      {R : Type 0} (r : R) (x : R → List ℕ) → x r ≡ rest → b < 128
      → Reads (AtMost max) number_bytes s (option_map {T = ℕ × R} (λ p. (p.0, x p.1)) (then_some (leb b max) (b, r)))
  one_low r x is l =
      ⊎_elim (λ (w : max < b). rw lt-leb (none_low l w))
      (λ (w : b ≤ max). rw (le-leb, is) (some_low l w))
      (cases_lt max b)

  pub none_more : 128 ≤ b → max < 128 → Reads (AtMost max) number_bytes s None
  none_more l h n t k e =
      ⊎_elim (λ w. omega arith) (λ w. omega arith) (front b rest n t (sym cut ∙ e))

  pub none_rest : 128 ≤ b → Reads (AtMost (max / 128)) number_bytes rest None → Reads (AtMost max) number_bytes s None
  none_rest l none n t k e =
      ⊎_elim (λ w. omega arith) (λ w. none (n / 128) t (omega arith) w.2) (front b rest n t (sym cut ∙ e))

  module _ (high : ℕ) (after : List ℕ) (was : rest ≡ number_bytes high ++ after) where
    pub none_after :
        128 ≤ b → ((high ≡ 0 → ⊥) × (128 * high + (b - 128) ≤ max) → ⊥) → Reads (AtMost max) number_bytes s None
    none_after l bad n t k e =
        ⊎_elim (λ w. omega arith)
        (λ w.
        let same = same_number high (n / 128) after t (sym was ∙ w.2) in
        bad (omega arith, omega arith))
        (front b rest n t (sym cut ∙ e))

    pub some_after :
        128 ≤ b → b < 256 → (high ≡ 0 → ⊥) → 128 * high + (b - 128) ≤ max
        → Reads (AtMost max) number_bytes s (Some (128 * high + (b - 128), after))
    some_after l u z h =
        let n : ℕ = 128 * high + (b - 128) in
        let q : n / 128 ≡ high = omega arith in
        let m : 128 + n % 128 ≡ b = omega arith in
        (h, cut ∙ ap (λ x. b ∷ x) was ∙ sym (ap (λ x. x ++ after) (number_high n (omega arith) ∙ ap (λ x. x ∷ number_bytes (n / 128)) m ∙ ap (λ x. b ∷ number_bytes x) q)))

-- one byte, and one more for each further group
pub length_low : (n : ℕ) → n < 128 → length (number_bytes n) ≡ 1
length_low n h = ap length (number_low n h)

pub length_high : (n : ℕ) → 128 ≤ n → length (number_bytes n) ≡ 1 + length (number_bytes (n / 128))
length_high n h = ap length (number_high n h) ∙ (omega arith)

pub length_pos : (n : ℕ) → 0 < length (number_bytes n)
length_pos n = ⊎_elim (λ l. omega (arith, length_low n l)) (λ l. omega (arith, length_high n l)) (cases_lt n 128)

-- seven bits to a byte
pub length_two : (n : ℕ) → n < 2 ^ 14 → length (number_bytes n) ≤ 2
length_two n h = ⊎_elim (λ l. omega (arith, length_low n l)) (λ l. omega (arith, length_high n l, length_low (n / 128) (omega arith))) (cases_lt n 128)

pub length_four : (n : ℕ) → n < 2 ^ 28 → length (number_bytes n) ≤ 4
length_four n h =
    ⊎_elim (λ l. omega (arith, length_two n (omega arith)))
    (λ l.
    ⊎_elim (λ k. omega (arith, length_high n l, length_two (n / 128) (omega arith)))
    (λ k. omega (arith, length_high n l, length_high (n / 128) k, length_two (n / 128 / 128) (omega arith)))
    (cases_lt (n / 128) 128))
    (cases_lt n 128)

pub length_five : (n : ℕ) → n < 2 ^ 35 → length (number_bytes n) ≤ 5
length_five n h =
    ⊎_elim (λ l. omega (arith, length_low n l)) (λ l. omega (arith, length_high n l, length_four (n / 128) (omega arith))) (cases_lt n 128)
