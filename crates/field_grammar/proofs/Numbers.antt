-- A number is read exactly as the grammar has it.
use Rattle.std.proofs.Common.{◌≡◌, ℕ, zero, suc, ◌+◌, ◌-◌, ◌*◌, ◌<◌, ◌≤◌, Bool, true, false, leb, List, [], ◌∷◌, length, Some, None, sym, refl, ap, ◌∙◌, subst, arith}
use Rattle.std.proofs.lemmas.Bool.{and_parts, leb-true, ne_eqb}
use Rattle.std.proofs.lemmas.Bool.Decides.{nat_tests}
use Rattle.fields.specs.Bytes.{number, digit?}
use Rattle.field_grammar.specs.Grammar.{Number, one, two, digit}
use Rattle.field_grammar.proofs.Cuts.{Above}

-- the byte of a digit is known as one
digit_known : (a : ℕ) → a < 10 → digit? (digit a) ≡ true
digit_known a h = grind (arith, nat_tests)

-- a byte that is known as a digit is the byte of a number below 10
digit_value : (x : ℕ) → digit? x ≡ true → (a : ℕ) × (a < 10) × (x ≡ digit a)
digit_value x e =
    let p = and_parts (leb 48 x) (leb x 57) e in
    let l = leb-true 48 x p.0 in
    let h = leb-true x 57 p.1 in
    (x - 48, omega arith, omega arith)

-- a number that the grammar has is read
pub number_read : (bs : List ℕ) (v : ℕ) → Number bs v → number bs ≡ Some v
number_read bs v (one a h e m) =
    rw (e, digit_known a h) (ap Some (omega arith))
number_read bs v (two a b h k e m) =
    rw (e, digit_known a h, digit_known b k) (ap Some (omega arith))

-- the bytes of digits stand above 47
one_above : (a : ℕ) → Above (digit a ∷ [])
one_above a zero h = omega arith
one_above a (suc i) h = absurd (omega arith)

two_above : (a b : ℕ) → Above (digit a ∷ digit b ∷ [])
two_above a b zero h = omega arith
two_above a b (suc i) h = one_above b i (omega arith)

pub number_above : (bs : List ℕ) (v : ℕ) → Number bs v → Above bs
number_above bs v (one a h e m) = subst Above (sym e) (one_above a)
number_above bs v (two a b h k e m) = subst Above (sym e) (two_above a b)

-- three bytes or more are no number
pub number_long : (bs : List ℕ) → 3 ≤ length bs → number bs ≡ None
number_long bs h = rw (ne_eqb (length bs) 1 (omega arith), ne_eqb (length bs) 2 (omega arith)) refl

-- a number that is read is one of the grammar
pub number_had : (bs : List ℕ) (v : ℕ) → number bs ≡ Some v → Number bs v
number_had [] v e = absurd cc
number_had (x ∷ []) v e = go (digit? x) refl
  where
    go : (t : Bool) → digit? x ≡ t → Number (x ∷ []) v
    go true d =
        let p = digit_value x d in
        let q : Some (x - 48) ≡ Some v = rw d at e in
        let r : x - 48 ≡ v = cc in
        let m = p.1 in
        let k = p.2 in
        one p.0 m (ap (λ (y : ℕ). y ∷ []) k) (omega arith)
    go false d = absurd (cc (rw d at e))
number_had (x ∷ y ∷ []) v e = go (digit? x) (digit? y) refl refl
  where
    go : (t u : Bool) → digit? x ≡ t → digit? y ≡ u → Number (x ∷ y ∷ []) v
    go true true d c =
        let p = digit_value x d in
        let o = digit_value y c in
        let q : Some (10 * (x - 48) + (y - 48)) ≡ Some v = rw (d, c) at e in
        let r : 10 * (x - 48) + (y - 48) ≡ v = cc in
        let k = p.2 in
        let l = o.2 in
        two p.0 o.0 p.1 o.1 (cc) (omega arith)
    go true false d c = absurd (cc (rw (d, c) at e))
    go false u d c = absurd (cc (rw d at e))
number_had (x ∷ y ∷ z ∷ r) v e =
    absurd (cc (sym (number_long (x ∷ y ∷ z ∷ r) (omega arith)) ∙ e))
