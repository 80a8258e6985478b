-- An element is taken if it is sound, and else refused for what is wrong with it.
use Rattle.std.proofs.Common.{◌≡◌, ℕ, ◌<◌, ◌≤◌, Bool, true, false, eqb, ltb, ◌⊎◌, List, Some, None, Ok, Err, Option, Result, sym, refl, ap, ◌∙◌, subst, inl, inr, arith}
use Rattle.std.proofs.lemmas.Bool.{or_cases, or_parts, ltb-true, ltb-false, eqb-true, eqb-false}
use Rattle.std.proofs.lemmas.Bool.Decides.{nat_tests}
use Rattle.fields.specs.declared.element.Span.{Span}
use Rattle.fields.specs.declared.element.Field.{Field}
use Rattle.fields.specs.declared.reader.Fault.{Fault}
use Rattle.fields.specs.declared.reader.Fault.TheVariants.{NoSuchElement, OutOfRange, Turned}
use Rattle.fields.specs.Element.{low, high, element}
use Rattle.fields.specs.Values.{outside, judged, verdict}
use Rattle.field_grammar.specs.Grammar.{Element, Sound, Wrong}
use Rattle.fields.specs.Values.{fault_number}
use Rattle.field_grammar.specs.Grammar.{no_element, from_outside, to_outside, turned_round, no_step}
use Rattle.field_grammar.specs.Laws.{TakesSound, RefusesWrong}
use Rattle.field_grammar.proofs.Elements.{element_read, element_had, one_reading}

-- no lesser number refuses the element than that of d
abbrev pub Least : Field → List ℕ → Fault → Type 0
Least f e d = (c : Fault) → Wrong f e c → fault_number d ≤ fault_number c

-- what the grammar has of an element's verdict
abbrev pub Judged : Field → List ℕ → Result Span Fault → Type 0
Judged f e (Ok s) = Element f e s × Sound f s
Judged f e (Err d) = Wrong f e d × Least f e d

-- a number that is tested to be outside of the field's range is
outside_is : (f : Field) (v : ℕ) → outside f v ≡ true → (v < low f) ⊎ (high f < v)
outside_is f v e = go (or_cases (ltb v (low f)) (ltb (high f) v) e)
  where
    go : (ltb v (low f) ≡ true) ⊎ (ltb (high f) v ≡ true) → (v < low f) ⊎ (high f < v)
    go (inl t) = inl (ltb-true v (low f) t)
    go (inr t) = inr (ltb-true (high f) v t)

-- a number is in the field's range
abbrev Inside : Field → ℕ → Type 0
Inside f v = (low f ≤ v) × (v ≤ high f)

-- a number that is tested not to be outside is in it
inside_is : (f : Field) (v : ℕ) → outside f v ≡ false → Inside f v
inside_is f v e =
    let p = or_parts (ltb v (low f)) (ltb (high f) v) e in
    (ltb-false v (low f) p.0, ltb-false (high f) v p.1)

-- and none is both
not_both : (f : Field) (v : ℕ) → Inside f v → (v < low f) ⊎ (high f < v) → ⊥
not_both f v i (inl o) = omega arith
not_both f v i (inr o) = omega arith

-- where there is no element, that is wrong, and has the least number
judged_none : (f : Field) (e : List ℕ) → element f e ≡ None → Judged f e (Err NoSuchElement)
judged_none f e h = (no_element (λ s p. cc (sym h ∙ element_read f e s p)), least)
  where
    least : Least f e NoSuchElement
    least NoSuchElement w = omega arith
    least OutOfRange w = omega arith
    least Turned w = omega arith

module _ (f : Field) (e : List ℕ) (s : Span) (el : Element f e s) where
  -- what is an element is refused by no lesser number than that of out of range
  least_outside : Least f e OutOfRange
  least_outside NoSuchElement (no_element n) = absurd (n s el)
  least_outside OutOfRange w = omega arith
  least_outside Turned w = omega arith

  -- and one in range by no lesser number than that of its order or its step
  module _ (a : Inside f s.from) (b : Inside f s.to) where
    not_outside : Wrong f e OutOfRange → ⊥
    not_outside (from_outside t p o) =
        not_both f s.from a
        (subst (λ (x : Span). (x.from < low f) ⊎ (high f < x.from)) (one_reading f e t s p el) o)
    not_outside (to_outside t p o) =
        not_both f s.to b (subst (λ (x : Span). (x.to < low f) ⊎ (high f < x.to)) (one_reading f e t s p el) o)

    least_turned : Least f e Turned
    least_turned NoSuchElement (no_element n) = absurd (n s el)
    least_turned OutOfRange w = absurd (not_outside w)
    least_turned Turned w = omega arith

  -- what is judged of the numbers that an element says
  judged_some : Judged f e (judged f (Some s))
  judged_some =
      go (outside f s.from) (outside f s.to) (ltb s.to s.from) (eqb s.step 0) refl refl refl refl
    where
      go : (a b c d : Bool) → outside f s.from ≡ a → outside f s.to ≡ b → ltb s.to s.from ≡ c →
          eqb s.step 0 ≡ d → Judged f e (judged f (Some s))
      go true b c d p q r t = rw p (from_outside s el (outside_is f s.from p), least_outside)
      go false true c d p q r t = rw (p, q) (to_outside s el (outside_is f s.to q), least_outside)
      go false false true d p q r t =
          rw (p, q, r) (
            turned_round s el (ltb-true s.to s.from r),
            least_turned (inside_is f s.from p) (inside_is f s.to q),
          )
      go false false false true p q r t =
          rw (p, q, r, t)
          (no_step s el (eqb-true s.step 0 t), least_turned (inside_is f s.from p) (inside_is f s.to q))
      go false false false false p q r t =
          let i = inside_is f s.from p in
          let j = inside_is f s.to q in
          rw (p, q, r, t) (
            el,
            record {
              from_low = i.0;
              from_high = i.1;
              to_low = j.0;
              to_high = j.1;
              in_order = ltb-false s.to s.from r;
              steps_on = omega (arith, eqb-false s.step 0 t);
            },
          )

-- the verdict on an element is what the grammar has
pub verdict_judged : (f : Field) (e : List ℕ) → Judged f e (verdict f e)
verdict_judged f e = go (element f e) refl
  where
    go : (o : Option Span) → element f e ≡ o → Judged f e (verdict f e)
    go None h = rw h (judged_none f e h)
    go (Some s) h = rw h (judged_some f e s (element_had f e s h))

-- a sound element is taken
sound_taken : (f : Field) (e : List ℕ) (s : Span) → Element f e s → Sound f s → verdict f e ≡ Ok s
sound_taken f e s el p = rw (element_read f e s el) (grind (arith, nat_tests))

pub takes_sound : TakesSound
takes_sound f e s = (λ h. subst (Judged f e) h (verdict_judged f e), λ p. sound_taken f e s p.0 p.1)

-- nothing is wrong with a sound element
pub sound_right : (f : Field) (e : List ℕ) (s : Span) → Element f e s → Sound f s → (d : Fault) → Wrong f e d → ⊥
sound_right f e s el p NoSuchElement (no_element n) = n s el
sound_right f e s el p OutOfRange w = not_outside f e s el (p.from_low, p.from_high) (p.to_low, p.to_high) w
sound_right f e s el p Turned (turned_round t q o) =
    let r = one_reading f e t s q el in
    omega (arith, ap (λ (x : Span). x.from) r, ap (λ (x : Span). x.to) r)
sound_right f e s el p Turned (no_step t q o) =
    let r = ap (λ (x : Span). x.step) (one_reading f e t s q el) in omega arith

-- a fault is known by its number
fault_same : (c d : Fault) → fault_number c ≡ fault_number d → c ≡ d
fault_same NoSuchElement NoSuchElement e = refl
fault_same NoSuchElement OutOfRange e = absurd (omega arith)
fault_same NoSuchElement Turned e = absurd (omega arith)
fault_same OutOfRange NoSuchElement e = absurd (omega arith)
fault_same OutOfRange OutOfRange e = refl
fault_same OutOfRange Turned e = absurd (omega arith)
fault_same Turned NoSuchElement e = absurd (omega arith)
fault_same Turned OutOfRange e = absurd (omega arith)
fault_same Turned Turned e = refl

-- a wrong element is refused, by the least number
wrong_refused : (f : Field) (e : List ℕ) (d : Fault) → Wrong f e d → Least f e d → verdict f e ≡ Err d
wrong_refused f e d w l = go (verdict f e) refl (verdict_judged f e)
  where
    go : (r : Result Span Fault) → verdict f e ≡ r → Judged f e r → verdict f e ≡ Err d
    go (Ok s) q j = absurd (sound_right f e s j.0 j.1 d w)
    go (Err c) q j =
        let a = l c j.0 in
        let b = j.1 d w in
        q ∙ ap Err (fault_same c d (omega arith))

pub refuses_wrong : RefusesWrong
refuses_wrong f e d = (λ h. subst (Judged f e) h (verdict_judged f e), λ p. wrong_refused f e d p.0 p.1)
