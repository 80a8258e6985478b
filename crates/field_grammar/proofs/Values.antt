-- A field that is taken holds exactly the values that its elements say.
use Rattle.std.proofs.Common.{◌≡◌, ℕ, zero, suc, ◌-◌, ◌*◌, ◌/◌, ◌%◌, ◌<◌, ◌≤◌, Bool, true, false, ◌&&◌, eqb, leb, ◌⊎◌, List, [], ◌∷◌, length, get_or, Ok, Err, Result, sym, refl, subst, inl, inr, arith}
use Rattle.std.proofs.Math.Nat.{mod-add-div', mul-mod_left}
use Rattle.std.proofs.lemmas.Bool.{and_parts, and_from, or_cases, or_left, or_right, false≢true, cases_lt, leb-true, le-leb, eqb-true, eq-eqb, eqb-false, ne_eqb}
use Rattle.fields.specs.declared.element.Span.{Span}
use Rattle.fields.specs.declared.element.Field.{Field}
use Rattle.fields.specs.declared.element.Field.TheVariants.{Minute, Hour, Day, Month, Weekday}
use Rattle.fields.specs.declared.reader.Fault.{Fault}
use Rattle.fields.specs.Element.{low, high}
use Rattle.fields.specs.Values.{takes, taken, verdict, any_takes, standing, holds}
use Rattle.fields.specs.Bytes.{split}
use Rattle.field_grammar.specs.Grammar.{Element, Parted, last, more, Sound, Wrong, Takes, Holds, stands_for, top}
use Rattle.field_grammar.specs.Laws.{HoldsSaid, HoldsInRange, HoldsSome}
use Rattle.field_grammar.proofs.Elements.{one_reading}
use Rattle.field_grammar.proofs.Parts.{split_parted, parted_split}
use Rattle.field_grammar.proofs.Verdicts.{Judged, verdict_judged}
use Rattle.field_grammar.proofs.Faults.{Faultless, none_wrong}

-- a number that a span takes is reached by whole steps
takes_had : (s : Span) (n : ℕ) → takes s n ≡ true → Takes s n
takes_had s n e =
    let p = and_parts (leb s.from n) (leb n s.to && eqb ((n - s.from) % s.step) 0) e in
    let q = and_parts (leb n s.to) (eqb ((n - s.from) % s.step) 0) p.1 in
    let a = leb-true s.from n p.0 in
    let b = leb-true n s.to q.0 in
    let c = eqb-true ((n - s.from) % s.step) 0 q.1 in
    let d = mod-add-div' (n - s.from) s.step in
    record { steps = (n - s.from) / s.step; reached = omega arith; within = b }

-- a number that is reached by whole steps is taken
takes_read : (s : Span) (n : ℕ) → Takes s n → takes s n ≡ true
takes_read s n t =
    let r = t.reached in
    let d : n - s.from ≡ t.steps * s.step = omega arith in
    let m : (n - s.from) % s.step ≡ 0 = rw d (mul-mod_left t.steps s.step) in
    and_from (leb s.from n) (leb n s.to && eqb ((n - s.from) % s.step) 0)
    (le-leb s.from n (omega arith))
    (and_from (leb n s.to) (eqb ((n - s.from) % s.step) 0)
    (le-leb n s.to t.within) (eq-eqb ((n - s.from) % s.step) 0 m))

-- a sound element of a list says a number
record Says (f : Field) (es : List (List ℕ)) (n : ℕ) : Type 0 where
  which : ℕ
  listed : which < length es
  span : Span
  says : Element f (get_or es which []) span
  sound : Sound f span
  takes : Takes span n

-- a number that is taken is said
any_had : (f : Field) (es : List (List ℕ)) (n : ℕ) → any_takes f es n ≡ true → Says f es n
any_had f [] n h = absurd (false≢true h)
any_had f (e ∷ es) n h = go (or_cases (taken (verdict f e) n) (any_takes f es n) h) (any_had f es n)
  where
    go : (taken (verdict f e) n ≡ true) ⊎ (any_takes f es n ≡ true) → (any_takes f es n ≡ true → Says f es n) →
        Says f (e ∷ es) n
    go (inl t) rest = here (verdict f e) (verdict_judged f e) t
      where
        here : (r : Result Span Fault) → Judged f e r → taken r n ≡ true → Says f (e ∷ es) n
        here (Ok s) j t = record {
          which = 0;
          listed = omega arith;
          span = s;
          says = j.0;
          sound = j.1;
          takes = takes_had s n t;
        }
        here (Err d) j t = absurd (false≢true t)
    go (inr t) rest = later (rest t)
      where
        later : Says f es n → Says f (e ∷ es) n
        later p = record {
          which = suc p.which;
          listed = omega arith;
          span = p.span;
          says = p.says;
          sound = p.sound;
          takes = p.takes;
        }

-- and lies in the field's range
any_in_range : (f : Field) (es : List (List ℕ)) (n : ℕ) → any_takes f es n ≡ true → (low f ≤ n) × (n ≤ high f)
any_in_range f es n t =
    let p = any_had f es n t in
    let r = p.takes.reached in
    let w = p.takes.within in
    let l = p.sound.from_low in
    let h = p.sound.to_high in
    (omega arith, omega arith)

-- a text with which nothing is wrong is taken as an element
taken_right : (f : Field) (e : List ℕ) → ((d : Fault) → Wrong f e d → ⊥) →
    (s : Span) × (verdict f e ≡ Ok s) × Element f e s × Sound f s
taken_right f e n = go (verdict f e) refl (verdict_judged f e)
  where
    go : (r : Result Span Fault) → verdict f e ≡ r → Judged f e r →
        (s : Span) × (verdict f e ≡ Ok s) × Element f e s × Sound f s
    go (Ok s) q j = (s, q, j.0, j.1)
    go (Err d) q j = absurd (n d j.0)

-- and so is each number that it says
taken_here : (f : Field) (e : List ℕ) (s : Span) (n : ℕ) → ((d : Fault) → Wrong f e d → ⊥) → Element f e s →
    Takes s n → taken (verdict f e) n ≡ true
taken_here f e s n w el t =
    let p = taken_right f e w in
    rw p.1 (takes_read p.0 n (subst (λ (x : Span). Takes x n) (one_reading f e s p.0 el p.2) t))

-- a number that one of several says, and nothing is wrong with any, is taken
any_read : (f : Field) (es : List (List ℕ)) (n : ℕ) → Faultless f es → (i : ℕ) → i < length es → (s : Span) →
    Element f (get_or es i []) s → Takes s n → any_takes f es n ≡ true
any_read f [] n w i l s el t = absurd (omega arith)
any_read f (e ∷ es) n w zero l s el t =
    or_left (taken (verdict f e) n) (any_takes f es n) (taken_here f e s n (w 0 l) el t)
any_read f (e ∷ es) n w (suc i) l s el t =
    or_right (taken (verdict f e) n) (any_takes f es n)
    (any_read f es n (λ j k. w (suc j) (omega arith)) i (omega arith) s el t)

-- a value that stands is that of a number that is taken
stands_had : (f : Field) (t : ℕ → Bool) → ((n : ℕ) → t n ≡ true → n ≤ high f) → (v : ℕ) → standing f t v ≡ true →
    (n : ℕ) × (t n ≡ true) × (v ≡ stands_for f n)
stands_had Minute t b v h = (v, h, refl)
stands_had Hour t b v h = (v, h, refl)
stands_had Day t b v h = (v, h, refl)
stands_had Month t b v h = (v, h, refl)
stands_had Weekday t b v h = go (eqb v 7) refl
  where
    go : (q : Bool) → eqb v 7 ≡ q → (n : ℕ) × (t n ≡ true) × (v ≡ n % 7)
    go true q = absurd (false≢true (rw q at h))
    go false q = which (or_cases (t v) (eqb v 0 && t 7) (rw q at h))
      where
        which : (t v ≡ true) ⊎ ((eqb v 0 && t 7) ≡ true) → (n : ℕ) × (t n ≡ true) × (v ≡ n % 7)
        which (inl s) = let l = b v s in let d = eqb-false v 7 q in (v, s, omega arith)
        which (inr s) =
            let p = and_parts (eqb v 0) (t 7) s in
            let z = eqb-true v 0 p.0 in
            (7, p.1, omega arith)

-- and a number that is taken has its value standing
stands_read : (f : Field) (t : ℕ → Bool) (n : ℕ) → t n ≡ true → n ≤ high f → standing f t (stands_for f n) ≡ true
stands_read Minute t n h l = h
stands_read Hour t n h l = h
stands_read Day t n h l = h
stands_read Month t n h l = h
stands_read Weekday t n h l = go (cases_lt n 7)
  where
    go : (n < 7) ⊎ (7 ≤ n) → standing Weekday t (n % 7) ≡ true
    go (inl k) =
        let m : n % 7 ≡ n = omega arith in
        rw (m, ne_eqb n 7 (omega arith)) (or_left (t n) (eqb n 0 && t 7) h)
    go (inr k) =
        let q : n ≡ 7 = omega arith in
        subst (λ (x : ℕ). standing Weekday t (x % 7) ≡ true) (sym q) (or_right (t 0) (t 7) (rw q at h))

-- it lies between the field's least and greatest values
stands_in_range : (f : Field) (n : ℕ) → low f ≤ n → n ≤ high f → (low f ≤ stands_for f n) × (stands_for f n ≤ top f)
stands_in_range Minute n l h = (l, h)
stands_in_range Hour n l h = (l, h)
stands_in_range Day n l h = (l, h)
stands_in_range Month n l h = (l, h)
stands_in_range Weekday n l h = (omega arith, omega arith)

-- a value that a field holds is that of a number that its elements take
holds_had : (f : Field) (s : List ℕ) (v : ℕ) → holds f s v ≡ true →
    (n : ℕ) × (any_takes f (split 44 s) n ≡ true) × (v ≡ stands_for f n)
holds_had f s v h = stands_had f (any_takes f (split 44 s)) (λ n t. (any_in_range f (split 44 s) n t).1) v h

-- and the value of a number that they take is held
holds_read : (f : Field) (s : List ℕ) (n : ℕ) → any_takes f (split 44 s) n ≡ true → holds f s (stands_for f n) ≡ true
holds_read f s n t = stands_read f (any_takes f (split 44 s)) n t (any_in_range f (split 44 s) n t).1

pub holds_said : HoldsSaid
holds_said f s g v = (had, read)
  where
    had : holds f s v ≡ true → Holds f s v
    had h =
        let p = holds_had f s v h in
        let q = any_had f (split 44 s) p.0 p.1 in
        record {
          elements = split 44 s;
          parted = split_parted 44 s;
          which = q.which;
          listed = q.listed;
          span = q.span;
          says = q.says;
          number = p.0;
          takes = q.takes;
          value = p.2;
        }

    read : Holds f s v → holds f s v ≡ true
    read p =
        let e = parted_split p.parted in
        let w = subst (Faultless f) e (none_wrong f (split 44 s) 0 g) in
        let t = any_read f p.elements p.number w p.which p.listed p.span p.says p.takes in
        rw p.value
        (holds_read f s p.number (subst (λ (es : List (List ℕ)). any_takes f es p.number ≡ true) (sym e) t))

pub holds_in_range : HoldsInRange
holds_in_range f s g v h =
    let p = holds_had f s v h in
    let r = any_in_range f (split 44 s) p.0 p.1 in
    rw p.2 (stands_in_range f p.0 r.0 r.1)

-- a text has at least one part
parted_some : {b : ℕ} {s : List ℕ} {es : List (List ℕ)} → Parted b s es → 0 < length es
parted_some (last w) = omega arith
parted_some (more w p) = omega arith

-- a sound element says the number from which it counts
sound_some : (f : Field) (s : Span) → Sound f s → Takes s s.from
sound_some f s p = record { steps = 0; reached = omega arith; within = p.in_order }

pub holds_some : HoldsSome
holds_some f s g =
    let es = split 44 s in
    let l = parted_some (split_parted 44 s) in
    let w = none_wrong f es 0 g in
    let p = taken_right f (get_or es 0 []) (w 0 l) in
    let n = p.0.from in
    (stands_for f n, holds_read f s n (any_read f es n w 0 l p.0 p.2 (sound_some f p.0 p.3)))
