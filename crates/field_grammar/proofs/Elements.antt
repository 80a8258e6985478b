-- An element is read exactly as the grammar has it.
use Rattle.std.proofs.Common.{◌≡◌, ℕ, suc, ◌≤◌, Bool, true, false, eqb, ◌⊎◌, List, [], ◌∷◌, ◌++◌, length, get_or, Some, None, codes, Option, sym, refl, ap, ◌∙◌, inl, inr, append_assoc, arith}
use Rattle.std.proofs.lemmas.Bool.{and_parts, and_right, eqb-true, ne_eqb, lt-ltb}
use Rattle.fields.specs.declared.element.Span.{Span}
use Rattle.fields.specs.declared.element.Field.{Field}
use Rattle.fields.specs.Bytes.{number, has, front, back}
use Rattle.fields.specs.Element.{low, high, star?, span, or_else, name_of, value_of, element}
use Rattle.field_grammar.specs.Grammar.{Element, spans, Without}
use Rattle.field_grammar.specs.Grammar.{star, star_step, name, range, range_step}
use Rattle.field_grammar.specs.Laws.{OneReading, ReadsElements}
use Rattle.field_grammar.proofs.Cuts.{Above, above_without, without_join, has_none, has_joined, front_joined}
use Rattle.field_grammar.proofs.Cuts.{back_joined, cut_whole}
use Rattle.field_grammar.proofs.Numbers.{number_read, number_had, number_above, number_long}
use Rattle.field_grammar.proofs.Names.{name_read, name_had, name_above, name_three}

-- a text that does not begin with `*` is not a star
not_star : (s : List ℕ) → (get_or s 0 0 ≡ 42 → ⊥) → star? s ≡ false
not_star s n = and_right (eqb (length s) 1) (eqb (get_or s 0 0) 42) (ne_eqb (get_or s 0 0) 42 n)

-- bytes above 47 do not begin with `*`
above_no_star : (s : List ℕ) → Above s → get_or s 0 0 ≡ 42 → ⊥
above_no_star [] a e = omega arith
above_no_star (x ∷ s) a e = let k = a 0 (omega arith) in omega arith

-- nor does a range
range_no_star : (a b : List ℕ) → Above a → get_or (a ++ 45 ∷ b) 0 0 ≡ 42 → ⊥
range_no_star [] b k e = omega arith
range_no_star (x ∷ a) b k e = let l = k 0 (omega arith) in omega arith

-- a range is without `/`
range_no_step : (a b : List ℕ) → Above a → Above b → Without 47 (a ++ 45 ∷ b)
range_no_step a b k l =
    without_join 47 45 a b (λ e. omega arith) (above_without 47 a (omega arith) k) (above_without 47 b (omega arith) l)

-- what each form of element says
module _ (f : Field) where
  says_star_step : (n : List ℕ) → element f (codes "*/" ++ n) ≡ span (Some (low f)) (Some (high f)) (number n)
  says_star_step n = rw (lt-ltb 1 (suc (suc (length n))) (omega arith)) refl

  says_single : (e : List ℕ) → Above e → element f e ≡ span (value_of f e) (value_of f e) (Some 1)
  says_single e k =
      rw (
        has_none 47 e (above_without 47 e (omega arith) k),
        not_star e (above_no_star e k),
        has_none 45 e (above_without 45 e (omega arith) k),
      ) refl

  says_range : (a b : List ℕ) → Above a → Above b → element f (a ++ 45 ∷ b) ≡ span (number a) (number b) (Some 1)
  says_range a b k l =
      let w = above_without 45 a (omega arith) k in
      rw (
        has_none 47 (a ++ 45 ∷ b) (range_no_step a b k l),
        not_star (a ++ 45 ∷ b) (range_no_star a b k),
        has_joined 45 a b w,
        front_joined 45 a b w,
        back_joined 45 a b w,
      ) refl

  says_range_step : (a b n : List ℕ) → Above a → Above b →
      element f ((a ++ 45 ∷ b) ++ 47 ∷ n) ≡ span (number a) (number b) (number n)
  says_range_step a b n k l =
      let w = above_without 45 a (omega arith) k in
      let v = range_no_step a b k l in
      let p = a ++ 45 ∷ b in
      rw (
        has_joined 47 p n v,
        front_joined 47 p n v,
        back_joined 47 p n v,
        not_star p (range_no_star a b k),
        has_joined 45 a b w,
        front_joined 45 a b w,
        back_joined 45 a b w,
      ) refl

-- `a-b` and `a-b/n`, as they are cut
range_cut : (a b : List ℕ) → a ++ codes "-" ++ b ≡ a ++ 45 ∷ b
range_cut a b = append_assoc a (codes "-") b

range_step_cut : (a b n : List ℕ) → a ++ codes "-" ++ b ++ codes "/" ++ n ≡ (a ++ 45 ∷ b) ++ 47 ∷ n
range_step_cut a b n =
    append_assoc (a ++ codes "-" ++ b) (codes "/") n ∙ ap (λ (p : List ℕ). p ++ 47 ∷ n) (range_cut a b)

-- an element of the grammar is read
pub element_read : (f : Field) (e : List ℕ) (s : Span) → Element f e s → element f e ≡ Some s
element_read f e s (star p q) = rw (p, q) refl
element_read f e s (star_step n k h p q) = rw (p, says_star_step f n, number_read n k h, q) refl
element_read f e s (Element.number v h q) = rw (says_single f e (number_above e v h), number_read e v h, q) refl
element_read f e s (name v h q) =
    let l : 3 ≤ length e = omega (arith, name_three f e v h) in
    rw (says_single f e (name_above f e v h), number_long e l, name_read f e v h, q) refl
element_read f e s (range a b v w h k p q) =
    rw (
      p,
      range_cut a b,
      says_range f a b (number_above a v h) (number_above b w k),
      number_read a v h,
      number_read b w k,
      q,
    ) refl
element_read f e s (range_step a b n v w m h k l p q) =
    rw (
      p,
      range_step_cut a b n,
      says_range_step f a b n (number_above a v h) (number_above b w k),
      number_read a v h,
      number_read b w k,
      number_read n m l,
      q,
    ) refl

-- what a span says, its three parts say
record Said (a b n : Option ℕ) (s : Span) : Type 0 where
  from_said : a ≡ Some s.from
  to_said : b ≡ Some s.to
  step_said : n ≡ Some s.step

span_said : (a b n : Option ℕ) (s : Span) → span a b n ≡ Some s → Said a b n s
span_said None b n s e = absurd cc
span_said (Some a) None n s e = absurd cc
span_said (Some a) (Some b) None s e = absurd cc
span_said (Some a) (Some b) (Some n) s e =
    let q : spans a b n ≡ s = cc in
    record {
      from_said = ap (λ (t : Span). Some t.from) q;
      to_said = ap (λ (t : Span). Some t.to) q;
      step_said = ap (λ (t : Span). Some t.step) q;
    }

-- a span is its three numbers
spans_said : (a b n : ℕ) (s : Span) → Some a ≡ Some s.from → Some b ≡ Some s.to → Some n ≡ Some s.step →
    s ≡ spans a b n
spans_said a b n s p q r =
    let x : s.from ≡ a = cc in
    let y : s.to ≡ b = cc in
    let z : s.step ≡ n = cc in
    λ i. spans (x i) (y i) (z i)

-- a star is `*`
star_is : (s : List ℕ) → star? s ≡ true → s ≡ codes "*"
star_is [] e = absurd cc
star_is (x ∷ []) e = ap (λ (y : ℕ). y ∷ []) (eqb-true x 42 e)
star_is (x ∷ y ∷ s) e =
    let p = and_parts (eqb (length (x ∷ y ∷ s)) 1) (eqb x 42) e in
    let l = eqb-true (length (x ∷ y ∷ s)) 1 p.0 in
    absurd (omega arith)

-- a value that is read is a number's or a name's
or_else_said : (a b : Option ℕ) (v : ℕ) → or_else a b ≡ Some v → (a ≡ Some v) ⊎ (b ≡ Some v)
or_else_said None b v e = inr e
or_else_said (Some a) b v e = inl e

-- an element that is read is one of the grammar
module _ (f : Field) (e : List ℕ) (s : Span) where
  -- a number or a name
  single_had : span (value_of f e) (value_of f e) (Some 1) ≡ Some s → Element f e s
  single_had h = go (or_else_said (number e) (name_of f e) s.from said.from_said)
    where
      said : Said (value_of f e) (value_of f e) (Some 1) s
      said = span_said (value_of f e) (value_of f e) (Some 1) s h

      whole : s ≡ spans s.from s.from 1
      whole = spans_said s.from s.from 1 s refl (sym said.from_said ∙ said.to_said) said.step_said

      go : (number e ≡ Some s.from) ⊎ (name_of f e ≡ Some s.from) → Element f e s
      go (inl n) = Element.number s.from (number_had e s.from n) whole
      go (inr n) = name s.from (name_had f e s.from n) whole

  -- `a-b`
  range_had : has 45 e ≡ true → span (number (front 45 e)) (number (back 45 e)) (Some 1) ≡ Some s → Element f e s
  range_had c h =
      let p = span_said (number (front 45 e)) (number (back 45 e)) (Some 1) s h in
      range (front 45 e) (back 45 e) s.from s.to
      (number_had (front 45 e) s.from p.from_said) (number_had (back 45 e) s.to p.to_said)
      (cut_whole 45 e c ∙ sym (range_cut (front 45 e) (back 45 e)))
      (spans_said s.from s.to 1 s refl refl p.step_said)

  -- an element without a step
  plain_had : has 47 e ≡ false → element f e ≡ Some s → Element f e s
  plain_had t h = go (star? e) (has 45 e) refl refl
    where
      go : (u v : Bool) → star? e ≡ u → has 45 e ≡ v → Element f e s
      go true v d c =
          let p = span_said (Some (low f)) (Some (high f)) (Some 1) s (rw (t, d) at h) in
          star (star_is e d) (spans_said (low f) (high f) 1 s p.from_said p.to_said p.step_said)
      go false true d c = range_had c (rw (t, d, c) at h)
      go false false d c = single_had (rw (t, d, c) at h)

  -- `*/n`
  star_step_had : has 47 e ≡ true → star? (front 47 e) ≡ true →
      span (Some (low f)) (Some (high f)) (number (back 47 e)) ≡ Some s → Element f e s
  star_step_had t d h =
      let n = back 47 e in
      let p = span_said (Some (low f)) (Some (high f)) (number n) s h in
      star_step n s.step (number_had n s.step p.step_said)
      (cut_whole 47 e t ∙ ap (λ (x : List ℕ). x ++ 47 ∷ n) (star_is (front 47 e) d))
      (spans_said (low f) (high f) s.step s p.from_said p.to_said refl)

  -- `a-b/n`
  range_step_had : has 47 e ≡ true → has 45 (front 47 e) ≡ true →
      span (number (front 45 (front 47 e))) (number (back 45 (front 47 e))) (number (back 47 e)) ≡ Some s →
      Element f e s
  range_step_had t c h =
      let a = front 45 (front 47 e) in
      let b = back 45 (front 47 e) in
      let n = back 47 e in
      let p = span_said (number a) (number b) (number n) s h in
      range_step a b n s.from s.to s.step (number_had a s.from p.from_said)
      (number_had b s.to p.to_said) (number_had n s.step p.step_said)
      (cut_whole 47 e t ∙ ap (λ (x : List ℕ). x ++ 47 ∷ n) (cut_whole 45 (front 47 e) c)
      ∙ sym (range_step_cut a b n))
      refl

  -- an element with a step
  stepped_had : has 47 e ≡ true → element f e ≡ Some s → Element f e s
  stepped_had t h = go (star? (front 47 e)) (has 45 (front 47 e)) refl refl
    where
      go : (u v : Bool) → star? (front 47 e) ≡ u → has 45 (front 47 e) ≡ v → Element f e s
      go true v d c = star_step_had t d (rw (t, d) at h)
      go false true d c = range_step_had t c (rw (t, d, c) at h)
      go false false d c = absurd (cc (rw (t, d, c) at h))

-- so is any
pub element_had : (f : Field) (e : List ℕ) (s : Span) → element f e ≡ Some s → Element f e s
element_had f e s h = go (has 47 e) refl
  where
    go : (t : Bool) → has 47 e ≡ t → Element f e s
    go true t = stepped_had f e s t h
    go false t = plain_had f e s t h

pub reads_elements : ReadsElements
reads_elements f e s = (element_had f e s, element_read f e s)

pub one_reading : OneReading
one_reading f e s t p q =
    let a = element_read f e s p in
    let b = element_read f e t q in
    cc
