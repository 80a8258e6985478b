-- The fields of a line: what is read of each.
use Rattle.std.proofs.Common.{◌≡◌, ℕ, ◌+◌, ◌<◌, ◌≤◌, Bool, true, false, ltb, ◌⊎◌, List, length, drop, Some, None, Ok, Err, Option, Result, sym, refl, ap, ◌∙◌, subst, inl, inr, arith}
use Rattle.std.proofs.lemmas.Bool.{ltb-true, ltb-false, lt-ltb}
use Rattle.fields.specs.declared.element.Field.{Field}
use Rattle.fields.specs.declared.reader.BadElement.{BadElement}
use Rattle.fields.specs.declared.reader.FieldSet.{FieldSet}
use Rattle.fields.specs.Values.{field_bad, field_reading}
use Rattle.crontab.specs.declared.refusal.Refusal.{Refusal}
use Rattle.crontab.specs.declared.refusal.Refusal.TheVariants.{Element}
use Rattle.crontab.specs.Words.{begin, word, past}
use Rattle.crontab.specs.Line.{place, missing, words_before, field_at}
use Rattle.crontab.proofs.Nth.{past_next}
use Rattle.crontab_grammar.specs.Grammar.{Word, Says}
use Rattle.crontab_grammar.proofs.Words.{Found, word_found, word_had, blanks_from}

-- where the word after k others begins, or the line's length
abbrev pub nth_begin : List ℕ → ℕ → ℕ
nth_begin l k = begin l (past l k)

-- and its bytes
abbrev pub nth_word : List ℕ → ℕ → List ℕ
nth_word l k = word l (past l k)

-- what is left of a line after k words
abbrev pub after : List ℕ → ℕ → List ℕ
after l k = drop (past l k) l

-- all of it, after no word
pub after_none : (l : List ℕ) → after l 0 ≡ l
unfolding past
after_none l = refl

-- a byte that is no blank begins the next word
pub next_had : (l : List ℕ) (k : ℕ) → nth_begin l k < length l →
    Word (after l k) (blanks_from l (past l k)) (nth_word l k) (after l (k + 1))
next_had l k h =
    subst (λ (p : ℕ). Word (after l k) (blanks_from l (past l k)) (nth_word l k) (drop p l)) (past_next l k)
    (word_had l (past l k) h)

module _ (l : List ℕ) (k : ℕ) (s b w r : List ℕ) (q : after l k ≡ s) (h : Word s b w r) where
  -- the next word is found
  pub next_found : Found l (past l k) b w r
  next_found = word_found l (past l k) s b w r q h

  -- it begins before the line's end
  pub next_inside : nth_begin l k < length l
  next_inside =
      let f = next_found in
      let n = h.solid.some in
      omega (arith, f.begins, f.ends, f.inside)

  -- and the rest is left after it
  pub next_after : after l (k + 1) ≡ r
  next_after = ap (λ (p : ℕ). drop p l) (sym (past_next l k)) ∙ next_found.rest

-- the refusal of an element of a field that begins after p bytes of line n
abbrev pub refused : Field → ℕ → ℕ → BadElement → Refusal
refused f n p b = Element b.fault (place n (p + b.at + 1)) f

-- a field is at fault: its first refused element is
pub record BadField (f : Field) (n : ℕ) (l : List ℕ) (e : Refusal) : Type 0 where
  pub inside : nth_begin l (words_before f) < length l
  pub bad : BadElement
  pub refuses : field_bad f (nth_word l (words_before f)) ≡ Some bad
  pub named : e ≡ refused f n (nth_begin l (words_before f)) bad

-- a field is not there
pub record NoField (f : Field) (n : ℕ) (l : List ℕ) (e : Refusal) : Type 0 where
  pub ended : length l ≤ nth_begin l (words_before f)
  pub named : e ≡ missing n l

-- what the line has, if such is read of a field
abbrev pub FieldJudged : Field → ℕ → List ℕ → Result FieldSet Refusal → Type 0
FieldJudged f n l (Ok v) = (nth_begin l (words_before f) < length l) × Says f (nth_word l (words_before f)) v
FieldJudged f n l (Err e) = BadField f n l e ⊎ NoField f n l e

-- the cases of a field
pub field_judged : (f : Field) (n : ℕ) (l : List ℕ) → FieldJudged f n l (field_at f n l)
unfolding field_at field_reading
field_judged f n l = go (ltb p (length l)) refl (field_bad f w) refl
  where
    p : ℕ
    p = nth_begin l (words_before f)

    w : List ℕ
    w = nth_word l (words_before f)

    go : (t : Bool) → ltb p (length l) ≡ t → (o : Option BadElement) → field_bad f w ≡ o →
        FieldJudged f n l (field_at f n l)
    go true e None q = rw (e, q) (ltb-true p (length l) e, record { faultless = q; set = refl })
    go true e (Some b) q =
        rw (e, q) (inl (record { inside = ltb-true p (length l) e; bad = b; refuses = q; named = refl }))
    go false e o q = rw e (inr (record { ended = ltb-false p (length l) e; named = refl }))

-- a field of the grammar is read
pub field_read : (f : Field) (n : ℕ) (l s b w r : List ℕ) (v : FieldSet) →
    after l (words_before f) ≡ s → Word s b w r → Says f w v → field_at f n l ≡ Ok v
unfolding field_at field_reading
field_read f n l s b w r v q h y =
    let k = next_inside l (words_before f) s b w r q h in
    let e = (next_found l (words_before f) s b w r q h).is_word in
    rw (lt-ltb (nth_begin l (words_before f)) (length l) k, e, y.faultless) (ap Ok (sym y.set))
