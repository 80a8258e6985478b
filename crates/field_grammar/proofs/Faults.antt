-- A field is refused for its leftmost wrong element.
use Rattle.std.proofs.Common.{◌≡◌, ℕ, zero, suc, ◌+◌, ◌<◌, ◌≤◌, ◌⊎◌, List, [], ◌∷◌, length, get_or, take, Some, None, Ok, Err, Result, sym, refl, ap, subst, inl, inr, arith}
use Rattle.std.proofs.lemmas.Bool.{cases_order}
use Rattle.fields.specs.declared.element.Span.{Span}
use Rattle.fields.specs.declared.element.Field.{Field}
use Rattle.fields.specs.declared.reader.Fault.{Fault}
use Rattle.fields.specs.declared.reader.BadElement.{BadElement}
use Rattle.fields.specs.Values.{verdict, first_bad}
use Rattle.fields.specs.Bytes.{split}
use Rattle.field_grammar.specs.Grammar.{Wrong, WrongAt, place}
use Rattle.fields.specs.Values.{fault_number}
use Rattle.field_grammar.specs.Laws.{RefusesLeftmost, TakesFaultless}
use Rattle.field_grammar.proofs.Parts.{split_parted, parted_split}
use Rattle.field_grammar.proofs.Verdicts.{Least, Judged, verdict_judged, sound_right}

-- a later element has a later place
place_rises : (es : List (List ℕ)) (i j : ℕ) → i < j → j < length es → place (take i es) < place (take j es)
place_rises [] i j l h = absurd (omega arith)
place_rises (e ∷ es) zero zero l h = absurd (omega arith)
place_rises (e ∷ es) (suc i) zero l h = absurd (omega arith)
place_rises (e ∷ es) zero (suc j) l h = omega arith
place_rises (e ∷ es) (suc i) (suc j) l h = let r = place_rises es i j (omega arith) (omega arith) in omega arith

-- an element of a list is wrong
record WrongIn (f : Field) (es : List (List ℕ)) (at : ℕ) (d : Fault) : Type 0 where
  which : ℕ
  listed : which < length es
  begins : at ≡ place (take which es)
  wrong : Wrong f (get_or es which []) d

-- the elements of a field are those that `split` gives
wrong_in : (f : Field) (s : List ℕ) (at : ℕ) (d : Fault) → WrongAt f s at d → WrongIn f (split 44 s) at d
wrong_in f s at d w =
    subst (λ (es : List (List ℕ)). WrongIn f es at d) (sym (parted_split w.parted))
    (record { which = w.which; listed = w.listed; begins = w.begins; wrong = w.wrong })

-- the first wrong element of a list that begins at k
record Leftmost (f : Field) (es : List (List ℕ)) (k : ℕ) (b : BadElement) : Type 0 where
  which : ℕ
  listed : which < length es
  begins : b.at ≡ k + place (take which es)
  wrong : Wrong f (get_or es which []) b.fault
  least : Least f (get_or es which []) b.fault
  before : (i : ℕ) → i < which → (d : Fault) → Wrong f (get_or es i []) d → ⊥

-- a refused element, by its fault and its place
abbrev bad : Fault → ℕ → BadElement
bad d k = record { fault = d; at = k }

-- a refused element is the first wrong one
bad_leftmost : (f : Field) (es : List (List ℕ)) (k : ℕ) (b : BadElement) → first_bad f k es ≡ Some b → Leftmost f es k b
bad_leftmost f [] k b h = absurd cc
bad_leftmost f (e ∷ es) k b h =
    go (verdict f e) refl (verdict_judged f e) (bad_leftmost f es (k + (length e + 1)) b)
  where
    go : (r : Result Span Fault) → verdict f e ≡ r → Judged f e r →
        (first_bad f (k + (length e + 1)) es ≡ Some b → Leftmost f es (k + (length e + 1)) b) →
        Leftmost f (e ∷ es) k b
    go (Ok s) q j rest = later (rest (rw q at h))
      where
        later : Leftmost f es (k + (length e + 1)) b → Leftmost f (e ∷ es) k b
        later p = record {
          which = suc p.which;
          listed = omega arith;
          begins = omega arith;
          wrong = p.wrong;
          least = p.least;
          before = before;
        }
          where
            before : (i : ℕ) → i < suc p.which → (d : Fault) → Wrong f (get_or (e ∷ es) i []) d → ⊥
            before zero l d w = sound_right f e s j.0 j.1 d w
            before (suc i) l d w = p.before i (omega arith) d w
    go (Err c) q j rest =
        let t : Some (bad c k) ≡ Some b = rw q at h in
        let u : bad c k ≡ b = cc in
        subst (Leftmost f (e ∷ es) k) u (record {
          which = 0;
          listed = omega arith;
          begins = omega arith;
          wrong = j.0;
          least = j.1;
          before = λ i l d w. omega arith;
        })

-- no element of a list is wrong
abbrev pub Faultless : Field → List (List ℕ) → Type 0
Faultless f es = (i : ℕ) → i < length es → (d : Fault) → Wrong f (get_or es i []) d → ⊥

-- where none is refused, none is wrong
pub none_wrong : (f : Field) (es : List (List ℕ)) (k : ℕ) → first_bad f k es ≡ None → Faultless f es
none_wrong f [] k h = λ i l d w. omega arith
none_wrong f (e ∷ es) k h =
    go (verdict f e) refl (verdict_judged f e) (none_wrong f es (k + (length e + 1)))
  where
    go : (r : Result Span Fault) → verdict f e ≡ r → Judged f e r →
        (first_bad f (k + (length e + 1)) es ≡ None → Faultless f es) → Faultless f (e ∷ es)
    go (Ok s) q j rest zero l d w = sound_right f e s j.0 j.1 d w
    go (Ok s) q j rest (suc i) l d w = rest (rw q at h) i (omega arith) d w
    go (Err c) q j rest i l d w = cc (sym (rw q at h))

pub takes_faultless : TakesFaultless
takes_faultless f s h at d w =
    let p = wrong_in f s at d w in
    none_wrong f (split 44 s) 0 h p.which p.listed d p.wrong

-- any other wrong element stands further right, or is refused by no lesser number
leftmost_first : (f : Field) (es : List (List ℕ)) (b : BadElement) → Leftmost f es 0 b →
    (at : ℕ) (d : Fault) → WrongIn f es at d →
    (b.at < at) ⊎ ((b.at ≡ at) × (fault_number b.fault ≤ fault_number d))
leftmost_first f es b m at d w = go (cases_order m.which w.which)
  where
    go : (m.which ≡ w.which) ⊎ ((m.which < w.which) ⊎ (w.which < m.which)) →
        (b.at < at) ⊎ ((b.at ≡ at) × (fault_number b.fault ≤ fault_number d))
    go (inl q) =
        let r = ap (λ (i : ℕ). place (take i es)) q in
        inr (omega arith, m.least d (subst (λ (i : ℕ). Wrong f (get_or es i []) d) (sym q) w.wrong))
    go (inr (inl l)) =
        let r = place_rises es m.which w.which l w.listed in inl (omega arith)
    go (inr (inr l)) = absurd (m.before w.which l d w.wrong)

pub refuses_leftmost : RefusesLeftmost
refuses_leftmost f s b h = (left m, λ at d w. leftmost_first f (split 44 s) b m at d (wrong_in f s at d w))
  where
    m : Leftmost f (split 44 s) 0 b
    m = bad_leftmost f (split 44 s) 0 b h

    left : Leftmost f (split 44 s) 0 b → WrongAt f s b.at b.fault
    left p = record {
      elements = split 44 s;
      parted = split_parted 44 s;
      which = p.which;
      listed = p.listed;
      begins = omega (arith, p.begins);
      wrong = p.wrong;
    }
