-- A text has its lines in one way: as `lines` gives them.
use Rattle.std.proofs.Common.{◌≡◌, ℕ, ◌<◌, Bool, true, false, eqb, List, [], ◌∷◌, ◌++◌, length, sym, refl, ap, subst, arith}
use Rattle.std.proofs.lemmas.Bool.{ne_eqb, eqb-true, eqb-false}
use Rattle.fields.specs.Bytes.{longer}
use Rattle.field_grammar.specs.Grammar.{Without}
use Rattle.field_grammar.proofs.Cuts.{without_none, without_more, without_first, without_rest}
use Rattle.crontab.specs.File.{lines}
use Rattle.crontab_grammar.specs.Grammar.{Lines, none, last, more}
use Rattle.crontab_grammar.specs.Laws.{ReadsLines}

-- one more byte, not 10, in front of a text makes its first line longer
longer_lines : {x : ℕ} {s : List ℕ} {ls : List (List ℕ)} → (x ≡ 10 → ⊥) → Lines s ls → Lines (x ∷ s) (longer x ls)
longer_lines {x} n none = last (without_more 10 x [] n (without_none 10)) (omega arith)
longer_lines {x} n (last {l} w h) = last (without_more 10 x l n w) (omega arith)
longer_lines {x} n (more {l} w p) = more (without_more 10 x l n w) p

-- what `lines` gives are the lines of the text
pub lines_had : (s : List ℕ) → Lines s (lines s)
lines_had [] = none
lines_had (x ∷ s) = go (eqb x 10) refl (lines_had s)
  where
    go : (t : Bool) → eqb x 10 ≡ t → Lines s (lines s) → Lines (x ∷ s) (lines (x ∷ s))
    go true e p =
        rw e (subst (λ (y : ℕ). Lines (y ∷ s) ([] ∷ lines s)) (sym (eqb-true x 10 e)) (more (without_none 10) p))
    go false e p = rw e (longer_lines (eqb-false x 10 e) p)

-- a text without byte 10 is its one line, if it has a byte
lines_last : (l : List ℕ) → Without 10 l → 0 < length l → lines l ≡ l ∷ []
lines_last [] w h = absurd (omega arith)
lines_last (x ∷ []) w h = rw (ne_eqb x 10 (without_first 10 x [] w)) refl
lines_last (x ∷ y ∷ l) w h =
    rw (ne_eqb x 10 (without_first 10 x (y ∷ l) w))
    (ap (longer x) (lines_last (y ∷ l) (without_rest 10 x (y ∷ l) w) (omega arith)))

-- a text without byte 10, and byte 10, make a line
lines_more : (l s : List ℕ) → Without 10 l → lines (l ++ 10 ∷ s) ≡ l ∷ lines s
lines_more [] s w = refl
lines_more (x ∷ l) s w =
    rw (ne_eqb x 10 (without_first 10 x l w)) (ap (longer x) (lines_more l s (without_rest 10 x l w)))

-- the lines of a text are what `lines` gives
pub lines_read : {s : List ℕ} {ls : List (List ℕ)} → Lines s ls → lines s ≡ ls
lines_read none = refl
lines_read (last {l} w h) = lines_last l w h
lines_read (more {l} {s} w p) = rw (lines_more l s w) (ap (λ (ls : List (List ℕ)). l ∷ ls) (lines_read p))

pub reads_lines : ReadsLines
reads_lines s ls = (λ q. rw q at (lines_had s), lines_read)
