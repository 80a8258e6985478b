-- The first bad entry of a table, by the place of the first entry that may not follow the one before it.
use Rattle.std.proofs.Common.{◌≡◌, ℕ, suc, ◌+◌, ◌<◌, ◌≤◌, Bool, true, false, cond, not, List, [], ◌∷◌, length, get_or, drop, Some, Option, position, sym, refl, ap, ◌∙◌, add-one, arith}
use Rattle.std.specs.List.{position_from, zip}
use Rattle.std.specs.Option.{option_map}
use Rattle.std.proofs.lemmas.List.Quantifiers.{position-Some}
use Rattle.std.proofs.lemmas.Slice.Zip.{length-zip}
use Rattle.std.proofs.lemmas.Iterator.Adapters.{position_from-zero}
use Rattle.zone.specs.declared.entry.Entry.{Entry}
use Rattle.zone.specs.Table.{blank, first_bad, follows, starts, entry_fault}

abbrev misfit : Entry × Entry → Bool
misfit x = not (follows x.0 x.1)

pub misfit_within : (es : List Entry) (i : ℕ) → position misfit (zip es (drop 1 es)) ≡ Some i → i < length es
misfit_within es i e =
    omega (arith, (position-Some misfit (zip es (drop 1 es)) i (blank, blank) e).0, length-zip es (drop 1 es))

from_next : (k : ℕ) (xs : List (Entry × Entry)) → position_from misfit (k + 1) xs ≡ option_map (λ i. 1 + i) (position_from misfit k xs)
from_next k [] = refl
from_next k (x ∷ xs) = go (misfit x) (from_next (k + 1) xs)
  where
    go : (b : Bool) → position_from misfit (k + 1 + 1) xs ≡ option_map (λ i. 1 + i) (position_from misfit (k + 1) xs)
        → cond b (Some (k + 1)) (position_from misfit (k + 1 + 1) xs)
        ≡ option_map (λ i. 1 + i) (cond b (Some k) (position_from misfit (k + 1) xs))
    go true e = ap Some (omega arith)
    go false e = e

bad_there : (k : ℕ) (p : Entry) (es : List Entry) → first_bad k p es ≡ position_from misfit k (zip (p ∷ es) es)
bad_there k p [] = refl
bad_there k p (e ∷ es) = go (follows p e) (bad_there (suc k) e es)
  where
    go : (b : Bool) → first_bad (suc k) e es ≡ position_from misfit (suc k) (zip (e ∷ es) es)
        → elim b as (λ _. Option ℕ) [ true ↦ first_bad (suc k) e es | false ↦ Some k ]
        ≡ cond (not b) (Some k) (position_from misfit (k + 1) (zip (e ∷ es) es))
    go true h = h ∙ ap (λ (n : ℕ). position_from misfit n (zip (e ∷ es) es)) (sym (add-one k))
    go false h = refl

-- where the first entry may stand there
pub fault_there :
    (es : List Entry) (r : Option ℕ) → 1 ≤ length es → starts (get_or es 0 blank) ≡ true
    → r ≡ position misfit (zip es (drop 1 es)) → option_map (λ i. 1 + i) r ≡ entry_fault es
fault_there [] r some good e = absurd (omega arith)
fault_there (x ∷ es) r some good e =
    ap (option_map (λ i. 1 + i)) (e ∙ position_from-zero misfit (zip (x ∷ es) es))
    ∙ sym (from_next 0 (zip (x ∷ es) es))
    ∙ sym (bad_there 1 x es)
    ∙ go (starts x) good
  where
    go : (b : Bool) → b ≡ true → first_bad 1 x es ≡ elim b as (λ _. Option ℕ) [ true ↦ first_bad 1 x es | false ↦ Some 0 ]
    go true q = refl
    go false q = absurd (grind arith)
