-- A text is parted in one way: as `split` parts it.
use Rattle.std.proofs.Common.{◌≡◌, ℕ, Bool, true, false, eqb, List, [], ◌∷◌, ◌++◌, sym, refl, ap, subst}
use Rattle.std.proofs.lemmas.Bool.{eq-eqb, ne_eqb, eqb-true, eqb-false}
use Rattle.fields.specs.Bytes.{split, longer}
use Rattle.field_grammar.specs.Grammar.{Without, Parted, last, more}
use Rattle.field_grammar.specs.Laws.{ReadsParts}
use Rattle.field_grammar.proofs.Cuts.{without_none, without_more, without_first, without_rest}

-- one more byte, not b, in front of a parted text makes its first part longer
longer_parted : {b x : ℕ} {s : List ℕ} {es : List (List ℕ)} → (x ≡ b → ⊥) → Parted b s es →
    Parted b (x ∷ s) (longer x es)
longer_parted {b} {x} n (last {e} w) = last (without_more b x e n w)
longer_parted {b} {x} n (more {e} w p) = more (without_more b x e n w) p

-- `split` parts a text
pub split_parted : (b : ℕ) (s : List ℕ) → Parted b s (split b s)
split_parted b [] = last (without_none b)
split_parted b (x ∷ s) = go (eqb x b) refl (split_parted b s)
  where
    go : (t : Bool) → eqb x b ≡ t → Parted b s (split b s) → Parted b (x ∷ s) (split b (x ∷ s))
    go true e p =
        rw e (subst (λ (y : ℕ). Parted b (y ∷ s) ([] ∷ split b s)) (sym (eqb-true x b e)) (more (without_none b) p))
    go false e p = rw e (longer_parted (eqb-false x b e) p)

-- a text without b is its one part
split_last : (b : ℕ) (e : List ℕ) → Without b e → split b e ≡ e ∷ []
split_last b [] w = refl
split_last b (x ∷ e) w =
    rw (ne_eqb x b (without_first b x e w), split_last b e (without_rest b x e w)) refl

-- a text without b, and b, make a part
split_more : (b : ℕ) (e s : List ℕ) → Without b e → split b (e ++ b ∷ s) ≡ e ∷ split b s
split_more b [] s w = rw (eq-eqb b b refl) refl
split_more b (x ∷ e) s w =
    rw (ne_eqb x b (without_first b x e w), split_more b e s (without_rest b x e w)) refl

-- what parts a text is what `split` gives
pub parted_split : {b : ℕ} {s : List ℕ} {es : List (List ℕ)} → Parted b s es → split b s ≡ es
parted_split {b} (last {e} w) = split_last b e w
parted_split {b} (more {e} {s} w p) = rw (split_more b e s w) (ap (λ (es : List (List ℕ)). e ∷ es) (parted_split p))

pub reads_parts : ReadsParts
reads_parts b s es = (λ q. rw q at (split_parted b s), parted_split)
