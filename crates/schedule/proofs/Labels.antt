-- Some label of a window passes, in the words of the rule.
use Rattle.std.proofs.Common.{◌≡◌, ℕ, zero, suc, ◌+◌, ◌-◌, Bool, true, false, ◌||◌, refl, sym, ap, ◌∙◌, arith}
use Rattle.std.proofs.Math.Bool.{or-true}
use Rattle.std.proofs.Math.Nat.{sub-zero}
use Rattle.std.specs.List.{list_any}
use Rattle.zone.specs.Labels.{labels_after}
use Rattle.zone.specs.declared.label.Label.{Label}
use Rattle.schedule.specs.Due.{some_of}

module _ (p : ℕ → Bool) where
  -- the last number that is tried, apart
  last_of : (n m : ℕ) → some_of (suc n) p m ≡ (p (m - n) || some_of n p m)
  last_of zero m = go (p m) refl
    where
      go : (b : Bool) → p m ≡ b → elim b as (λ _. Bool) [ true ↦ true | false ↦ false ] ≡ (p (m - 0) || false)
      go true e = sym (ap (λ x. p x || false) (sub-zero m) ∙ ap (λ x. x || false) e)
      go false e = sym (ap (λ x. p x || false) (sub-zero m) ∙ ap (λ x. x || false) e)
  last_of (suc n) m = go (p m) (last_of n (m - 1))
    where
      go : (b : Bool) → some_of (suc n) p (m - 1) ≡ (p (m - 1 - n) || some_of n p (m - 1))
          → elim b as (λ _. Bool) [ true ↦ true | false ↦ some_of (suc n) p (m - 1) ]
          ≡ (p (m - suc n) || elim b as (λ _. Bool) [ true ↦ true | false ↦ some_of n p (m - 1) ])
      go true h = sym (or-true (p (m - suc n)))
      go false h = h ∙ ap (λ x. p x || some_of n p (m - 1)) (omega arith)

  pub any_some : (n a : ℕ) → list_any (λ (l : Label). p l.0) (labels_after n a) ≡ some_of n p (a + n)
  any_some zero a = refl
  any_some (suc n) a =
      ap (λ x. p (a + 1) || x) (any_some n (a + 1) ∙ ap (some_of n p) (omega arith))
      ∙ ap (λ x. p x || some_of n p (a + suc n)) (omega arith)
      ∙ sym (last_of n (a + suc n))
