-- The first label that passes a test is the least, as they are gone through upwards.
use Rattle.std.proofs.Common.{◌≡◌, ℕ, zero, suc, ◌+◌, ◌-◌, ◌<◌, ◌≤◌, Bool, true, false, cond, Some, None, Option, find, option_map, refl, sym, ap, ◌∙◌, inl, inr, eq-or-lt_of_le, arith}
use Rattle.zone.specs.Labels.{labels_after}
use Rattle.zone.specs.declared.label.Label.{Label}
use Rattle.time_table.specs.Least.{Least}

module _ (p : ℕ → Bool) (low n : ℕ) where
  -- what fails at the next label, and at those after it, fails from here on
  above : (m : ℕ) → p (low + 1) ≡ false → (low + 1 < m → p m ≡ false) → low < m → p m ≡ false
  above m t h a =
      let e : low + 1 ≤ m = omega arith in
      elim (eq-or-lt_of_le e) [ inl q ↦ ap p (sym q) ∙ t | inr q ↦ h q ]

  -- the next label passes, or the least is among those after it
  next : (t : Bool) → p (low + 1) ≡ t → (r : Option Label) → Least p (low + 1) (low + 1 + n) r
      → Least p low (low + suc n) (cond t (Some (record { 0 = low + 1 })) r)
  next true t r h = (omega arith, omega arith, t, λ m a b. absurd (omega (arith, a, b)))
  next false t None h = λ m a b. above m t (λ g. h m g (omega (arith, b))) a
  next false t (Some l) h = (omega (arith, h.0), omega (arith, h.1), h.2, λ m a b. above m t (λ g. h.3 m g b) a)

-- of the n labels after low
least_after : (p : ℕ → Bool) (n low : ℕ) → Least p low (low + n) (find (λ (l : Label). p l.0) (labels_after n low))
least_after p zero low = λ m a b. absurd (omega (arith, a, b))
least_after p (suc n) low = next p low n (p (low + 1)) refl _ (least_after p n (low + 1))

-- as far as high, where there are labels above low up to it
within : (p : ℕ → Bool) (low high : ℕ) (r : Option Label) → Least p low (low + (high - low)) r → Least p low high r
within p low high None h = λ m a b. h m a (omega (arith, a, b))
within p low high (Some l) h = (h.0, omega (arith, h.0, h.1), h.2, h.3)

itself : (r : Option Label) → option_map (λ (l : Label). l) r ≡ r
itself None = refl
itself (Some l) = refl

-- of the labels above low up to high, of which there may be none
pub least_found : (p : ℕ → Bool) (low high : ℕ) (r : Option Label)
    → option_map (λ (l : Label). l) r ≡ find (λ (l : Label). p l.0) (labels_after (high - low) low)
    → Least p low high r
least_found p low high r e = within p low high r (rw (sym (itself r) ∙ e) (least_after p (high - low) low))
