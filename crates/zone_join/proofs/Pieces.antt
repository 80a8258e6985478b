-- Offsets joined at t: before, at and after it.
use Rattle.std.proofs.Common.{◌≡◌, ℕ, ◌-◌, ◌<◌, ◌≤◌, ℤ, sym, refl, ◌∙◌, arith, le-ltb, lt-ltb}
use Rattle.zone_join.specs.Joined.{joined}

module _ (f g : ℕ → ℤ) (t : ℕ) where
  pub below : (u : ℕ) → u < t → joined f g t u ≡ f u
  below u h = rw (lt-ltb u t h) refl

  pub above : (u : ℕ) → t ≤ u → joined f g t u ≡ g u
  above u h = rw (le-ltb u t h) refl

  -- a minute that does not change
  pub level_before : (v : ℕ) → v < t → f v ≡ f (v - 1) → joined f g t v ≡ joined f g t (v - 1)
  level_before v h e = below v h ∙ e ∙ sym (below (v - 1) (omega arith))

  pub level_at : 0 < t → g t ≡ f (t - 1) → joined f g t t ≡ joined f g t (t - 1)
  level_at z e = above t (omega arith) ∙ e ∙ sym (below (t - 1) (omega arith))

  pub level_after : (v : ℕ) → t < v → g v ≡ g (v - 1) → joined f g t v ≡ joined f g t (v - 1)
  level_after v h e = above v (omega arith) ∙ e ∙ sym (above (v - 1) (omega arith))

  pub back_before : (v : ℕ) → v < t → joined f g t v ≡ joined f g t (v - 1) → f v ≡ f (v - 1)
  back_before v h e = sym (below v h) ∙ e ∙ below (v - 1) (omega arith)

  pub back_at : 0 < t → joined f g t t ≡ joined f g t (t - 1) → g t ≡ f (t - 1)
  back_at z e = sym (above t (omega arith)) ∙ e ∙ below (t - 1) (omega arith)

  pub back_after : (v : ℕ) → t < v → joined f g t v ≡ joined f g t (v - 1) → g v ≡ g (v - 1)
  back_after v h e = sym (above v (omega arith)) ∙ e ∙ above (v - 1) (omega arith)
