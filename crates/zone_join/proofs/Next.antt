-- The next change of a join.
use Rattle.std.proofs.Common.{◌≡◌, ℕ, ◌-◌, ◌<◌, ◌≤◌, ℤ, ◌-ℤ◌, nat_abs, Some, None, Option, subst, arith}
use Rattle.std.proofs.Math.Decide.{dec_le}
use Rattle.std.proofs.lemmas.Int.{ints}
use Rattle.time.specs.Limits.{last_minute}
use Rattle.zone.specs.Offsets.{NextChange}
use Rattle.zone.proofs.Lawful.{next_moved}
use Rattle.zone_join.specs.Joined.{joined}
use Rattle.zone_join.proofs.Pieces.{above, level_before, level_at, back_before, back_at}

-- a stretch without change before where the next is sought
pub next_skips :
    (h : ℕ → ℤ) (u v : ℕ) (r : Option ℕ) →
    u ≤ v →
    ((w : ℕ) → u < w → w ≤ v → h w ≡ h (w - 1)) →
    NextChange h v r →
    NextChange h u r
next_skips h u v None le q n = λ w l m. elim (dec_le w v) [ yes x ↦ q w l x | no x ↦ n w (omega arith) m ]
next_skips h u v (Some x) le q n =
    let i = n.0 in (
      omega arith,
      n.1,
      n.2,
      λ w l m. elim (dec_le w v) [ yes y ↦ q w l y | no y ↦ n.3 w (omega arith) m ],
    )

module _ (f g : ℕ → ℤ) (t u : ℕ) where
  pub next_after : (r : Option ℕ) → t ≤ u → NextChange g u r → NextChange (joined f g t) u r
  next_after r h n = next_moved (joined f g t) g u r (λ w l. above f g t w (omega arith)) n

  pub next_before : (v : ℕ) → NextChange f u (Some v) → v < t → NextChange (joined f g t) u (Some v)
  next_before v n l =
      (n.0, n.1, λ e. n.2 (back_before f g t v l e), λ w a b. level_before f g t w (omega arith) (n.3 w a b))

  -- none of the first zone between u and t
  pub next_later :
      (r : Option ℕ) →
      u < t →
      ((w : ℕ) → u < w → w < t → f w ≡ f (w - 1)) →
      NextChange (joined f g t) (t - 1) r →
      NextChange (joined f g t) u r
  next_later r l q n =
      next_skips (joined f g t) u (t - 1) r (omega arith)
      (λ w a b. level_before f g t w (omega arith) (q w a (omega arith)))
      n

module _ (f g : ℕ → ℤ) (t d : ℕ) (z : 0 < t) (m : t ≤ last_minute) (q : d ≡ nat_abs (g t -ℤ f (t - 1))) where
  pub change_at : (d ≡ 0 → ⊥) → NextChange (joined f g t) (t - 1) (Some t)
  change_at c =
      (omega arith, m, λ e. c (let k = back_at f g t z e in omega (arith, ints)), λ w a b. absurd (omega arith))

  pub no_change_at : d ≡ 0 → (r : Option ℕ) → NextChange g t r → NextChange (joined f g t) (t - 1) r
  no_change_at e r n =
      next_skips (joined f g t) (t - 1) t r (omega arith)
      (λ w a b. let y : t ≡ w = omega arith in
      subst (λ (x : ℕ). joined f g t x ≡ joined f g t (x - 1)) y (level_at f g t z (omega (arith, ints))))
      (next_after f g t t r (omega arith) n)
