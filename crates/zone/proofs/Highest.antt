-- The greatest label of the minutes before u.
use Rattle.std.proofs.Common.{◌≡◌, ℕ, zero, suc, ◌+◌, ◌-◌, ◌<◌, ◌≤◌, ℤ, pos, negsuc, sym, ap, ◌∙◌, subst, arith, lit<}
use Rattle.std.proofs.Math.Decide.{ℕ_discrete}
use Rattle.std.proofs.Math.IntN.{ℤ_discrete}
use Rattle.time.specs.Limits.{first_told, first_minute, last_minute}
use Rattle.zone.specs.Limits.{least_apart, look_back}
use Rattle.zone.specs.Offsets.{shifted, label, Changes, Law, highest, reached}

-- offsets do not change after a, to b
abbrev pub Level : (ℕ → ℤ) → ℕ → ℕ → Type 0
Level off a b = (x : ℕ) → a < x → x ≤ b → off x ≡ off (x - 1)

module _ (off : ℕ → ℤ) where
  pub hi_below : (n u x : ℕ) → ((k : ℕ) → k < n → label off (u - suc k) ≤ x) → highest off n u ≤ x
  hi_below zero u x h = omega arith
  hi_below (suc n) u x h =
      let a = hi_below n u x (λ k lt. h k (omega arith)) in
      let b = h n (omega arith) in
      omega arith

  pub hi_above : (n u k : ℕ) → k < n → label off (u - suc k) ≤ highest off n u
  hi_above zero u k h = absurd (omega arith)
  hi_above (suc n) u k h =
      elim (ℕ_discrete k n) [
        | yes q ↦ subst (λ (x : ℕ). label off (u - suc x) ≤ highest off (suc n) u) (sym q) (omega arith)
        | no q ↦ let a = hi_above n u k (omega arith) in omega arith
      ]

  -- the offset stays where it does not change
  pub stays_for : (a n : ℕ) → Level off a (a + n) → off (a + n) ≡ off a
  stays_for a zero h = ap off (omega arith)
  stays_for a (suc n) h =
      h (a + suc n) (omega arith) (omega arith)
      ∙ ap off (omega arith)
      ∙ stays_for a n (λ w x y. h w x (omega arith))

  pub stays_to : (a b w : ℕ) → Level off a b → a ≤ w → w ≤ b → off w ≡ off a
  stays_to a b w h l r = ap off (omega arith) ∙ stays_for a (w - a) (λ x y z. h x y (omega arith))

pub shifted_mono : (o : ℤ) (a b : ℕ) → a ≤ b → shifted a o ≤ shifted b o
shifted_mono (pos n) a b h = omega arith
shifted_mono (negsuc n) a b h = omega arith

-- labels rise while the offset stays
pub rises : (off : ℕ → ℤ) (a b w : ℕ) → Level off a b → a ≤ w → w ≤ b → label off w ≤ label off b
rises off a b w h l r =
    subst (λ (o : ℤ). shifted w o ≤ label off b)
    (stays_to off a b b h (omega arith) (omega arith) ∙ sym (stays_to off a b w h l r))
    (shifted_mono (off b) w b r)

-- without a change in the n minutes before u the last of them has the greatest label
pub hi_level :
    (off : ℕ → ℤ) (n u : ℕ) →
    0 < n →
    n ≤ u →
    Level off (u - n) (u - 1) →
    highest off n u ≡ label off (u - 1)
hi_level off n u some room h =
    let each = λ (k : ℕ) (lt : k < n). rises off (u - n) (u - 1) (u - suc k) h (omega arith) (omega arith) in
    let a = hi_below off n u (label off (u - 1)) each in
    let b = hi_above off n u 0 some in
    omega arith

module _ (off : ℕ → ℤ) (law : Law off) where
  -- after a change at v none follows within a day
  pub quiet_after :
      (v x : ℕ) →
      first_told < v →
      Changes off v →
      v < x →
      x < v + least_apart →
      x ≤ last_minute →
      off x ≡ off (x - 1)
  quiet_after v x h c a b e =
      elim (ℤ_discrete (off x) (off (x - 1))) [
        | yes q ↦ q
        | no q ↦ absurd (let m = law.apart v x h a e c q in omega arith)
      ]

  -- and none came before it within a day
  pub quiet_before :
      (v x : ℕ) →
      first_told < x →
      Changes off v →
      x < v →
      v < x + least_apart →
      v ≤ last_minute →
      off x ≡ off (x - 1)
  quiet_before v x h c a b e =
      elim (ℤ_discrete (off x) (off (x - 1))) [
        | yes q ↦ q
        | no q ↦ absurd (let m = law.apart x v h a e q c in omega arith)
      ]

  -- equal offsets less than a day apart: no change between
  pub level_between :
      (a b : ℕ) →
      first_told ≤ a →
      b < a + least_apart →
      b ≤ last_minute →
      off a ≡ off b →
      Level off a b
  level_between a b h k m e x p q =
      elim (ℤ_discrete (off x) (off (x - 1))) [
        | yes r ↦ r
        | no r ↦ absurd (r (sym (after r) ∙ sym e ∙ sym (before r)))
      ]
    where
      after : Changes off x → off b ≡ off x
      after r =
          stays_to off x b b
          (λ y i j. quiet_after x y (omega arith) r i (omega arith) (omega arith))
          (omega arith)
          (omega arith)

      before : Changes off x → off (x - 1) ≡ off a
      before r =
          stays_to off a (x - 1) (x - 1)
          (λ y i j. quiet_before x y (omega arith) r (omega arith) (omega arith) (omega arith))
          (omega arith)
          (omega arith)

  pub reached_level :
      (u : ℕ) →
      first_minute ≤ u →
      u ≤ last_minute →
      off (u - look_back) ≡ off u →
      reached off u ≡ label off (u - 1)
  unfolding reached
  reached_level u a b e =
      let level = level_between (u - look_back) u (omega arith) (omega arith) b e in
      hi_level off look_back u (lit< tt) (omega arith) (λ x y z. level x y (omega arith))

-- all of them
pub hi_done : (off : ℕ → ℤ) (k u top : ℕ) → top ≡ highest off k u → k ≡ look_back → top ≡ reached off u
unfolding reached
hi_done off k u top e q = e ∙ ap (λ (n : ℕ). highest off n u) q
