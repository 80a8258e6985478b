-- Two zones joined at t: when the law holds.
use Rattle.std.proofs.Common.{◌≡◌, ℕ, ◌+◌, ◌-◌, ◌<◌, ◌≤◌, Bool, true, false, cond, ◌&&◌, ◌||◌, eqb, ltb, leb, ℤ, ◌-ℤ◌, nat_abs, Some, None, Option, refl, subst, arith, ltb-false, ltb-true, eq-eqb, eqb-true, le-leb, leb-true}
use Rattle.std.proofs.Math.Decide.{dec_le, dec_lt, ℕ_discrete}
use Rattle.std.proofs.Math.IntN.{ℤ_discrete}
use Rattle.std.proofs.lemmas.Bool.{eqb-false, and_parts, and_from}
use Rattle.std.proofs.lemmas.Int.{ints}
use Rattle.time.specs.Limits.{first_told, last_minute}
use Rattle.zone.specs.Limits.{most_offset, most_change, least_apart}
use Rattle.zone.specs.Offsets.{Changes, change, NextChange, Law}
use Rattle.zone_join.specs.Joined.{joined, accepts, join_offset, late, clear, smooth}
use Rattle.zone_join.specs.Limits.{first_join, last_join}
use Rattle.zone_join.proofs.Bools.{or_by, both}
use Rattle.zone_join.proofs.Each.{accepts_law, law_accepts}
use Rattle.zone_join.proofs.Pieces.{below, above, level_before, level_at, level_after, back_before, back_at, back_after}

-- what keeps changes apart around t
pub record Seam (f g : ℕ → ℤ) (t : ℕ) : Type 0 where
  pub old :
      (v : ℕ) →
      t < v + least_apart →
      v < t →
      Changes f v →
      (g t ≡ f (t - 1)) × ((w : ℕ) → t < w → w < v + least_apart → w ≤ last_minute → g w ≡ g (w - 1))
  pub new :
      Changes (joined f g t) t →
      (w : ℕ) →
      t < w →
      w < t + least_apart →
      w ≤ last_minute →
      g w ≡ g (w - 1)

module _ (f g : ℕ → ℤ) (t : ℕ) (lf : Law f) (lg : Law g) (a : first_join ≤ t) (b : t ≤ last_join) where
  -- two changes less than a day apart: both before t, both after it, or one on each side
  clash :
      Seam f g t →
      (v w : ℕ) →
      first_told < v →
      v < w →
      w < v + least_apart →
      w ≤ last_minute →
      Changes (joined f g t) v →
      Changes (joined f g t) w →
      ⊥
  clash s v w h l n r cv cw =
      elim (dec_lt w t) [
        | yes x ↦
            (let k =
            lf.apart v w h l r
            (λ e. cv (level_before f g t v (omega arith) e))
            (λ e. cw (level_before f g t w x e)) in
            omega arith)
        | no x ↦
            elim (dec_lt t v) [
              | yes y ↦
                  (let k =
                  lg.apart v w (omega arith) l r
                  (λ e. cv (level_after f g t v y e))
                  (λ e. cw (level_after f g t w (omega arith) e)) in
                  omega arith)
              | no y ↦ elim (ℕ_discrete v t) [ yes z ↦ at z | no z ↦ across (omega arith) (omega arith) ]
            ]
      ]
    where
      at : v ≡ t → ⊥
      at z =
          cw (level_after f g t w (omega arith)
          (s.new (subst (Changes (joined f g t)) z cv) w (omega arith) (omega arith) r))

      across : v < t → t ≤ w → ⊥
      across p q =
          let o = s.old v (omega arith) p (λ e. cv (level_before f g t v p e)) in
          elim (ℕ_discrete w t) [
            | yes i ↦ subst (Changes (joined f g t)) i cw (level_at f g t (omega arith) o.0)
            | no i ↦ cw (level_after f g t w (omega arith) (o.1 w (omega arith) n r))
          ]

  near : (v : ℕ) → first_told ≤ v → v ≤ last_minute → nat_abs (joined f g t v) ≤ most_offset
  near v h r =
      elim (dec_lt v t) [
        | yes x ↦ rw (below f g t v x) (lf.range v h r)
        | no x ↦ rw (above f g t v (omega arith)) (lg.range v h r)
      ]

  few :
      nat_abs (g t -ℤ f (t - 1)) ≤ most_change →
      (v : ℕ) →
      first_told < v →
      v ≤ last_minute →
      change (joined f g t) v ≤ most_change
  few d v h r =
      elim (dec_lt v t) [
        | yes x ↦ rw (below f g t v x, below f g t (v - 1) (omega arith)) (lf.step v h r)
        | no x ↦
            elim (ℕ_discrete t v) [
              | yes z ↦
                  subst (λ (x : ℕ). change (joined f g t) x ≤ most_change) z
                  (rw (above f g t t (omega arith), below f g t (t - 1) (omega arith)) d)
              | no z ↦ rw (above f g t v (omega arith), above f g t (v - 1) (omega arith)) (lg.step v h r)
            ]
      ]

  pub seam_law : nat_abs (g t -ℤ f (t - 1)) ≤ most_change → Seam f g t → Law (joined f g t)
  seam_law d s =
      record {
        range = near;
        step = few d;
        apart = λ v w h l r cv cw. elim (dec_le (v + least_apart) w) [
          | yes q ↦ q
          | no q ↦ absurd (clash s v w h l (omega arith) r cv cw)
        ];
      }

pub join_law : (f g : ℕ → ℤ) (t : ℕ) → Law f → Law g → Law (join_offset f g t)
join_law f g t lf lg = go (accepts f g t) refl
  where
    go : (b : Bool) → accepts f g t ≡ b → Law (λ u. cond b (joined f g t u) (f u))
    go true e = accepts_law f g t e
    go false e = lf

quiet_late :
    (g : ℕ → ℤ) (t s : ℕ) (a : Option ℕ) →
    NextChange g t a →
    late s a ≡ true →
    (w : ℕ) →
    t < w →
    w < s + least_apart →
    w ≤ last_minute →
    g w ≡ g (w - 1)
quiet_late g t s None n e w l r m = n w l m
quiet_late g t s (Some x) n e w l r m = let q : s + least_apart ≤ x = leb-true _ _ e in n.3 w l (omega arith)

module _
    (f g : ℕ → ℤ)
    (t d : ℕ)
    (lf : Law f)
    (lg : Law g)
    (a : first_join ≤ t)
    (b : t ≤ last_join)
    (q : d ≡ nat_abs (g t -ℤ f (t - 1)))
  where
    same : d ≡ 0 → g t ≡ f (t - 1)
    same e = omega (arith, ints)

    zero_change : g t ≡ f (t - 1) → d ≡ 0
    zero_change e = omega (arith, ints)

    -- no change of the first zone in the day before t
    open_seam :
        ((v : ℕ) → t < v + least_apart → v < t → f v ≡ f (v - 1)) →
        (z : Option ℕ) →
        NextChange g t z →
        (eqb d 0 || late t z) ≡ true →
        Seam f g t
    open_seam none z n e =
        record {
          old = λ v h l c. absurd (c (none v h l));
          new = λ c w l r m. go (eqb d 0) refl e c w l r m;
        }
      where
        go :
            (x : Bool) →
            eqb d 0 ≡ x →
            (x || late t z) ≡ true →
            Changes (joined f g t) t →
            (w : ℕ) →
            t < w →
            w < t + least_apart →
            w ≤ last_minute →
            g w ≡ g (w - 1)
        go true p y c w l r m = absurd (c (level_at f g t (omega arith) (same (eqb-true d 0 p))))
        go false p y c w l r m = quiet_late g t t z n y w l r m

    -- one, at v
    shut_seam :
        (v : ℕ) →
        NextChange f (t - least_apart) (Some v) →
        v < t →
        (z : Option ℕ) →
        NextChange g t z →
        d ≡ 0 →
        late v z ≡ true →
        Seam f g t
    shut_seam v n l z m e k =
        record {
          old = λ x h i c.
              let y : x ≡ v = only x h i c in (same e, λ w j r o. quiet_late g t v z m k w j (omega arith) o);
          new = λ c. absurd (c (level_at f g t (omega arith) (same e)));
        }
      where
        only : (x : ℕ) → t < x + least_apart → x < t → Changes f x → x ≡ v
        only x h i c =
            elim (ℕ_discrete x v) [
              | yes y ↦ y
              | no y ↦
                  absurd (elim (dec_lt x v) [
                    | yes o ↦ c (n.3 x (omega arith) o)
                    | no o ↦
                        (let s = n.0 in
                        let r = lf.apart v x (omega arith) (omega arith) (omega arith) n.2 c in
                        omega arith)
                  ])
            ]

    clear_seam :
        (y z : Option ℕ) →
        NextChange f (t - least_apart) y →
        NextChange g t z →
        clear t d y z ≡ true →
        Seam f g t
    clear_seam None z m n e = open_seam (λ v h l. m v (omega arith) (omega arith)) z n e
    clear_seam (Some v) z m n e = go (ltb v t) refl e
      where
        go : (x : Bool) → ltb v t ≡ x → cond x (eqb d 0 && late v z) (eqb d 0 || late t z) ≡ true → Seam f g t
        go true p k =
            shut_seam v m (ltb-true v t p) z n
            (eqb-true d 0 (and_parts (eqb d 0) (late v z) k).0)
            (and_parts (eqb d 0) (late v z) k).1
        go false p k =
            let le : t ≤ v = ltb-false v t p in open_seam (λ x h l. m.3 x (omega arith) (omega arith)) z n k

    module _ (law : Law (joined f g t)) where
      late_from :
          (s : ℕ) →
          first_told < s →
          s ≤ t →
          Changes (joined f g t) s →
          (z : Option ℕ) →
          NextChange g t z →
          late s z ≡ true
      late_from s h l c None n = refl
      late_from s h l c (Some w) n =
          let i = n.0 in
          le-leb _ _ (law.apart s w h (omega arith) n.1 c (λ e. n.2 (back_after f g t w i e)))

      change_late : (z : Option ℕ) → NextChange g t z → (eqb d 0 || late t z) ≡ true
      change_late z n =
          or_by (eqb d 0) (late t z)
          (λ e. late_from t (omega arith) (omega arith)
          (λ k. eqb-false d 0 e (zero_change (back_at f g t (omega arith) k)))
          z n)

      still : (v : ℕ) → v < t → t - least_apart < v → Changes (joined f g t) v → d ≡ 0
      still v lt i cv =
          elim (ℤ_discrete (g t) (f (t - 1))) [
            | yes e ↦ zero_change e
            | no e ↦
                absurd (let moves : Changes (joined f g t) t = (λ x. e (back_at f g t (omega arith) x)) in
                let k = law.apart v t (omega arith) lt (omega arith) cv moves in
                omega arith)
          ]

      law_clear :
          (y z : Option ℕ) →
          NextChange f (t - least_apart) y →
          NextChange g t z →
          clear t d y z ≡ true
      law_clear None z m n = change_late z n
      law_clear (Some v) z m n = go (ltb v t) refl
        where
          go : (x : Bool) → ltb v t ≡ x → cond x (eqb d 0 && late v z) (eqb d 0 || late t z) ≡ true
          go true p =
              let lt : v < t = ltb-true v t p in
              let i = m.0 in
              let cv : Changes (joined f g t) v = (λ e. m.2 (back_before f g t v lt e)) in
              and_from (eqb d 0) (late v z)
              (eq-eqb d 0 (still v lt i cv))
              (late_from v (omega arith) (omega arith) cv z n)
          go false p = change_late z n

      law_change : d ≤ most_change
      law_change =
          let step = law.step t (omega arith) (omega arith) in
          let k = rw (above f g t t (omega arith), below f g t (t - 1) (omega arith)) at step in
          omega (arith, k)

    smooth_law :
        (y z : Option ℕ) →
        NextChange f (t - least_apart) y →
        NextChange g t z →
        smooth t d y z ≡ true →
        Law (joined f g t)
    smooth_law y z m n e =
        seam_law f g t lf lg a b
        (subst (λ (x : ℕ). x ≤ most_change) q (leb-true _ _ (and_parts (leb d most_change) (clear t d y z) e).0))
        (clear_seam y z m n (and_parts (leb d most_change) (clear t d y z) e).1)

    law_smooth :
        (y z : Option ℕ) →
        NextChange f (t - least_apart) y →
        NextChange g t z →
        Law (joined f g t) →
        smooth t d y z ≡ true
    law_smooth y z m n law =
        and_from (leb d most_change) (clear t d y z) (le-leb _ _ (law_change law)) (law_clear law y z m n)

    -- s is the day before t
    pub taken_is :
        (s : ℕ) (y z : Option ℕ) →
        s ≡ t - least_apart →
        NextChange f s y →
        NextChange g t z →
        smooth t d y z ≡ accepts f g t
    taken_is s y z e m n =
        let day = subst (λ (x : ℕ). NextChange f x y) e m in
        both (smooth t d y z) (accepts f g t)
        (λ h. law_accepts f g t a b (smooth_law y z day n h))
        (λ h. law_smooth y z day n (accepts_law f g t h))
