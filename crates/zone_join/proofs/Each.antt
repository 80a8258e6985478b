-- The law as a test of each minute tells the law as it reads.
use Rattle.std.proofs.Common.{◌≡◌, ℕ, zero, suc, ◌+◌, ◌-◌, ◌<◌, ◌≤◌, Bool, true, false, ltb, leb, ℤ, nat_abs, Decides, sym, refl, ap, ◌∙◌, arith, ltb-false, ltb-true, le-leb, leb-false, leb-true}
use Rattle.std.proofs.Math.Decide.{dec_le, ℕ_discrete}
use Rattle.std.proofs.lemmas.Bool.{and_parts, and_from}
use Rattle.std.proofs.lemmas.Int.{ints}
use Rattle.time.specs.Limits.{first_told, last_minute}
use Rattle.zone.specs.Limits.{most_offset, most_change, least_apart}
use Rattle.zone.specs.Offsets.{Changes, change, Law}
use Rattle.zone_join.specs.Joined.{joined, each, near_at, still_at, calm_at, all_near, all_calm}
use Rattle.zone_join.specs.Joined.{lawful?, roomy, accepts}
use Rattle.zone_join.specs.Laws.{Joinable}
use Rattle.zone_join.specs.Limits.{first_join, last_join}
use Rattle.zone_join.proofs.Bools.{or_r, or_by}

pub each_there : (n : ℕ) (p : ℕ → Bool) (a v : ℕ) → each n p a ≡ true → a ≤ v → v < a + n → p v ≡ true
each_there zero p a v h l r = absurd (omega arith)
each_there (suc n) p a v h l r = go (p a) refl h (each_there n p (suc a) v)
  where
    go :
        (b : Bool) →
        p a ≡ b →
        elim b [ true ↦ each n p (suc a) | false ↦ false ] ≡ true →
        (each n p (suc a) ≡ true → suc a ≤ v → v < suc a + n → p v ≡ true) →
        p v ≡ true
    go true e g ih = elim (ℕ_discrete a v) [ yes q ↦ ap p (sym q) ∙ e | no q ↦ ih g (omega arith) (omega arith) ]
    go false e g ih = absurd (grind arith)

pub each_back : (n : ℕ) (p : ℕ → Bool) (a : ℕ) → ((v : ℕ) → a ≤ v → v < a + n → p v ≡ true) → each n p a ≡ true
each_back zero p a h = refl
each_back (suc n) p a h =
    let e = h a (omega arith) (omega arith) in
    let ih = each_back n p (suc a) (λ v l r. h v (omega arith) (omega arith)) in
    rw (e, each) ih

-- a change of 0 is none
pub change_none : (h : ℕ → ℤ) (v : ℕ) → change h v ≤ 0 → h v ≡ h (v - 1)
change_none h v z = omega (arith, ints)

pub none_change : (h : ℕ → ℤ) (v : ℕ) → h v ≡ h (v - 1) → change h v ≤ 0
none_change h v e = omega (arith, ints)

module _ (h : ℕ → ℤ) (w : ℕ) (m : w ≤ last_minute) where
  pub still_none : still_at h w ≡ true → h w ≡ h (w - 1)
  still_none e =
      change_none h w
      (leb-true _ _
      (or_r (ltb last_minute w) (leb (change h w) 0) e (λ z. let y : last_minute < w = ltb-true _ _ z in omega arith)))

module _ (n : ℕ) (h : ℕ → ℤ) (v : ℕ) where
  pub calm_step : calm_at n h v ≡ true → change h v ≤ most_change
  calm_step e = leb-true _ _ (and_parts (leb (change h v) most_change) _ e).0

  pub calm_apart :
      (w : ℕ) →
      calm_at n h v ≡ true →
      Changes h v →
      v < w →
      w ≤ last_minute →
      Changes h w →
      v + suc n ≤ w
  calm_apart w e c l r d =
      elim (dec_le (v + suc n) w) [
        | yes q ↦ q
        | no q ↦
            absurd (d (still_none h w r (each_there n (still_at h) (suc v) w follow (omega arith) (omega arith))))
      ]
    where
      follow : each n (still_at h) (suc v) ≡ true
      follow =
          or_r (leb (change h v) 0) (each n (still_at h) (suc v))
          (and_parts (leb (change h v) most_change) _ e).1
          (λ z. c (change_none h v (leb-true _ _ z)))

  pub calm_back :
      change h v ≤ most_change →
      (Changes h v → (w : ℕ) → v < w → w ≤ last_minute → Changes h w → v + suc n ≤ w) →
      calm_at n h v ≡ true
  calm_back s a =
      and_from (leb (change h v) most_change) _
      (le-leb _ _ s)
      (or_by (leb (change h v) 0) _
      (λ z. each_back n (still_at h) (suc v)
      (λ w l r. or_by (ltb last_minute w) _ (λ y. still w (ltb-false _ _ y) l r z))))
    where
      still :
          (w : ℕ) →
          w ≤ last_minute →
          suc v ≤ w →
          w < suc v + n →
          leb (change h v) 0 ≡ false →
          leb (change h w) 0 ≡ true
      still w q l r z =
          elim (dec_le (change h w) 0) [
            | yes t ↦ le-leb _ _ t
            | no t ↦ absurd (let k = a moves w (omega arith) q (λ e. t (none_change h w e)) in omega arith)
          ]
        where
          moves : Changes h v
          moves e =
              let m : change h v ≤ 0 = none_change h v e in
              let o : 0 < change h v = leb-false _ _ z in
              omega arith

module _ (h : ℕ → ℤ) where
  near_there : all_near h ≡ true → (v : ℕ) → first_told ≤ v → v ≤ last_minute → near_at h v ≡ true
  unfolding all_near
  near_there e v l r =
      each_there (suc last_minute - first_told) (near_at h) first_told v e (omega arith) (omega arith)

  calm_there :
      all_calm h ≡ true →
      (v : ℕ) →
      first_told < v →
      v ≤ last_minute →
      calm_at (least_apart - 1) h v ≡ true
  unfolding all_calm
  calm_there e v l r =
      let calm = calm_at (least_apart - 1) h in
      each_there (last_minute - first_told) calm (suc first_told) v e (omega arith) (omega arith)

  near_all : Law h → all_near h ≡ true
  unfolding all_near
  near_all k =
      each_back (suc last_minute - first_told) (near_at h) first_told
      (λ v l r. le-leb (nat_abs (h v)) most_offset (k.range v l (omega arith)))

  calm_all : Law h → all_calm h ≡ true
  unfolding all_calm
  calm_all k =
      each_back (last_minute - first_told) (calm_at (least_apart - 1) h) (suc first_told)
      (λ v l r. calm_back (least_apart - 1) h v (k.step v l (omega arith)) (λ c w m q d. k.apart v w l m q c d))

  pub lawful_law : lawful? h ≡ true → Law h
  lawful_law e =
      let near = near_there (and_parts (all_near h) (all_calm h) e).0 in
      let calm = calm_there (and_parts (all_near h) (all_calm h) e).1 in
      record {
        range = λ v l r. leb-true (nat_abs (h v)) most_offset (near v l r);
        step = λ v l r. calm_step (least_apart - 1) h v (calm v l r);
        apart = λ v w l m r cv cw. calm_apart (least_apart - 1) h v w (calm v l (omega arith)) cv m r cw;
      }

  pub law_lawful : Law h → lawful? h ≡ true
  law_lawful k = and_from (all_near h) (all_calm h) (near_all k) (calm_all k)

pub roomy_late : (t : ℕ) → roomy t ≡ true → first_join ≤ t
roomy_late t e = leb-true _ _ (and_parts (leb first_join t) (leb t last_join) e).0

pub roomy_early : (t : ℕ) → roomy t ≡ true → t ≤ last_join
roomy_early t e = leb-true _ _ (and_parts (leb first_join t) (leb t last_join) e).1

-- what a join that is taken tells
module _ (f g : ℕ → ℤ) (t : ℕ) where
  pub accepts_roomy : accepts f g t ≡ true → roomy t ≡ true
  unfolding accepts
  accepts_roomy e = (and_parts (roomy t) (lawful? (joined f g t)) e).0

  pub accepts_law : accepts f g t ≡ true → Law (joined f g t)
  unfolding accepts
  accepts_law e = lawful_law (joined f g t) (and_parts (roomy t) (lawful? (joined f g t)) e).1

  pub law_accepts : first_join ≤ t → t ≤ last_join → Law (joined f g t) → accepts f g t ≡ true
  unfolding accepts
  law_accepts a b l =
      and_from (roomy t) (lawful? (joined f g t))
      (and_from (leb first_join t) (leb t last_join) (le-leb _ _ a) (le-leb _ _ b))
      (law_lawful (joined f g t) l)

  pub no_room : roomy t ≡ false → false ≡ accepts f g t
  unfolding accepts
  no_room e = rw e refl

  pub accepts_decides : Decides (accepts f g t) (Joinable f g t)
  accepts_decides = (there, back)
    where
      there : accepts f g t ≡ true → Joinable f g t
      there e =
          record {
            late = roomy_late t (accepts_roomy e);
            early = roomy_early t (accepts_roomy e);
            law = accepts_law e;
          }

      back : Joinable f g t → accepts f g t ≡ true
      back j = law_accepts j.late j.early j.law
