-- The offsets of a table without fault obey the law, and change at the minute of each entry.
use Rattle.std.proofs.Common.{◌≡◌, ℕ, ◌+◌, ◌-◌, ◌<◌, ◌≤◌, List, [], ◌∷◌, ℤ, pos, ◌-ℤ◌, nat_abs, Some, None, Option, sym, refl, ◌∙◌, subst, arith, le-leb}
use Rattle.std.proofs.Math.Decide.{dec_le}
use Rattle.std.proofs.Math.Path.{fun_ext}
use Rattle.std.proofs.lemmas.Bool.{lt-leb}
use Rattle.std.proofs.lemmas.Int.{ints}
use Rattle.zone.specs.declared.entry.Entry.{Entry}
use Rattle.zone.specs.Limits.{most_offset, most_change, least_apart}
use Rattle.zone.specs.Offsets.{Changes, NextChange, Law}
use Rattle.zone.specs.Table.{in_force, table_offset}
use Rattle.zone.proofs.Chain.{Chain, Good}

-- the offset in force, before and from an entry on
module _ (o : ℤ) (e : Entry) (es : List Entry) (u : ℕ) where
  pub before : u < e.minute.0 → in_force o (e ∷ es) u ≡ o
  before h = rw (lt-leb _ _ h, in_force) refl

  pub from : e.minute.0 ≤ u → in_force o (e ∷ es) u ≡ in_force e.offset es u
  from h = rw (le-leb _ _ h, in_force) refl

-- for a day the offset stays
pub stays :
    (p : Entry) (es : List Entry) (u : ℕ) →
    Chain p es →
    u < p.minute.0 + least_apart →
    in_force p.offset es u ≡ p.offset
stays p [] u c h = refl
stays p (e ∷ es) u c h = let f = c.0.apart in before p.offset e es u (omega arith)

minus_self : (z : ℤ) → nat_abs (z -ℤ z) ≤ most_change
minus_self z = omega (arith, ints)

pub step_few :
    (p : Entry) (es : List Entry) (v : ℕ) →
    Chain p es →
    nat_abs (in_force p.offset es v -ℤ in_force p.offset es (v - 1)) ≤ most_change
step_few p [] v c = minus_self p.offset
step_few p (e ∷ es) v c =
    elim (dec_le e.minute.0 (v - 1)) [
      | yes a ↦
          rw (from p.offset e es v (omega arith), from p.offset e es (v - 1) a) (step_few e es v c.1)
      | no a ↦
          elim (dec_le e.minute.0 v) [
            | yes b ↦
                (let day : v < e.minute.0 + least_apart = omega arith in
                rw (from p.offset e es v b, before p.offset e es (v - 1) (omega arith), stays e es v c.1 day)
                c.0.few)
            | no b ↦
                rw (before p.offset e es v (omega arith), before p.offset e es (v - 1) (omega arith))
                (minus_self p.offset)
          ]
    ]

pub changes_apart :
    (p : Entry) (es : List Entry) (v w : ℕ) →
    Chain p es →
    v < w →
    Changes (in_force p.offset es) v →
    Changes (in_force p.offset es) w →
    v + least_apart ≤ w
changes_apart p [] v w c lt cv cw = absurd (cv refl)
changes_apart p (e ∷ es) v w c lt cv cw =
    elim (dec_le e.minute.0 (v - 1)) [
      | yes a ↦ changes_apart e es v w c.1 lt (moved v a cv) (moved w (omega arith) cw)
      | no a ↦
          elim (dec_le e.minute.0 v) [
            | yes b ↦
                elim (dec_le (v + least_apart) w) [
                  | yes d ↦ d
                  | no d ↦ absurd (cw (level w (omega arith) (omega arith)
                      ∙ sym (level (w - 1) (omega arith) (omega arith))))
                ]
            | no b ↦ absurd (cv (old v (omega arith) ∙ sym (old (v - 1) (omega arith))))
          ]
    ]
  where
    old : (x : ℕ) → x < e.minute.0 → in_force p.offset (e ∷ es) x ≡ p.offset
    old x h = before p.offset e es x h

    moved :
        (x : ℕ) →
        e.minute.0 ≤ x - 1 →
        Changes (in_force p.offset (e ∷ es)) x →
        Changes (in_force e.offset es) x
    moved x h k q = k (from p.offset e es x (omega arith) ∙ q ∙ sym (from p.offset e es (x - 1) h))

    level :
        (x : ℕ) →
        e.minute.0 ≤ x →
        x < e.minute.0 + least_apart →
        in_force p.offset (e ∷ es) x ≡ e.offset
    level x h k = from p.offset e es x h ∙ stays e es x c.1 k

pub ranged :
    (o : ℤ) (p : Entry) (es : List Entry) (v : ℕ) →
    nat_abs o ≤ most_offset →
    Chain p es →
    nat_abs (in_force o es v) ≤ most_offset
ranged o p [] v h c = h
ranged o p (e ∷ es) v h c =
    elim (dec_le e.minute.0 v) [
      | yes a ↦ rw (from o e es v a) (ranged e.offset e es v c.0.range c.1)
      | no a ↦ rw (before o e es v (omega arith)) h
    ]

pub first :
    (e : Entry) (es : List Entry) (u : ℕ) →
    e.minute.0 ≡ 0 →
    table_offset (e ∷ es) u ≡ in_force e.offset es u
first e es u z = from (pos 0) e es u (omega arith)

pub law_of : (es : List Entry) → Good es → Law (table_offset es)
law_of [] g =
    record {
      range = λ v h k. omega arith;
      step = λ v h k. omega arith;
      apart = λ v w h lt k cv cw. absurd (cv refl);
    }
law_of (e ∷ es) g =
    subst Law
    (fun_ext (λ u. sym (first e es u g.0)))
    (record {
      range = λ v h k. ranged e.offset e es v g.1 g.2;
      step = λ v h k. step_few e es v g.2;
      apart = λ v w h lt k cv cw. changes_apart e es v w g.2 lt cv cw;
    })

-- the next change speaks of the minutes from u on
pub next_moved :
    (f g : ℕ → ℤ) (u : ℕ) (r : Option ℕ) →
    ((w : ℕ) → u ≤ w → f w ≡ g w) →
    NextChange g u r →
    NextChange f u r
next_moved f g u None e n = λ v h k. e v (omega arith) ∙ n v h k ∙ sym (e (v - 1) (omega arith))
next_moved f g u (Some v) e n =
    let h = n.0 in (
      h,
      n.1,
      λ q. n.2 (sym (e v (omega arith)) ∙ q ∙ e (v - 1) (omega arith)),
      λ w a b. e w (omega arith) ∙ n.3 w a b ∙ sym (e (w - 1) (omega arith)),
    )
