use Rattle.std.proofs.Common.{◌≡◌, ℕ, ◌<◌, ◌≤◌, false, ap, arith, is_ge, is_lt, nat_cmp}
use Rattle.time.specs.declared.minute.Minute.{Minute}
use Rattle.zone_join.proofs.Each.{roomy_early}
use Rattle.zone_join.proofs.Next.{next_later}
use Rattle.zone_join.proofs.seam.Seam.change_after.Goals as goal
use Rattle.zone_join.proofs.seam.Seam.change_after.Goals.{in_default-via-in-Some+else-lt, in_default-via-in_default}

below : (a b : ℕ) → false ≡ is_ge (nat_cmp a b) → a < b
below a b e = grind arith

not_below : (a b : ℕ) → false ≡ is_lt (nat_cmp a b) → b ≤ a
not_below a b e = grind arith

pub returns-in_default : goal.returns-in_default
returns-in_default g c =
    let self = c.args.self.now in
    let f = g.A.Zone.offsets self.a.now in
    let h = g.B.Zone.offsets self.b.now in
    let t = c.minute-t.result.0 in
    let met = ap (λ (m : Minute). m.0) c.minute-t.ensures in
    let asked = ap (λ (m : Minute). m.0) c.minute.ensures in
    let early = below c.minute.result.0 t c.if-ge.ensures in
    let room = roomy_early self.room.t.0 self.room.roomy in
    let later = next_later f h self.room.t.0 c.args.u.minute.0 _ (omega arith) in
    elim c.in_default.branch [
      | in_default-via-in-Some+else-lt w ↦
          (let late = not_below w.in-Some.v.0 t w.if-lt.ensures in
          later (λ x a b. w.in-Some.ensures.3 x a (omega arith)) c.first_change.ensures)
      | in_default-via-in_default w ↦ later (λ x a b. w.in_default.ensures x a (omega arith)) c.first_change.ensures
    ]
