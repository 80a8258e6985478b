use Rattle.std.proofs.Common.{◌∙◌, subst}
use Rattle.std.specs.Option.{option_map}
use Rattle.time.specs.declared.minute.Minute.{Minute}
use Rattle.zone.specs.Offsets.{NextChange}
use Rattle.zone_join.proofs.Each.{roomy_late, roomy_early}
use Rattle.zone_join.proofs.Seams.{taken_is}
use Rattle.zone_join.proofs.seam.Seam.is_lawful.Goals as goal

pub returns : goal.returns
returns g c =
    let self = c.args.self.now in
    let t = self.room.t.0 in
    let f = g.A.Zone.offsets self.a.now in
    let h = g.B.Zone.offsets self.b.now in
    let laws = taken_is f h t c.change.result c.lawful.ensures c.lawful-2.ensures in
    let jump = laws (roomy_late t self.room.roomy) (roomy_early t self.room.roomy) c.change.ensures in
    let after = subst (λ (m : Minute). NextChange h m.0 (option_map (λ m. m.0) c.change_after-after.result)) c.at.ensures c.change_after-after.ensures in
    let e = jump c.day_before.result.minute.0 _ _ c.day_before.ensures c.change_after-before.ensures after in
    let asked = rw c.minute.ensures at c.is_smooth.ensures in
    asked ∙ e
