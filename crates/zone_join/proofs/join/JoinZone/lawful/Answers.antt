use Rattle.zone_join.proofs.Seams.{join_law}
use Rattle.zone_join.proofs.join.JoinZone.lawful.Goals as goal

pub returns : goal.returns
returns g c =
    let self = c.args.self.now in
    let f = g.A.Zone.offsets self.a in
    let h = g.B.Zone.offsets self.b in
    join_law f h self.t.0 c.lawful.ensures c.lawful-2.ensures
