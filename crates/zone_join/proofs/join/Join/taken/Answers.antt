use Rattle.std.proofs.Common.{sym}
use Rattle.zone_join.proofs.Each.{no_room}
use Rattle.zone_join.proofs.join.Join.taken.Goals as goal

pub returns-in_err-room : goal.returns-in_err-room
returns-in_err-room g c =
    let self = c.args.self.now in
    let k = c.in_err-room.ensures in
    let q = sym (no_room (g.A.Zone.offsets self.a) (g.B.Zone.offsets self.b) self.t.0 k) in
    rw c.from_residual.ensures q
