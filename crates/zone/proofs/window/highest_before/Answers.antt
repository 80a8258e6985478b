use Rattle.zone.proofs.Highest.{hi_done}
use Rattle.std.proofs.Common.{◌-◌, arith}
use Rattle.zone.proofs.window.highest_before.Goals as goal

pub returns : goal.returns
returns g c =
    let off = g.Z.Zone.offsets c.args.z.now in
    hi_done off (c.loop-k.k - 1) c.args.u.minute.0 c.loop-k.top.0 c.loop-k.invariant (omega arith)
