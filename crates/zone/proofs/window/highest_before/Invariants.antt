use Rattle.std.proofs.Common.{◌≡◌, ◌-◌}
use Rattle.zone.specs.Offsets.{highest}
use Rattle.zone.proofs.window.highest_before.Given as goal

abbrev pub invariant-loop-k : goal.invariant-loop-k
invariant-loop-k g l = l.top.0 ≡ highest (g.Z.Zone.offsets l.z) (l.k - 1) l.u.minute.0
