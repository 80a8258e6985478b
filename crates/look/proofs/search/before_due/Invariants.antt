use Rattle.std.proofs.Common.{◌≡◌, ◌+◌, ◌-◌, ◌<◌, ◌≤◌}
use Rattle.look.specs.Examined.{due_of}
use Rattle.look.proofs.search.before_due.Given as goal
use Rattle.service.specs.Outcomes.{before_due}
use Rattle.time.specs.Limits.{lines}
use Rattle.time.specs.Position.{rank, rank_of}

abbrev pub invariant-loop-u : goal.invariant-loop-u
invariant-loop-u g l =
    (l.examined ≤ l.count)
    × (l.line < lines)
    × (l.examined < l.count → rank_of l.u l.line ≡ rank l.fn.from + l.examined)
    × (before_due (due_of (g.Z.Zone.offsets l.zone) l.jobs) (rank l.fn.from) l.count
    ≡ l.examined
    + before_due (due_of (g.Z.Zone.offsets l.zone) l.jobs) (rank l.fn.from + l.examined) (l.count - l.examined))
