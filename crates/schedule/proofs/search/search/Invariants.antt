use Rattle.std.proofs.Common.{◌<◌, ◌≤◌}
use Rattle.time.specs.Limits.{lines}
use Rattle.time.specs.Position.{rank, rank_of}
use Rattle.schedule.specs.Due.{due_line}
use Rattle.schedule.specs.Search.{NoneDue}
use Rattle.schedule.proofs.search.search.Given as goal

-- no position before this line of minute u is due
abbrev pub invariant-loop-u : goal.invariant-loop-u
invariant-loop-u g l =
    (rank l.fn.from ≤ rank_of l.u l.line)
    × NoneDue (due_line (g.Z.Zone.offsets l.z) l.jobs) (rank l.fn.from) (rank_of l.u l.line)
    × (l.line < lines)
