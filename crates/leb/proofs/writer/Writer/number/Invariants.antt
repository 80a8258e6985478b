use Rattle.std.proofs.Common.{◌≡◌, ◌++◌, take}
use Rattle.leb.specs.Limits.{block}
use Rattle.leb.specs.Number.{number_bytes}
use Rattle.leb.specs.Written.{written}
use Rattle.leb.proofs.writer.Writer.number.Given as goal

abbrev pub invariant-loop-n : goal.invariant-loop-n
invariant-loop-n l =
    take block (written l.self ++ number_bytes l.n) ≡ take block (written l.initial.self ++ number_bytes l.initial.n)

abbrev pub decreases-loop-n : goal.decreases-loop-n
decreases-loop-n l = l.n
