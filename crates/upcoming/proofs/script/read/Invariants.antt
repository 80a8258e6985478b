use Rattle.std.proofs.Common.{length}
use Rattle.upcoming.proofs.script.read.Given as goal

abbrev pub decreases-loop-entry : goal.decreases-loop-entry
decreases-loop-entry l = length l.text
