use Rattle.std.proofs.Common.{◌≤◌, length}
use Rattle.cases.proofs.program.judge.Given as goal

abbrev pub invariant-loop-k : goal.invariant-loop-k
invariant-loop-k g l = l.differ ≤ length l.yielded
