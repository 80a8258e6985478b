use Rattle.std.proofs.Common.{◌≡◌, length, arith}
use Rattle.std.proofs.lemmas.Iterator.Consumers.{YieldsList-end, YieldsList-from_enumerate}
use Rattle.std.proofs.lemmas.Iterator.Splits.{YieldsList-from_lines}
use Rattle.std.proofs.lemmas.List.FromFn.{length-enumerate_from}
use Rattle.std.specs.List.{enumerate_from}
use Rattle.std.specs.Str.Lines.{lines}
use Rattle.cases.proofs.program.judge.Goals as goal

pub returns-clause-differ : goal.returns-clause-differ
returns-clause-differ g c =
    let end = YieldsList-end (YieldsList-from_enumerate (YieldsList-from_lines c.args.cases.now (cc)) (cc)) c.loop-k.yielded _ c.loop-k.yielded_by _ _ c.in-None.is c.next.ensures.steps in
    let same : length (enumerate_from 0 (lines c.args.cases.now)) ≡ length (lines c.args.cases.now) = length-enumerate_from 0 (lines c.args.cases.now) in
    omega (arith, c.loop-k.invariant, end.1, c.count_of.ensures, same)
