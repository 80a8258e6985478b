use Rattle.std.proofs.Common.{◌≡◌, drop, ◌∙◌}
use Rattle.std.proofs.lemmas.List.{take_rest}
use Rattle.scan.specs.Scan.{is}
use Rattle.scan.proofs.First.{first_found}
use Rattle.scan.proofs.scan.Goals as goal

pub returns-in-Some-clause-value : goal.returns-in-Some-clause-value
returns-in-Some-clause-value c =
    let s = c.args.s.now in
    let rest : c.in-Some.rest.now ≡ drop c.args.from s = c.in-Some.ensures.lookup.0.2 ∙ take_rest s c.args.from in
    let found = first_found (is c.args.kind) c.in-Some.rest.now in
    cc
