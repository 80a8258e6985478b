use Rattle.std.proofs.Common.{rules, tests}
use Rattle.std.proofs.lemmas.Iterator.Consumers.{YieldsList-from_first}
use Rattle.std.proofs.lemmas.Iterator.Search.{any_from_yields_List}
use Rattle.zone.specs.Labels.{labels_left, labels_of}
use Rattle.zone.specs.declared.label.Label.{Label}
use Rattle.schedule.specs.Match.{matches}
use Rattle.schedule.proofs.due.any_of.Goals as goal

pub returns : goal.returns
returns c =
    any_from_yields_List (λ (l : Label). matches c.args.job.now l.0) _ _ _ c.any.ensures.ran
    (YieldsList-from_first (λ x. x) labels_left (labels_of c.args.window) c.labels.ensures)
    (λ x b q k. search (rules, tests))
