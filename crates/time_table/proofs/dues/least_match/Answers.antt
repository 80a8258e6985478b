use Rattle.std.proofs.Common.{rules, tests}
use Rattle.std.proofs.lemmas.Iterator.Consumers.{YieldsList-from_first}
use Rattle.std.proofs.lemmas.Iterator.Search.{find_from_yields_List}
use Rattle.zone.specs.Labels.{labels_left, labels_of}
use Rattle.zone.specs.declared.label.Label.{Label}
use Rattle.schedule.specs.Match.{matches}
use Rattle.time_table.proofs.Found.{least_found}
use Rattle.time_table.proofs.dues.least_match.Goals as goal

pub returns : goal.returns
returns c =
    least_found (matches c.args.job.now) c.args.window.above.0 c.args.window.to.0 _
    (find_from_yields_List (λ (l : Label). matches c.args.job.now l.0) _ _ c.find.result c.find.ensures.ran
    (YieldsList-from_first (λ x. x) labels_left (labels_of c.args.window) c.labels.ensures)
    (λ x b q k. search (rules, tests)))
