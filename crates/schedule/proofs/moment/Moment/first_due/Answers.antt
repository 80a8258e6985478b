use Rattle.std.proofs.Common.{◌≡◌, true, false, rules, tests}
use Rattle.std.specs.List.{slice_get}
use Rattle.std.proofs.lemmas.Iterator.{first_from_Range}
use Rattle.schedule.specs.Due.{line_due}
use Rattle.schedule.proofs.Next.{first_known}
use Rattle.schedule.proofs.moment.Moment.first_due.Goals as goal

pub returns : goal.returns
returns c =
    let w = c.args.self.now.window in
    let js = c.args.jobs.now in
    first_known w js c.args.from c.args.to c.lines_known.result c.find.result c.lines_known.ensures
    (first_from_Range _ _ _ _ (λ k. line_due w (slice_get js k) ≡ true) (λ k. line_due w (slice_get js k) ≡ false)
    c.find.ensures.ran
    (λ x q k. search (rules, tests)) (λ x q k. search (rules, tests)))
