use Rattle.std.proofs.Common.{◌≡◌, true, false, rules}
use Rattle.std.proofs.lemmas.Iterator.{first_from_Range}
use Rattle.check_crontab.specs.Runs.{held}
use Rattle.check_crontab.proofs.runs.first_held.Goals as goal

pub returns : goal.returns
returns c =
    let values = c.args.values.now in
    first_from_Range _ _ _ _ (λ v. held values v ≡ true) (λ v. held values v ≡ false) c.find.ensures.ran
    (λ x q k. search rules) (λ x q k. search rules)
