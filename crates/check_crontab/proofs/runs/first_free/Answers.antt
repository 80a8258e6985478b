use Rattle.std.proofs.Common.{◌≡◌, true, false, rules}
use Rattle.std.proofs.lemmas.Iterator.{first_from_Range}
use Rattle.check_crontab.proofs.Ranges.{none_before}
use Rattle.check_crontab.specs.Runs.{held}
use Rattle.check_crontab.proofs.runs.first_free.Goals as goal

pub returns-clause-before : goal.returns-clause-before
returns-clause-before c =
    let values = c.args.values in
    rw c.unwrap_or.ensures (none_before (λ v. held values v ≡ false) (λ v. held values v ≡ true) c.args.from 64 _
    (first_from_Range _ _ _ _ (λ v. held values v ≡ false) (λ v. held values v ≡ true) c.find.ensures.ran
    (λ x q k. search rules) (λ x q k. search rules)))
