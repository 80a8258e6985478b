use Rattle.std.proofs.Common.{false, ◌||◌, get_or, rules}
use Rattle.fields.specs.Values.{takes}
use Rattle.fields.proofs.Fill.{both, fills}
use Rattle.fields.proofs.values.Values.add.Goals as goal

pub returns : goal.returns
returns c =
    fills _ _ _ false (λ v. takes c.args.s v || get_or c.args.self.now.has v false) 64 c.from_fn-self.ensures.items
    (λ x b q h. search (rules, both))
