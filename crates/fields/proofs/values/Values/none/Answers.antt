use Rattle.std.proofs.Common.{false}
use Rattle.std.proofs.lemmas.List.{get_or-replicate}
use Rattle.fields.proofs.values.Values.none.Goals as goal

pub returns : goal.returns
returns c = λ k h. get_or-replicate 64 k false false h
