use Rattle.leb.proofs.Numbers.{same_number}
use Rattle.leb.proofs.laws.no_number_begins_another.Goals as goal

pub returns : goal.returns
returns c = same_number
