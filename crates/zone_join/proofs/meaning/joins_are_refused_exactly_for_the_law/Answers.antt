use Rattle.zone_join.proofs.Each.{accepts_decides}
use Rattle.zone_join.proofs.meaning.joins_are_refused_exactly_for_the_law.Goals as goal

pub returns : goal.returns
returns c = accepts_decides
