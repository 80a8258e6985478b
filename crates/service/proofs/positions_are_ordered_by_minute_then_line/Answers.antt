use Rattle.service.proofs.Promises.{positions_ordered}
use Rattle.service.proofs.positions_are_ordered_by_minute_then_line.Goals as goal

pub returns : goal.returns
returns c = positions_ordered
