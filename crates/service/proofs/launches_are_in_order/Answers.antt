use Rattle.service.proofs.Promises.{launch_order}
use Rattle.service.proofs.launches_are_in_order.Goals as goal

pub returns : goal.returns
returns c = launch_order
