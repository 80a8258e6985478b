use Rattle.service.proofs.Total.{reached}
use Rattle.service.proofs.due_tickets_can_be_launched.Goals as goal

pub returns : goal.returns
returns c = reached
