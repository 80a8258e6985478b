use Rattle.service.proofs.Promises.{launched_again}
use Rattle.service.proofs.no_ticket_is_launched_again_without_a_cut.Goals as goal

pub returns : goal.returns
returns c = launched_again
