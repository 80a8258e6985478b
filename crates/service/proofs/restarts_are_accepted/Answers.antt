use Rattle.service.proofs.Promises.{restart_accepted}
use Rattle.service.proofs.restarts_are_accepted.Goals as goal

pub returns : goal.returns
returns c = restart_accepted
