use Rattle.service.proofs.Causes.{determined}
use Rattle.service.proofs.outcomes_are_determined.Goals as goal

pub returns : goal.returns
returns c = determined
