use Rattle.service.proofs.Total.{rounds_follow}
use Rattle.service.proofs.rounds_can_follow.Goals as goal

pub returns : goal.returns
returns c = rounds_follow
