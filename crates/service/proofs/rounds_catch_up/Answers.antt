use Rattle.service.proofs.Rounds.{catching_up}
use Rattle.service.proofs.rounds_catch_up.Goals as goal

pub returns : goal.returns
returns c = catching_up
