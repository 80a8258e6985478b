use Rattle.service.proofs.Promises.{checkpoints_kept}
use Rattle.service.proofs.checkpoints_pass_over_nothing_due.Goals as goal

pub returns : goal.returns
returns c = checkpoints_kept
