use Rattle.service.proofs.Script.{script_runs}
use Rattle.service.proofs.the_script_runs.Goals as goal

pub returns : goal.returns
returns c = script_runs
