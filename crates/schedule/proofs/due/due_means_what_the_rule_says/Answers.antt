use Rattle.schedule.proofs.Reached.{due_means}
use Rattle.schedule.proofs.due.due_means_what_the_rule_says.Goals as goal

pub returns : goal.returns
returns c = due_means
