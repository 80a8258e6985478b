use Rattle.calendar.proofs.Follow.{days_follow}
use Rattle.calendar.proofs.days_follow_each_other.Goals as goal

pub returns : goal.returns
returns c = days_follow
