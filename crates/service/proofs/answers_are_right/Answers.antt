use Rattle.service.proofs.Answers.{right_answers}
use Rattle.service.proofs.answers_are_right.Goals as goal

pub returns : goal.returns
returns c = right_answers
