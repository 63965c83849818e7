use Rattle.contour_walk.proofs.AnswerPointLaws.{answers_stand_on_ends}
use Rattle.contour_walk.proofs.laws.answers.answers_stand_on_ends.Goals as goal

pub returns : goal.returns
returns c = answers_stand_on_ends
