use Rattle.contour_walk.proofs.AnswerPointLaws.{answers_are_short}
use Rattle.contour_walk.proofs.laws.answers.answers_are_short.Goals as goal

pub returns : goal.returns
returns c = answers_are_short
