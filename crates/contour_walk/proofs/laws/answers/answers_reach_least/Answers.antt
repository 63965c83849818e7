use Rattle.contour_walk.proofs.AnswerWindLaws.{those_left}
use Rattle.contour_walk.proofs.laws.answers.answers_reach_least.Goals as goal

pub returns : goal.returns
returns c = those_left
