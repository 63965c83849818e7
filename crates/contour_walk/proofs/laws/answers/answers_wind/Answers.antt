use Rattle.contour_walk.proofs.AnswerWindLaws.{answers_wind}
use Rattle.contour_walk.proofs.laws.answers.answers_wind.Goals as goal

pub returns : goal.returns
returns c = answers_wind c.finished_passing_winds.ensures
