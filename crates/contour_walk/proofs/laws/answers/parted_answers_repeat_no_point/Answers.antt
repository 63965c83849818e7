use Rattle.contour_walk.proofs.PartedAnswers.{parted_answers_repeat_no_point}
use Rattle.contour_walk.proofs.laws.answers.parted_answers_repeat_no_point.Goals as goal

pub returns : goal.returns
returns c = parted_answers_repeat_no_point
