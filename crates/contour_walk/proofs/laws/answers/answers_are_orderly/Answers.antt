use Rattle.contour_walk.proofs.OrderlyLaws.{answers_are_orderly}
use Rattle.contour_walk.proofs.laws.answers.answers_are_orderly.Goals as goal

pub returns : goal.returns
returns c = answers_are_orderly
