use Rattle.contour_walk.proofs.LeastAreas.{zero_keeps_all}
use Rattle.contour_walk.proofs.laws.answers.least_of_zero_keeps_all.Goals as goal

pub returns : goal.returns
returns c = zero_keeps_all
