use Rattle.contour_walk.proofs.Facts.Walks.Winds.{passing_winds}
use Rattle.contour_walk.proofs.laws.passing_winds.Goals as goal

pub returns : goal.returns
returns c = passing_winds c.signs_sum_to_region.ensures
