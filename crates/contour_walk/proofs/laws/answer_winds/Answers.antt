use Rattle.contour_walk.proofs.Facts.Walks.Winds.{answer_winds}
use Rattle.contour_walk.proofs.laws.answer_winds.Goals as goal

pub returns : goal.returns
returns c = answer_winds c.signs_sum_to_region.ensures c.all_are_walked.ensures
