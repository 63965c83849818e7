use Rattle.contour_walk.proofs.Binding.Walks.{answer_has_all_walks}
use Rattle.contour_walk.proofs.laws.binding.answer_has_all_walks.Goals as goal

pub returns : goal.returns
returns c = answer_has_all_walks c.all_are_walked.ensures c.anchors_are_sided.ensures
