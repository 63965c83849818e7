use Rattle.contour_walk.proofs.Binding.Walks.{walk_anchors_tell}
use Rattle.contour_walk.proofs.laws.binding.walk_anchors_tell.Goals as goal

pub returns : goal.returns
returns c = walk_anchors_tell c.all_are_walked.ensures c.anchors_are_sided.ensures
