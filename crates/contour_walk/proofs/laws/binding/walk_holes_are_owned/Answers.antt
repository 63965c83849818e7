use Rattle.contour_walk.proofs.Binding.Walks.{walk_holes_are_owned}
use Rattle.contour_walk.proofs.laws.binding.walk_holes_are_owned.Goals as goal

pub returns : goal.returns
returns c = walk_holes_are_owned c.all_are_walked.ensures c.anchors_are_sided.ensures
