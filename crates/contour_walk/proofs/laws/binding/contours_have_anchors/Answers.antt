use Rattle.contour_walk.proofs.Binding.Walks.{contours_have_anchors}
use Rattle.contour_walk.proofs.laws.binding.contours_have_anchors.Goals as goal

pub returns : goal.returns
returns c = contours_have_anchors
