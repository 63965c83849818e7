use Rattle.contour_walk.proofs.Binding.Walks.{contours_are_long}
use Rattle.contour_walk.proofs.laws.binding.contours_are_long.Goals as goal

pub returns : goal.returns
returns c = contours_are_long
