use Rattle.contour_walk.proofs.Binder.ChildOnce.{each_shape_is_a_child_once}
use Rattle.contour_walk.proofs.laws.hierarchy.each_shape_is_a_child_once.Goals as goal

pub returns : goal.returns
returns c = each_shape_is_a_child_once
