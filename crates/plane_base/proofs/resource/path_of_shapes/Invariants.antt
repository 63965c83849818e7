use Rattle.std.proofs.Common.{take, ◌≡◌, length, ◌+◌}
use Rattle.plane_base.specs.PathViews.{paths_of_shapes}
use Rattle.plane_base.proofs.resource.path_of_shapes.Given as goal

abbrev pub invariant-loop-shape : goal.invariant-loop-shape
invariant-loop-shape g l = l.index ≡ length (paths_of_shapes (take l.shape-index l.shapes)) + l.left
