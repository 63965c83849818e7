use Rattle.std.proofs.Common.{take, ◌≡◌, length}
use Rattle.std.specs.Prelude.{◌-◌, ◌^◌, min}
use Rattle.plane_base.specs.PathViews.{paths_of_shapes}
use Rattle.plane_base.proofs.resource.count_paths.Given as goal

abbrev pub invariant-loop-shape : goal.invariant-loop-shape
invariant-loop-shape g l = l.count ≡ min (length (paths_of_shapes (take l.shape-index l.shapes))) (2 ^ 64 - 1)
