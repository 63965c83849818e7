use Rattle.std.proofs.Common.{◌≡◌, map, take}
use Rattle.plane_base.specs.Flat.{parts_of_parts}
use Rattle.plane_base.specs.PathViews.{paths_of_shape}
use Rattle.plane_base.proofs.flat_shapes.shapes_of.Given as goal

-- The shapes so far are those of the ranges before this one.
abbrev pub invariant-loop-range : goal.invariant-loop-range
invariant-loop-range g l = map paths_of_shape l.shapes.items ≡ parts_of_parts l.points l.contours (take l.range-index l.ranges)
