use Rattle.std.proofs.Common.{◌≡◌, map, take}
use Rattle.plane_base.specs.Flat.{parts}
use Rattle.plane_base.proofs.flat_shapes.shape_of.Given as goal

-- The contours so far are those of the ranges before this one.
abbrev pub invariant-loop-range : goal.invariant-loop-range
invariant-loop-range g l = map (λ c. c.points.items) l.contours.items ≡ parts l.points (take l.range-index l.ranges)
