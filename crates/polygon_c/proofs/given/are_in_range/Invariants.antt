use Rattle.std.proofs.Common.{All, take}
use Rattle.plane_base.specs.Plane.{IsWithin}
use Rattle.polygon_c.specs.Given.{plane_points}
use Rattle.polygon_c.proofs.given.are_in_range.Given as goal

-- The points so far are in range.
abbrev pub invariant-loop-point : goal.invariant-loop-point
invariant-loop-point g l = All (IsWithin g.I.OverlayInt.least g.I.OverlayInt.greatest) (plane_points g.P.CPointOf.plane (take l.point-index l.points))
