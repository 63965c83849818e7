use Rattle.std.proofs.Common.{◌≡◌, take}
use Rattle.polygon_overlay.specs.LocationViews.{all_asked}
use Rattle.polygon_overlay.proofs.point_location.queries.sorted_queries.Given as goal

-- The queries so far are those of the points before this one.
abbrev pub invariant-loop-index : goal.invariant-loop-index
invariant-loop-index g l = l.queries.items ≡ all_asked 0 (take l.index l.points)
