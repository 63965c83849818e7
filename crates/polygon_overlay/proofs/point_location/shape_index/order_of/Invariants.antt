use Rattle.polygon_overlay.proofs.Locating.IndexLaws.{AreNumbered}
use Rattle.polygon_overlay.proofs.point_location.shape_index.order_of.Given as goal

-- The shapes before this one stand by their numbers.
abbrev pub invariant-loop-number : goal.invariant-loop-number
invariant-loop-number g l = AreNumbered l.order.items l.number
