use Rattle.std.proofs.Common.{true, false}
use Rattle.plane_base.specs.Views.{point_of}
use Rattle.plane_base.specs.SegmentViews.{edge_of}
use Rattle.plane_base.proofs.Facts.Crossings.Steps.{nearer_is}
use Rattle.plane_base.proofs.meet.proper.nearer.Goals as goal

pub squared_distance-requires-clause-a_in_range : goal.squared_distance-requires-clause-a_in_range
squared_distance-requires-clause-a_in_range g c = c.requires.point_in_range

pub squared_distance-requires-clause-b_in_range : goal.squared_distance-requires-clause-b_in_range
squared_distance-requires-clause-b_in_range g c = c.requires.in_range.1

pub squared_distance-requires-2-clause-a_in_range : goal.squared_distance-requires-2-clause-a_in_range
squared_distance-requires-2-clause-a_in_range g c = c.requires.point_in_range

pub squared_distance-requires-2-clause-b_in_range : goal.squared_distance-requires-2-clause-b_in_range
squared_distance-requires-2-clause-b_in_range g c = c.requires.in_range.0

pub returns-then-is_less-clause-is : goal.returns-then-is_less-clause-is
returns-then-is_less-clause-is g c =
    let value = g.I.OverlayInt.value in
    nearer_is (point_of value c.args.point) (edge_of value c.args.s) _ _ c.is_less.result true c.squared_distance.ensures.is c.squared_distance-2.ensures.is c.is_less.ensures c.if-is_less.true

pub returns-then-is_less-clause-within : goal.returns-then-is_less-clause-within
returns-then-is_less-clause-within g c = c.requires.in_range.1

pub returns-else-is_less-clause-is : goal.returns-else-is_less-clause-is
returns-else-is_less-clause-is g c =
    let value = g.I.OverlayInt.value in
    nearer_is (point_of value c.args.point) (edge_of value c.args.s) _ _ c.is_less.result false c.squared_distance.ensures.is c.squared_distance-2.ensures.is c.is_less.ensures c.if-is_less.false

pub returns-else-is_less-clause-within : goal.returns-else-is_less-clause-within
returns-else-is_less-clause-within g c = c.requires.in_range.0
