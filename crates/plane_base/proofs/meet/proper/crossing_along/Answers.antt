use Rattle.std.proofs.Common.{ap, ◌∙◌}
use Rattle.plane_base.specs.Views.{point_of}
use Rattle.plane_base.specs.SegmentViews.{edge_of}
use Rattle.plane_base.specs.Sides.{mean_by}
use Rattle.plane_base.proofs.Facts.Crossings.Steps.{along_horizontal, along_vertical, along_other}
use Rattle.plane_base.proofs.meet.proper.crossing_along.Goals as goal

pub floor_coordinate-requires-clause-a_in_range : goal.floor_coordinate-requires-clause-a_in_range
floor_coordinate-requires-clause-a_in_range g c = (c.requires.in_range.0.0, c.requires.in_range.0.1)

pub floor_coordinate-requires-clause-b_in_range : goal.floor_coordinate-requires-clause-b_in_range
floor_coordinate-requires-clause-b_in_range g c = (c.requires.in_range.1.0, c.requires.in_range.1.1)

pub floor_coordinate-requires-clause-u_fits : goal.floor_coordinate-requires-clause-u_fits
floor_coordinate-requires-clause-u_fits g c = c.requires.u_fits

pub floor_coordinate-requires-clause-v_fits : goal.floor_coordinate-requires-clause-v_fits
floor_coordinate-requires-clause-v_fits g c = c.requires.v_fits

pub floor_coordinate-requires-then-is_level-2-clause-a_in_range : goal.floor_coordinate-requires-then-is_level-2-clause-a_in_range
floor_coordinate-requires-then-is_level-2-clause-a_in_range g c = (c.requires.in_range.0.2, c.requires.in_range.0.3)

pub floor_coordinate-requires-then-is_level-2-clause-b_in_range : goal.floor_coordinate-requires-then-is_level-2-clause-b_in_range
floor_coordinate-requires-then-is_level-2-clause-b_in_range g c = (c.requires.in_range.1.2, c.requires.in_range.1.3)

pub floor_coordinate-requires-then-is_level-2-clause-u_fits : goal.floor_coordinate-requires-then-is_level-2-clause-u_fits
floor_coordinate-requires-then-is_level-2-clause-u_fits g c = c.requires.u_fits

pub floor_coordinate-requires-then-is_level-2-clause-v_fits : goal.floor_coordinate-requires-then-is_level-2-clause-v_fits
floor_coordinate-requires-then-is_level-2-clause-v_fits g c = c.requires.v_fits

pub nearest_crossing-requires-clause-in_range : goal.nearest_crossing-requires-clause-in_range
nearest_crossing-requires-clause-in_range g c = c.requires.in_range

pub nearest_crossing-requires-clause-u_fits : goal.nearest_crossing-requires-clause-u_fits
nearest_crossing-requires-clause-u_fits g c = c.requires.u_fits

pub nearest_crossing-requires-clause-v_fits : goal.nearest_crossing-requires-clause-v_fits
nearest_crossing-requires-clause-v_fits g c = c.requires.v_fits

pub returns-then-is_level-clause-is : goal.returns-then-is_level-clause-is
returns-then-is_level-clause-is g c =
    let value = g.I.OverlayInt.value in
    along_horizontal (edge_of value c.args.s) (mean_by (edge_of value c.args.s) (g.I.Wide.WideIntNumber.number c.args.u) (g.I.Wide.WideIntNumber.number c.args.v)) _ _ c.is_level.result c.is_level.ensures c.if-is_level.true (ap value c.new.ensures.x ∙ c.floor_coordinate.ensures.is) (ap value c.new.ensures.y)

pub returns-then-is_level-clause-within : goal.returns-then-is_level-clause-within
returns-then-is_level-clause-within g c =
    rw (c.new.ensures.x, c.new.ensures.y) (c.floor_coordinate.ensures.within.0, c.floor_coordinate.ensures.within.1, c.requires.in_range.0.2, c.requires.in_range.0.3)

pub returns-then-is_level-2-clause-is : goal.returns-then-is_level-2-clause-is
returns-then-is_level-2-clause-is g c =
    let value = g.I.OverlayInt.value in
    along_vertical (edge_of value c.args.s) (mean_by (edge_of value c.args.s) (g.I.Wide.WideIntNumber.number c.args.u) (g.I.Wide.WideIntNumber.number c.args.v)) _ _ c.is_level.result c.is_level-2.result c.is_level.ensures c.if-is_level.false c.is_level-2.ensures c.if-is_level-2.true (ap value c.new-then-is_level-2.ensures.x) (ap value c.new-then-is_level-2.ensures.y ∙ c.floor_coordinate-then-is_level-2.ensures.is)

pub returns-then-is_level-2-clause-within : goal.returns-then-is_level-2-clause-within
returns-then-is_level-2-clause-within g c =
    rw (c.new-then-is_level-2.ensures.x, c.new-then-is_level-2.ensures.y) (c.requires.in_range.0.0, c.requires.in_range.0.1, c.floor_coordinate-then-is_level-2.ensures.within.0, c.floor_coordinate-then-is_level-2.ensures.within.1)

pub returns-clause-is : goal.returns-clause-is
returns-clause-is g c =
    let value = g.I.OverlayInt.value in
    along_other (edge_of value c.args.s) (mean_by (edge_of value c.args.s) (g.I.Wide.WideIntNumber.number c.args.u) (g.I.Wide.WideIntNumber.number c.args.v)) (point_of value c.nearest_crossing.result) c.is_level.result c.is_level-2.result c.is_level.ensures c.if-is_level.false c.is_level-2.ensures c.if-is_level-2.false c.nearest_crossing.ensures.is

pub returns-clause-within : goal.returns-clause-within
returns-clause-within g c = c.nearest_crossing.ensures.within
