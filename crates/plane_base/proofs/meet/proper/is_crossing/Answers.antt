use Rattle.std.proofs.Common.{◌&&◌, pos, ◌*ℤ◌, int_eq, sym, ap, ap₂, ◌∙◌}
use Rattle.plane_base.specs.Views.{point_of}
use Rattle.plane_base.specs.SegmentViews.{edge_of}
use Rattle.plane_base.specs.Sides.{mean_by, bottom_of}
use Rattle.plane_base.proofs.Facts.Numbers.Weights.{weights_above}
use Rattle.plane_base.proofs.Facts.Points.Along.{point_test}
use Rattle.plane_base.proofs.meet.proper.is_crossing.Goals as goal

pub is_coordinate-requires-clause-a_in_range : goal.is_coordinate-requires-clause-a_in_range
is_coordinate-requires-clause-a_in_range g c = (c.requires.in_range.0.0, c.requires.in_range.0.1)

pub is_coordinate-requires-clause-b_in_range : goal.is_coordinate-requires-clause-b_in_range
is_coordinate-requires-clause-b_in_range g c = (c.requires.in_range.1.0, c.requires.in_range.1.1)

pub is_coordinate-requires-clause-number_in_range : goal.is_coordinate-requires-clause-number_in_range
is_coordinate-requires-clause-number_in_range g c = (c.requires.point_in_range.0, c.requires.point_in_range.1)

pub is_coordinate-requires-clause-u_fits : goal.is_coordinate-requires-clause-u_fits
is_coordinate-requires-clause-u_fits g c = c.requires.u_fits

pub is_coordinate-requires-clause-v_fits : goal.is_coordinate-requires-clause-v_fits
is_coordinate-requires-clause-v_fits g c = c.requires.v_fits

pub is_coordinate-requires-then-is_coordinate-clause-a_in_range : goal.is_coordinate-requires-then-is_coordinate-clause-a_in_range
is_coordinate-requires-then-is_coordinate-clause-a_in_range g c = (c.requires.in_range.0.2, c.requires.in_range.0.3)

pub is_coordinate-requires-then-is_coordinate-clause-b_in_range : goal.is_coordinate-requires-then-is_coordinate-clause-b_in_range
is_coordinate-requires-then-is_coordinate-clause-b_in_range g c = (c.requires.in_range.1.2, c.requires.in_range.1.3)

pub is_coordinate-requires-then-is_coordinate-clause-number_in_range : goal.is_coordinate-requires-then-is_coordinate-clause-number_in_range
is_coordinate-requires-then-is_coordinate-clause-number_in_range g c = (c.requires.point_in_range.2, c.requires.point_in_range.3)

pub is_coordinate-requires-then-is_coordinate-clause-u_fits : goal.is_coordinate-requires-then-is_coordinate-clause-u_fits
is_coordinate-requires-then-is_coordinate-clause-u_fits g c = c.requires.u_fits

pub is_coordinate-requires-then-is_coordinate-clause-v_fits : goal.is_coordinate-requires-then-is_coordinate-clause-v_fits
is_coordinate-requires-then-is_coordinate-clause-v_fits g c = c.requires.v_fits

pub returns-then-is_coordinate : goal.returns-then-is_coordinate
returns-then-is_coordinate g c =
    let value = g.I.OverlayInt.value in
    let m = mean_by (edge_of value c.args.s) (g.I.Wide.WideIntNumber.number c.args.u) (g.I.Wide.WideIntNumber.number c.args.v) in
    let some = weights_above (g.I.Wide.WideIntNumber.number c.args.u) (g.I.Wide.WideIntNumber.number c.args.v) c.requires.u_fits.0 in
    ap₂ (λ x y. x && y) (sym c.if-is_coordinate.true ∙ c.is_coordinate.ensures) c.is_coordinate-then-is_coordinate.ensures
    ∙ point_test (point_of value c.args.point) m some c.requires.whole

pub returns-else-is_coordinate : goal.returns-else-is_coordinate
returns-else-is_coordinate g c =
    let value = g.I.OverlayInt.value in
    let m = mean_by (edge_of value c.args.s) (g.I.Wide.WideIntNumber.number c.args.u) (g.I.Wide.WideIntNumber.number c.args.v) in
    let some = weights_above (g.I.Wide.WideIntNumber.number c.args.u) (g.I.Wide.WideIntNumber.number c.args.v) c.requires.u_fits.0 in
    let n = pos (bottom_of (g.I.Wide.WideIntNumber.number c.args.u) (g.I.Wide.WideIntNumber.number c.args.v)) *ℤ value c.args.point.y in
    c.if-is_coordinate.false
    ∙ (ap (λ x. x && int_eq n m.y) (sym c.if-is_coordinate.false ∙ c.is_coordinate.ensures)
    ∙ point_test (point_of value c.args.point) m some c.requires.whole)
