use Rattle.std.proofs.Common.{◌∙◌, true, false, sym}
use Rattle.plane_base.specs.SegmentViews.{edge_of}
use Rattle.plane_base.specs.Views.{point_of}
use Rattle.plane_base.proofs.Facts.Numbers.Weights.{weights_above}
use Rattle.plane_base.proofs.Facts.Points.Along.{rounded_whole}
use Rattle.plane_base.proofs.Facts.Crossings.Steps.{crossed_whole, crossed_off, crossed_off_grid}
use Rattle.plane_base.proofs.meet.proper.crossed.Goals as goal

pub is_crossing-requires-clause-whole : goal.is_crossing-requires-clause-whole
is_crossing-requires-clause-whole g c = λ whole.
    let some = weights_above (g.I.Wide.WideIntNumber.number c.weights_of.result.0) (g.I.Wide.WideIntNumber.number c.weights_of.result.1) c.weights_of.ensures.first_fits.0 in
    c.rounded-point.ensures.is ∙ rounded_whole c.args.rounding (edge_of g.I.OverlayInt.value c.args.target) _ _ some whole

pub returns-then-is_crossing-clause-is : goal.returns-then-is_crossing-clause-is
returns-then-is_crossing-clause-is g c =
    let value = g.I.OverlayInt.value in
    let some = weights_above (g.I.Wide.WideIntNumber.number c.weights_of.result.0) (g.I.Wide.WideIntNumber.number c.weights_of.result.1) c.weights_of.ensures.first_fits.0 in
    let whole = sym c.is_crossing.ensures ∙ c.if-is_crossing.true in
    crossed_whole c.args.rounding (edge_of value c.args.target) (edge_of value c.args.other) (point_of value c.rounded-point.result) _ c.requires.proper c.weights_of.ensures.is whole
    (c.rounded-point.ensures.is ∙ rounded_whole c.args.rounding (edge_of value c.args.target) _ _ some whole)

pub returns-then-is_crossing-clause-off_grid : goal.returns-then-is_crossing-clause-off_grid
returns-then-is_crossing-clause-off_grid g c =
    let value = g.I.OverlayInt.value in
    crossed_off_grid (edge_of value c.args.target) (edge_of value c.args.other) _ true c.requires.proper c.weights_of.ensures.is (sym c.is_crossing.ensures ∙ c.if-is_crossing.true)

pub returns-clause-is : goal.returns-clause-is
returns-clause-is g c =
    let value = g.I.OverlayInt.value in
    c.settled.ensures.is
    ∙ crossed_off c.args.rounding (edge_of value c.args.target) (edge_of value c.args.other) (point_of value c.rounded-point.result) _ c.requires.proper c.weights_of.ensures.is (sym c.is_crossing.ensures ∙ c.if-is_crossing.false) c.rounded-point.ensures.is

pub returns-clause-off_grid : goal.returns-clause-off_grid
returns-clause-off_grid g c =
    let value = g.I.OverlayInt.value in
    crossed_off_grid (edge_of value c.args.target) (edge_of value c.args.other) _ false c.requires.proper c.weights_of.ensures.is (sym c.is_crossing.ensures ∙ c.if-is_crossing.false)
