use Rattle.std.proofs.Common.{true, false, refl, sym, ◌∙◌}
use Rattle.plane_base.specs.Plane.{is_before}
use Rattle.plane_base.specs.Views.{point_of}
use Rattle.plane_base.specs.SegmentViews.{edge_of}
use Rattle.plane_base.proofs.Facts.Crossings.Steps.{inside_on_line}
use Rattle.plane_base.proofs.meet.touching.is_between.Goals as goal

pub returns-then-comes_before : goal.returns-then-comes_before
returns-then-comes_before g c =
    let value = g.I.OverlayInt.value in
    inside_on_line (point_of value c.args.p) (edge_of value c.args.s) true c.comes_before-then-comes_before.result c.requires (sym c.if-comes_before.true ∙ c.comes_before.ensures) c.comes_before-then-comes_before.ensures

pub returns-else-comes_before : goal.returns-else-comes_before
returns-else-comes_before g c =
    let value = g.I.OverlayInt.value in
    let p = point_of value c.args.p in
    let s = edge_of value c.args.s in
    c.if-comes_before.false ∙ inside_on_line p s false (is_before p s.b) c.requires (sym c.if-comes_before.false ∙ c.comes_before.ensures) refl
