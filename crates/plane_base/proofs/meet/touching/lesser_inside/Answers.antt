use Rattle.std.proofs.Common.{cond, Some, sym, ap, ◌∙◌}
use Rattle.std.specs.Option.{option_map}
use Rattle.plane_base.specs.Crossing.{lesser}
use Rattle.plane_base.specs.Views.{point_of}
use Rattle.plane_base.specs.SegmentViews.{edge_of}
use Rattle.plane_base.proofs.Facts.Crossings.Steps.{lesser_kept}
use Rattle.plane_base.proofs.meet.touching.lesser_inside.Goals as goal

pub is_inside-requires : goal.is_inside-requires
is_inside-requires g c = c.requires.turn

pub returns-then-not-is_inside-clause-is : goal.returns-then-not-is_inside-clause-is
returns-then-not-is_inside-clause-is g c =
    let value = g.I.OverlayInt.value in
    let found = option_map (point_of value) c.args.found in
    sym (ap (λ b. cond b (Some (lesser (point_of value c.args.p) found)) found) (sym c.is_inside.ensures ∙ c.if-not-is_inside.true))

pub returns-then-not-is_inside-clause-within : goal.returns-then-not-is_inside-clause-within
returns-then-not-is_inside-clause-within g c = c.requires.found_in_range

pub returns-in-Some-clause-is : goal.returns-in-Some-clause-is
returns-in-Some-clause-is g c =
    let value = g.I.OverlayInt.value in
    lesser_kept (point_of value c.args.p) (point_of value c.in-Some.q) (edge_of value c.args.s) (option_map (point_of value) c.args.found) (sym c.is_inside.ensures ∙ c.if-not-is_inside.false) (ap (option_map (point_of value)) c.in-Some.is) (sym c.comes_before.ensures ∙ c.if-comes_before.true)

pub returns-in-Some-clause-within : goal.returns-in-Some-clause-within
returns-in-Some-clause-within g c = rw c.in-Some.is at c.requires.found_in_range

pub returns-in_default-clause-within : goal.returns-in_default-clause-within
returns-in_default-clause-within g c = c.requires.point_in_range
