use Rattle.std.proofs.Common.{◌≡◌, ◌++◌, ◌∙◌, sym, ap}
use Rattle.std.specs.Option.{option_map}
use Rattle.plane_base.specs.Views.{point_of}
use Rattle.plane_base.specs.SegmentViews.{edge_of}
use Rattle.plane_base.specs.Segments.{ends_inside}
use Rattle.plane_base.specs.Crossing.{least_of, overlaid}
use Rattle.plane_base.specs.Sides.{lesser_inside}
use Rattle.plane_base.proofs.Facts.Crossings.Steps.{least_inside}
use Rattle.plane_base.proofs.meet.touching.overlaid.Given.{Over}
use Rattle.plane_base.proofs.meet.touching.overlaid.Goals as goal
use Rattle.plane_base.proofs.meet.touching.overlaid.Goals.{After-lesser_inside-least-4}

found : (g : Over) (c : After-lesser_inside-least-4 g) → option_map (point_of g.I.OverlayInt.value) c.lesser_inside-least-4.result ≡ least_of (ends_inside (edge_of g.I.OverlayInt.value c.args.target) (edge_of g.I.OverlayInt.value c.args.other) ++ ends_inside (edge_of g.I.OverlayInt.value c.args.other) (edge_of g.I.OverlayInt.value c.args.target))
found g c =
    let value = g.I.OverlayInt.value in
    let s = edge_of value c.args.target in
    let t = edge_of value c.args.other in
    c.lesser_inside-least-4.ensures.is
    ∙ (ap (lesser_inside t.a s) c.lesser_inside-least-3.ensures.is
    ∙ (ap (λ o. lesser_inside t.a s (lesser_inside t.b s o)) c.lesser_inside-least-2.ensures.is
    ∙ (ap (λ o. lesser_inside t.a s (lesser_inside t.b s (lesser_inside s.a t o))) c.lesser_inside-least.ensures.is
    ∙ sym (least_inside s t))))

pub returns-in-Some-clause-is : goal.returns-in-Some-clause-is
returns-in-Some-clause-is g c =
    ap (λ o. overlaid (option_map (point_of g.I.OverlayInt.value) o)) (sym c.in-Some.is)
    ∙ ap overlaid (found g (goal.at.returns-in-Some-clause-is g c).After-lesser_inside-least-4)

pub returns-in-None-clause-is : goal.returns-in-None-clause-is
returns-in-None-clause-is g c =
    ap (λ o. overlaid (option_map (point_of g.I.OverlayInt.value) o)) (sym c.in-None.is)
    ∙ ap overlaid (found g (goal.at.returns-in-None-clause-is g c).After-lesser_inside-least-4)

pub lesser_inside-least-requires-clause-turn : goal.lesser_inside-least-requires-clause-turn
lesser_inside-least-requires-clause-turn g c = c.requires.own.b.0

pub lesser_inside-least-requires-clause-point_in_range : goal.lesser_inside-least-requires-clause-point_in_range
lesser_inside-least-requires-clause-point_in_range g c = c.requires.target_in_range.1

pub lesser_inside-least-requires-clause-found_in_range : goal.lesser_inside-least-requires-clause-found_in_range
lesser_inside-least-requires-clause-found_in_range g c = tt

pub lesser_inside-least-requires-2-clause-turn : goal.lesser_inside-least-requires-2-clause-turn
lesser_inside-least-requires-2-clause-turn g c = c.requires.own.a.0

pub lesser_inside-least-requires-2-clause-point_in_range : goal.lesser_inside-least-requires-2-clause-point_in_range
lesser_inside-least-requires-2-clause-point_in_range g c = c.requires.target_in_range.0

pub lesser_inside-least-requires-2-clause-found_in_range : goal.lesser_inside-least-requires-2-clause-found_in_range
lesser_inside-least-requires-2-clause-found_in_range g c = c.lesser_inside-least.ensures.within

pub lesser_inside-least-requires-3-clause-turn : goal.lesser_inside-least-requires-3-clause-turn
lesser_inside-least-requires-3-clause-turn g c = c.requires.sides.b.0

pub lesser_inside-least-requires-3-clause-point_in_range : goal.lesser_inside-least-requires-3-clause-point_in_range
lesser_inside-least-requires-3-clause-point_in_range g c = c.requires.other_in_range.1

pub lesser_inside-least-requires-3-clause-found_in_range : goal.lesser_inside-least-requires-3-clause-found_in_range
lesser_inside-least-requires-3-clause-found_in_range g c = c.lesser_inside-least-2.ensures.within

pub lesser_inside-least-requires-4-clause-turn : goal.lesser_inside-least-requires-4-clause-turn
lesser_inside-least-requires-4-clause-turn g c = c.requires.sides.a.0

pub lesser_inside-least-requires-4-clause-point_in_range : goal.lesser_inside-least-requires-4-clause-point_in_range
lesser_inside-least-requires-4-clause-point_in_range g c = c.requires.other_in_range.0

pub lesser_inside-least-requires-4-clause-found_in_range : goal.lesser_inside-least-requires-4-clause-found_in_range
lesser_inside-least-requires-4-clause-found_in_range g c = c.lesser_inside-least-3.ensures.within

pub returns-in-Some-clause-within : goal.returns-in-Some-clause-within
returns-in-Some-clause-within g c = rw c.in-Some.is at c.lesser_inside-least-4.ensures.within

pub returns-in-None-clause-within : goal.returns-in-None-clause-within
returns-in-None-clause-within g c = tt
