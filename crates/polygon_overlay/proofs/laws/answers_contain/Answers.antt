use Rattle.plane_base.specs.Counts.{boolean}
use Rattle.polygon_overlay.proofs.Nesting.ContainLaws.{answers_contain}
use Rattle.polygon_overlay.proofs.laws.answers_contain.Goals as goal

pub returns : goal.returns
returns c =
    answers_contain c.points_have_rings.ensures c.node_ring.ensures c.all_are_walked.ensures c.anchors_are_sided.ensures c.answer_winds.ensures
    (c.passes_rearrange.ensures.redrawn boolean) (c.redrawing_comes_to_rest.ensures.ends boolean) c.redrawn_maps_are_balanced.ensures
    c.least_of_zero_keeps_all.ensures
