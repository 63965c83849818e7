use Rattle.plane_base.specs.Counts.{boolean}
use Rattle.polygon_overlay.proofs.Returning.ReturnLaws.{answers_are_resolved}
use Rattle.polygon_overlay.proofs.laws.answers_are_resolved.Goals as goal

pub returns : goal.returns
returns c =
    answers_are_resolved (c.passes_rearrange.ensures.redrawn boolean) (c.redrawing_comes_to_rest.ensures.ends boolean) c.redrawn_maps_are_balanced.ensures
    c.answers_are_orderly.ensures
