use Rattle.plane_base.specs.Counts.{boolean}
use Rattle.polygon_overlay.proofs.Returning.ReturnLaws.{answers_come_back}
use Rattle.polygon_overlay.proofs.laws.answers_come_back.Goals as goal

pub returns : goal.returns
returns c =
    answers_come_back (c.passes_rearrange.ensures.redrawn boolean) (c.redrawing_comes_to_rest.ensures.ends boolean) c.redrawn_maps_are_balanced.ensures
    c.answers_are_orderly.ensures (c.redrawing_is_stable.ensures boolean) c.passing_winds.ensures
