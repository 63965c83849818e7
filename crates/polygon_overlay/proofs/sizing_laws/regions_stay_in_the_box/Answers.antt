use Rattle.plane_base.specs.Counts.{boolean}
use Rattle.polygon_overlay.proofs.Sized.Flat.{regions_stay}
use Rattle.polygon_overlay.proofs.sizing_laws.regions_stay_in_the_box.Goals as goal

pub returns : goal.returns
returns c =
    regions_stay (c.passes_rearrange.ensures.redrawn boolean) (c.redrawing_comes_to_rest.ensures.ends boolean) c.redrawn_maps_are_balanced.ensures
    c.answer_has_all_walks.ensures c.least_of_zero_keeps_all.ensures c.answers_stay_in_the_box.ensures
