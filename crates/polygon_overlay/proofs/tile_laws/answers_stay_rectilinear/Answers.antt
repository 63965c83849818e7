use Rattle.plane_base.specs.Counts.{boolean}
use Rattle.polygon_overlay.proofs.Tiles.Straight.{answers_stay_rectilinear}
use Rattle.polygon_overlay.proofs.tile_laws.answers_stay_rectilinear.Goals as goal

pub returns : goal.returns
returns c =
    answers_stay_rectilinear (c.passes_rearrange.ensures.redrawn boolean) (c.redrawing_comes_to_rest.ensures.ends boolean) c.redrawn_maps_are_balanced.ensures
    c.answers_are_orderly.ensures c.corners_stay.ensures (c.redrawn_of_rectilinear.ensures.whole boolean)
    (c.redrawn_of_rectilinear.ensures.redrawn boolean)
