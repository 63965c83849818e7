use Rattle.plane_base.specs.Counts.{boolean}
use Rattle.polygon_overlay.proofs.Tiles.Regions.{tiles_answer_their_region}
use Rattle.polygon_overlay.proofs.tile_laws.tiles_answer_their_region.Goals as goal

pub returns : goal.returns
returns c =
    tiles_answer_their_region (c.passes_rearrange.ensures.redrawn boolean) (c.redrawing_comes_to_rest.ensures.ends boolean) c.redrawn_maps_are_balanced.ensures
    c.filled_is_bounded.ensures c.answers_are_orderly.ensures c.answers_wind.ensures c.whole_meetings_keep_windings.ensures c.held_winds_as_given.ensures
    (c.redrawn_of_rectilinear.ensures.whole boolean)
