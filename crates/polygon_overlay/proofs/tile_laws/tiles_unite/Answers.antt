use Rattle.plane_base.specs.Counts.{boolean}
use Rattle.polygon_overlay.proofs.Tiles.Uniting.{tiles_unite}
use Rattle.polygon_overlay.proofs.tile_laws.tiles_unite.Goals as goal

pub returns : goal.returns
returns c =
    tiles_unite (c.passes_rearrange.ensures.redrawn boolean) (c.redrawing_comes_to_rest.ensures.ends boolean) c.redrawn_maps_are_balanced.ensures
    c.filled_is_bounded.ensures c.answers_are_orderly.ensures c.answers_wind.ensures c.corners_stay.ensures c.whole_meetings_keep_windings.ensures
    c.held_winds_as_given.ensures (c.redrawn_of_rectilinear.ensures.whole boolean) (c.redrawn_of_rectilinear.ensures.redrawn boolean)
