use Rattle.plane_base.specs.Counts.{boolean}
use Rattle.polygon_overlay.proofs.Sized.Laws.{moved_fill_the_sized}
use Rattle.polygon_overlay.proofs.sizing_laws.moved_fill_the_sized.Goals as goal

pub returns : goal.returns
returns c =
    moved_fill_the_sized (c.passes_rearrange.ensures.redrawn boolean) (c.redrawing_comes_to_rest.ensures.ends boolean) c.redrawn_maps_are_balanced.ensures
    c.filled_is_bounded.ensures c.answers_are_orderly.ensures c.answers_wind.ensures c.corners_stay.ensures c.whole_meetings_keep_windings.ensures
    c.held_winds_as_given.ensures (c.redrawn_of_rectilinear.ensures.whole boolean) (c.redrawn_of_rectilinear.ensures.redrawn boolean)
    c.answer_has_all_walks.ensures c.least_of_zero_keeps_all.ensures
