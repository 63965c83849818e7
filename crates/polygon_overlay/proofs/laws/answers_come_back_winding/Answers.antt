use Rattle.plane_base.specs.Counts.{boolean}
use Rattle.polygon_overlay.proofs.Returning.WindingAgainLaws.{answers_come_back_winding}
use Rattle.polygon_overlay.proofs.laws.answers_come_back_winding.Goals as goal

pub returns : goal.returns
returns c =
    answers_come_back_winding (c.passes_rearrange.ensures.redrawn boolean) (c.redrawing_comes_to_rest.ensures.ends boolean) c.redrawn_maps_are_balanced.ensures
    c.filled_is_bounded.ensures c.answers_are_orderly.ensures c.answers_wind.ensures c.corners_stay.ensures c.whole_meetings_keep_windings.ensures c.held_winds_as_given.ensures
