use Rattle.plane_base.specs.Counts.{boolean}
use Rattle.polygon_overlay.proofs.Answering.QueryLaws.{is_overlay}
use Rattle.polygon_overlay.proofs.query.answers_are_overlays.Goals as goal

pub returns : goal.returns
returns c = λ least greatest o fill rule precision held shapes is_held few is.
    is_overlay precision (c.passes_rearrange.ensures.redrawn boolean precision) (c.redrawing_comes_to_rest.ensures.ends boolean precision) (c.redrawn_maps_are_balanced.ensures precision)
    c.answers_wind.ensures c.whole_meetings_keep_windings.ensures c.answers_stand_on_ends.ensures c.answers_are_short.ensures c.answers_are_orderly.ensures c.answers_reach_least.ensures
    least greatest o fill rule held shapes is_held few is
