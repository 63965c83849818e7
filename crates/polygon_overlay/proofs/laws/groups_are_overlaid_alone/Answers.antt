use Rattle.plane_base.specs.Counts.{boolean}
use Rattle.polygon_overlay.proofs.Answering.GroupLaws.{overlaid_alone}
use Rattle.polygon_overlay.proofs.laws.groups_are_overlaid_alone.Goals as goal

pub returns : goal.returns
returns c = λ least greatest o fill rule precision held boxes is_held groups none.
    overlaid_alone precision (c.passes_rearrange.ensures.redrawn boolean precision) (c.redrawing_comes_to_rest.ensures.ends boolean precision)
    (c.redrawn_maps_are_balanced.ensures precision) (c.groups_redraw_alone.ensures boolean precision) c.groups_are_answered_alone.ensures
    least greatest o fill rule held boxes is_held groups none
