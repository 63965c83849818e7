use Rattle.plane_base.specs.Counts.{boolean}
use Rattle.polygon_overlay.proofs.Relating.AgreementLaws.{predicates_agree_with_overlays}
use Rattle.polygon_overlay.proofs.laws.predicates_agree_with_overlays.Goals as goal

pub returns : goal.returns
returns c =
    predicates_agree_with_overlays (c.passes_rearrange.ensures.redrawn boolean) (c.redrawing_comes_to_rest.ensures.ends boolean) c.redrawn_maps_are_balanced.ensures
    c.filled_is_bounded.ensures c.answers_are_orderly.ensures c.whole_meetings_keep_windings.ensures c.held_winds_as_given.ensures
