use Rattle.plane_base.specs.Counts.{boolean}
use Rattle.polygon_overlay.proofs.Relating.ApartLaws.{apart_is_disjoint}
use Rattle.polygon_overlay.proofs.laws.apart_is_disjoint.Goals as goal

pub returns : goal.returns
returns c =
    apart_is_disjoint (λ precision. c.passes_rearrange.ensures.redrawn boolean precision) (λ precision. c.redrawing_comes_to_rest.ensures.ends boolean precision)
    c.redrawn_maps_are_balanced.ensures (λ precision. c.groups_redraw_alone.ensures boolean precision) c.groups_fill_alone.ensures
    (λ from f precision reads. c.redrawing_passes_counts.ensures from boolean f precision reads)
