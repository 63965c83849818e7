use Rattle.plane_base.specs.Counts.{boolean}
use Rattle.polygon_overlay.proofs.Answering.AreaLaws.{areas_add_up}
use Rattle.polygon_overlay.proofs.laws.areas_add_up.Goals as goal

pub returns : goal.returns
returns c = areas_add_up (c.passes_rearrange.ensures.redrawn boolean) (c.redrawing_comes_to_rest.ensures.ends boolean) c.redrawn_maps_are_balanced.ensures c.answers_are_orderly.ensures
