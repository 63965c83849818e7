use Rattle.polygon_overlay.proofs.Relating.RelationLaws.{covers_is_within_exchanged}
use Rattle.polygon_overlay.proofs.laws.covers_is_within_exchanged.Goals as goal

pub returns : goal.returns
returns c = covers_is_within_exchanged c.redrawing_passes_overlays.ensures.exchanged
