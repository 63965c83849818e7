use Rattle.segment_split.proofs.Redrawing.Iterates.{redrawn_balanced}
use Rattle.segment_split.proofs.laws.redrawn_maps_are_balanced.Goals as goal

pub returns : goal.returns
returns c = redrawn_balanced
