use Rattle.segment_arrangement.proofs.Facts.LastBelow.{winding_is_last_upper}
use Rattle.segment_arrangement.proofs.laws.winding_is_last_upper.Goals as goal

pub returns : goal.returns
returns c = winding_is_last_upper
