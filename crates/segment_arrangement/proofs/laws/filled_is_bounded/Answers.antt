use Rattle.segment_arrangement.proofs.Facts.Filled.{filled_is_bounded}
use Rattle.segment_arrangement.proofs.laws.filled_is_bounded.Goals as goal

pub returns : goal.returns
returns c = filled_is_bounded
