use Rattle.segment_arrangement.proofs.Facts.LastBelow.{signs_sum_to_region}
use Rattle.segment_arrangement.proofs.laws.signs_sum_to_region.Goals as goal

pub returns : goal.returns
returns c = signs_sum_to_region
