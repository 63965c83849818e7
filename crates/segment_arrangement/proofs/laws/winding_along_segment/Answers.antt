use Rattle.segment_arrangement.proofs.Facts.ConstantSides.{winding_along_segment}
use Rattle.segment_arrangement.proofs.laws.winding_along_segment.Goals as goal

pub returns : goal.returns
returns c = winding_along_segment
