use Rattle.segment_arrangement.proofs.Facts.EvenNodes.{boundary_is_even}
use Rattle.segment_arrangement.proofs.laws.boundary_is_even.Goals as goal

pub returns : goal.returns
returns c = boundary_is_even
