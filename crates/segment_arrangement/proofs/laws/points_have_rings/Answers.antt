use Rattle.segment_arrangement.proofs.Facts.RingOrder.{points_have_rings}
use Rattle.segment_arrangement.proofs.laws.points_have_rings.Goals as goal

pub returns : goal.returns
returns c = points_have_rings
