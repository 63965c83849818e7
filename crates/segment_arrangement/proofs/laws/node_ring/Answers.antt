use Rattle.segment_arrangement.proofs.Facts.Rings.{node_ring}
use Rattle.segment_arrangement.proofs.laws.node_ring.Goals as goal

pub returns : goal.returns
returns c = node_ring
