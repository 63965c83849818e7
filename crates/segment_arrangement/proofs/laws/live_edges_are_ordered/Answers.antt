use Rattle.segment_arrangement.proofs.Facts.LiveLists.{live_edges_are_ordered}
use Rattle.segment_arrangement.proofs.laws.live_edges_are_ordered.Goals as goal

pub returns : goal.returns
returns c = live_edges_are_ordered
