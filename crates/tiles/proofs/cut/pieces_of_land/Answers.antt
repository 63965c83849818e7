use Rattle.tiles.proofs.LentGraphs.{graph_of_all}
use Rattle.tiles.proofs.cut.pieces_of_land.Goals as goal

pub extract_shapes-requires : goal.extract_shapes-requires
extract_shapes-requires c = record { graph = graph_of_all _ _ (rw c.in-Some-view.is at c.in_ok-view.ensures.lent) }
