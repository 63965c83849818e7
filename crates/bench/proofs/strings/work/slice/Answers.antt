use Rattle.bench.proofs.LentGraphs.{graph_of_all}
use Rattle.bench.proofs.strings.work.slice.Goals as goal

pub extract_shapes-requires : goal.extract_shapes-requires
extract_shapes-requires c = record { graph = graph_of_all _ _ (rw c.in-Some.is at c.in_ok-view.ensures.lent) }
