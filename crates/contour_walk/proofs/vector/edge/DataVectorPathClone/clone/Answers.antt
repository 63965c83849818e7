use Rattle.std.proofs.lemmas.Iterator.{YieldsList-from_slice, items_from_collect}
use Rattle.std.proofs.lemmas.Iterator.Consumers.{YieldsList-from_copied}
use Rattle.contour_walk.proofs.vector.edge.DataVectorPathClone.clone.Goals as goal

pub returns : goal.returns
returns g c = record {
  cases = rw c.in_ok-collect.was at (items_from_collect c.collect.result c.collect.ensures.ran (YieldsList-from_copied (YieldsList-from_slice c.args.self.now.edges.items cc)));
}
