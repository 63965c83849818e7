use Rattle.i_tree.proofs.Trees.Paints.{Stands-painted}
use Rattle.i_tree.proofs.tree.pool.Pool.paint.Goals as goal

pub returns-clause-tree : goal.returns-clause-tree
returns-clause-tree g c = λ sp x s was near far stands. Stands-painted c.args.self.now.pool c.put.new.self.pool sp x s c.args.i was c.args.red near far stands (rw (← c.links-links.ensures.links) c.put.ensures.tree)
