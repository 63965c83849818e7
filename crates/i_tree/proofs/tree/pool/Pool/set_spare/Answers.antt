use Rattle.i_tree.proofs.Trees.Writes.{ChangesOnly-spare}
use Rattle.i_tree.proofs.tree.pool.Pool.set_spare.Goals as goal

pub returns-clause-only : goal.returns-clause-only
returns-clause-only g c = rw (← c.self.view_is) (ChangesOnly-spare _ c.self.inside.root c.self.inside.spare c.args.spare)
