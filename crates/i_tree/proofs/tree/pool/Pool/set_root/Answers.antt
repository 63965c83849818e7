use Rattle.i_tree.proofs.Trees.Writes.{ChangesOnly-root}
use Rattle.i_tree.proofs.tree.pool.Pool.set_root.Goals as goal

pub returns-clause-only : goal.returns-clause-only
returns-clause-only g c = rw (← c.self.view_is) (ChangesOnly-root _ c.self.inside.root c.args.root c.self.inside.spare)
