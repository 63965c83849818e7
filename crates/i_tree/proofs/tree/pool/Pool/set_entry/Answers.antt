use Rattle.std.proofs.Common.{refl}
use Rattle.i_tree.specs.Tree.Pool.{links_of}
use Rattle.i_tree.proofs.Trees.Words.{entry-written}
use Rattle.i_tree.proofs.tree.pool.Pool.set_entry.Goals as goal

pub returns : goal.returns
returns g c = rw (← c.self.view_is) (entry-written (λ node. links_of node.left node.right node.parent) (λ node. node.entry) c.self.inside.root c.self.inside.spare c.self.inside.nodes.items c.args.i c.index_mut.result.now _ c.args.entry c.index_mut.ensures.value refl refl)
