use Rattle.i_tree.specs.Tree.Pool.{links_of}
use Rattle.i_tree.proofs.Trees.Words.{Grows-written}
use Rattle.i_tree.proofs.tree.pool.Pool.add_place.Goals as goal

pub returns-clause-ok : goal.returns-clause-ok
returns-clause-ok g c = rw (c.in_default.ensures.items, ← c.self.view_is) (Grows-written (λ node. links_of node.left node.right node.parent) (λ node. node.entry) c.self.inside.root c.self.inside.spare c.self.inside.nodes.items _)
