use Rattle.std.proofs.Common.{refl}
use Rattle.std.proofs.lemmas.List.{length-map}
use Rattle.i_tree.specs.Tree.Pool.{links_of}
use Rattle.i_tree.proofs.Trees.Words.{entry-written, entry-read}
use Rattle.i_tree.proofs.tree.pool.Pool.entry_mut.Goals as goal

pub returns : goal.returns
returns g c =
    let h = rw (← c.self.view_is, length-map) at c.requires in (
      (refl, λ w. rw (← c.self.view_is) (entry-written (λ node. links_of node.left node.right node.parent) (λ node. node.entry) c.self.inside.root c.self.inside.spare c.self.inside.nodes.items c.args.i c.index_mut.result.now _ w c.index_mut.ensures.value refl refl)),
      record { writes_back = tt; value = rw (← c.self.view_is) (entry-read (λ node. links_of node.left node.right node.parent) (λ node. node.entry) c.self.inside.root c.self.inside.spare c.self.inside.nodes.items c.args.i c.index_mut.result.now c.index_mut.ensures.value h) },
    )
