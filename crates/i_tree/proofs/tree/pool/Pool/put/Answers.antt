use Rattle.std.proofs.Common.{refl, ap, ◌∙◌, arith}
use Rattle.std.proofs.lemmas.List.{length-map}
use Rattle.i_tree.specs.Tree.Pool.{places, links_of}
use Rattle.i_tree.proofs.Trees.Words.{links_of-word, IsPut-written, entries-kept}
use Rattle.i_tree.proofs.tree.pool.Pool.put.Goals as goal

pub index_mut-node-requires : goal.index_mut-node-requires
unfolding places
index_mut-node-requires g c =
    let h = rw (← c.self.view_is, length-map) at c.requires.within in
    omega (arith, c.self.inside.nodes.ok.0)

pub returns-clause-tree : goal.returns-clause-tree
unfolding places
returns-clause-tree g c =
    let h = rw (← c.self.view_is, length-map) at c.requires.within in
    rw (← c.self.view_is)
    (IsPut-written _ (λ node. node.entry) _ _ c.self.inside.nodes.items c.args.i _ c.args.links (ap (links_of c.args.links.left c.args.links.right) c.word-parent.ensures ∙ links_of-word c.args.links.left c.args.links.right c.args.links.parent c.args.links.red c.requires.fits) h)

pub returns-clause-entries : goal.returns-clause-entries
returns-clause-entries g c = rw (← c.self.view_is) (entries-kept (λ node. links_of node.left node.right node.parent) _ c.self.inside.root c.self.inside.spare c.self.inside.nodes.items c.args.i c.index_mut-node.result.now _ c.index_mut-node.ensures.value refl)
