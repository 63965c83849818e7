use Rattle.std.proofs.Common.{sym, arith}
use Rattle.std.proofs.lemmas.List.{length-map}
use Rattle.i_tree.specs.Tree.Pool.{places, links_of}
use Rattle.i_tree.proofs.Trees.Words.{links-read}
use Rattle.i_tree.proofs.tree.pool.Pool.links.Goals as goal

pub index-node-requires : goal.index-node-requires
unfolding places
index-node-requires g c =
    let h = rw (← c.self.view_is, length-map) at c.requires in
    omega (arith, c.self.inside.nodes.ok.0)

pub returns-clause-links : goal.returns-clause-links
unfolding links_of places
returns-clause-links g c =
    let h = rw (← c.self.view_is, length-map) at c.requires in
    rw (← c.self.view_is) (sym (links-read _ (λ node. node.entry) _ _ c.self.inside.nodes.items c.args.i c.index-node.result.now c.index-node.ensures h))
