use Rattle.std.proofs.Common.{sym, ◌∙◌}
use Rattle.i_tree.proofs.Trees.Nodes.{site}
use Rattle.i_tree.proofs.Sets.Trees.{index-among, at-node, index-none, index-some}
use Rattle.i_tree.proofs.set.tree.SetTreeSetCollection.index_before.Goals as goal

pub previous-before-requires : goal.previous-before-requires
previous-before-requires g c =
    let h = index-among c.self.inside.tree c.self.inside.insertions c.self.invariant c.args.index (rw (← c.self.view_is) at c.requires.live) in
    let o = at-node c.self.inside.tree c.self.inside.insertions c.self.invariant c.args.index h in
    (site o.parent o.side o.deep o.before o.near o.entry o.far o.after, o.node)

pub returns-then-before-eq-NO_NODE : goal.returns-then-before-eq-NO_NODE
returns-then-before-eq-NO_NODE g c =
    let h = index-among c.self.inside.tree c.self.inside.insertions c.self.invariant c.args.index (rw (← c.self.view_is) at c.requires.live) in
    let o = at-node c.self.inside.tree c.self.inside.insertions c.self.invariant c.args.index h in
    let last = c.previous-before.ensures (site o.parent o.side o.deep o.before o.near o.entry o.far o.after) o.node in
    rw (← c.self.view_is) (index-none c.self.inside.tree c.self.inside.insertions c.self.invariant c.args.index h (sym last ∙ c.if-before-eq-NO_NODE.true))

pub returns-else-before-eq-NO_NODE : goal.returns-else-before-eq-NO_NODE
returns-else-before-eq-NO_NODE g c =
    let h = index-among c.self.inside.tree c.self.inside.insertions c.self.invariant c.args.index (rw (← c.self.view_is) at c.requires.live) in
    let o = at-node c.self.inside.tree c.self.inside.insertions c.self.invariant c.args.index h in
    let last = c.previous-before.ensures (site o.parent o.side o.deep o.before o.near o.entry o.far o.after) o.node in
    rw (← c.self.view_is) (last ∙ index-some c.self.inside.tree c.self.inside.insertions c.self.invariant c.args.index h (λ e. c.if-before-eq-NO_NODE.false (last ∙ e)))
