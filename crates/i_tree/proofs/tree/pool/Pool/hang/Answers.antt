use Rattle.std.proofs.Common.{◌≢◌, ◌∙◌, sym, ap, arith}
use Rattle.i_tree.specs.declared.tree.pool.TheConstants.{NO_NODE}
use Rattle.i_tree.specs.Tree.Pool.{parent_of}
use Rattle.i_tree.proofs.Trees.Pools.{with_child-parent}
use Rattle.i_tree.proofs.Trees.Writes.{IsHung-root, IsHung-below, around-within}
use Rattle.i_tree.proofs.tree.pool.Pool.hang.Goals as goal

pub links-requires : goal.links-requires
links-requires g c =
    let p = c.requires in
    let ne : parent_of p.context ≢ NO_NODE = λ e. c.if-parent-eq-NO_NODE.false (sym p.parent_is ∙ e) in
    rw (← p.parent_is) (around-within c.args.self.now.pool p.context p.child p.around ne)

pub put-requires-clause-within : goal.put-requires-clause-within
put-requires-clause-within g c =
    let p = c.requires in
    let ne : parent_of p.context ≢ NO_NODE = λ e. c.if-parent-eq-NO_NODE.false (sym p.parent_is ∙ e) in
    rw (← p.parent_is) (around-within c.args.self.now.pool p.context p.child p.around ne)

pub put-requires-clause-fits : goal.put-requires-clause-fits
put-requires-clause-fits g c = let p = ap (λ l. l.parent) c.with_child_at-links.ensures ∙ with_child-parent c.args.left c.args.child c.links.result in omega (arith, c.links.ensures.fits)

pub returns-then-parent-eq-NO_NODE-clause-tree : goal.returns-then-parent-eq-NO_NODE-clause-tree
returns-then-parent-eq-NO_NODE-clause-tree g c = λ p. IsHung-root c.args.self.now.pool c.set_root.new.self.pool p.context p.child c.args.child p.around (p.parent_is ∙ c.if-parent-eq-NO_NODE.true) p.fits c.set_root.ensures.root c.set_root.ensures.spare c.set_root.ensures.only

pub returns-clause-tree : goal.returns-clause-tree
returns-clause-tree g c = λ p.
    let ne : parent_of p.context ≢ NO_NODE = λ e. c.if-parent-eq-NO_NODE.false (sym p.parent_is ∙ e) in
    IsHung-below c.args.self.now.pool c.put.new.self.pool p.context c.args.left p.child c.args.child p.around p.side_is ne p.once
    (rw (p.parent_is, ← c.links.ensures.links, ← c.with_child_at-links.ensures) c.put.ensures.tree)
