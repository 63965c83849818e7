use Rattle.std.proofs.Common.{◌≡◌, ◌∙◌, ap, not, false, true}
use Rattle.i_tree.specs.Tree.Shape.{under}
use Rattle.i_tree.specs.Tree.Pool.{child_of, links_at}
use Rattle.i_tree.proofs.Trees.Reads.{node-within}
use Rattle.i_tree.proofs.Trees.Twists.{child-outer, child-inner, inner-lifts, IsRedOuter-same, IsRedOuter-lifted, other_side, same_side}
use Rattle.i_tree.proofs.tree.pool.Pool.straighten.Goals as goal

pub links-requires : goal.links-requires
links-requires g c =
    let (sp, (ns, (above, t))) = c.requires in
    let a = t.twice in
    node-within c.args.self.now.pool sp (under a.context c.args.left above false a.uncle) a.inner_side c.args.parent true a.tree a.sibling a.stands

pub lift-requires : goal.lift-requires
lift-requires g c =
    let (sp, (ns, (above, t))) = c.requires in
    let read : child_of (not c.args.left) (links_at c.args.self.now.pool c.args.parent) ≡ c.args.i = rw (← c.links.ensures.links, ← c.child.ensures) c.if-child-i.true in
    let inner = other_side _ _ (λ e. child-outer c.args.self.now.pool sp ns t.deep c.args.left above c.args.parent c.args.i t.twice e read) in
    inner-lifts c.args.self.now.pool sp ns t.deep c.args.left above c.args.parent c.args.i t.twice inner

pub returns-then-child-i-clause-tree : goal.returns-then-child-i-clause-tree
returns-then-child-i-clause-tree g c = λ sp ns above t.
    let read : child_of (not c.args.left) (links_at c.args.self.now.pool c.args.parent) ≡ c.args.i = rw (← c.links.ensures.links, ← c.child.ensures) c.if-child-i.true in
    let inner = other_side _ _ (λ e. child-outer c.args.self.now.pool sp ns t.deep c.args.left above c.args.parent c.args.i t.twice e read) in
    IsRedOuter-lifted c.args.self.now.pool sp ns t.deep c.args.left above c.args.parent c.args.i t.twice t.uncle_black c.lift.new.self.pool inner
    (c.lift.ensures.tree (inner-lifts c.args.self.now.pool sp ns t.deep c.args.left above c.args.parent c.args.i t.twice inner))

pub returns-else-child-i-clause-tree : goal.returns-else-child-i-clause-tree
returns-else-child-i-clause-tree g c = λ sp ns above t.
    let same = c.child.ensures ∙ ap (child_of (not c.args.left)) c.links.ensures.links in
    let outer = same_side _ _ (λ e. c.if-child-i.false (same ∙ child-inner c.args.self.now.pool sp ns t.deep c.args.left above c.args.parent c.args.i t.twice e)) in
    IsRedOuter-same c.args.self.now.pool sp ns t.deep c.args.left above c.args.parent c.args.i t.twice t.uncle_black outer
