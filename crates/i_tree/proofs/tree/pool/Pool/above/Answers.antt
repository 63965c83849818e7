use Rattle.std.proofs.Common.{ap, subst}
use Rattle.i_tree.specs.Tree.Pool.{IsOnSide}
use Rattle.i_tree.proofs.Trees.Orders.{focus-within, above-first, above-focus, above-within, above-top, above-found, above-next, above-smaller}
use Rattle.i_tree.proofs.tree.pool.Pool.above.Goals as goal

pub links-parent-requires : goal.links-parent-requires
links-parent-requires g c = focus-within c.args.self.now.pool c.args.i c.requires

pub loop-parent-init : goal.loop-parent-init
loop-parent-init g c = λ f. above-first c.args.self.now.pool c.args.i f c.links-parent.result.parent (ap (λ l. l.parent) c.links-parent.ensures.links)

pub is_left-requires : goal.is_left-requires
is_left-requires g c = above-focus c.args.self.now.pool c.args.i c.requires c.loop-parent.at c.loop-parent.parent (c.loop-parent.invariant c.requires)

pub returns-then-not-is_left : goal.returns-then-not-is_left
returns-then-not-is_left g c = λ f.
    let l = c.loop-parent.invariant f in
    let on = c.is_left.ensures (above-focus c.args.self.now.pool c.args.i f c.loop-parent.at c.loop-parent.parent l) in
    above-found c.args.self.now.pool c.args.i f c.loop-parent.at c.loop-parent.parent l c.loop-parent-test.true (subst (λ s. IsOnSide s l.context) c.if-not-is_left.true on)

pub links-parent-requires-in-loop-parent : goal.links-parent-requires-in-loop-parent
links-parent-requires-in-loop-parent g c = above-within c.args.self.now.pool c.args.i c.requires c.loop-parent.at c.loop-parent.parent (c.loop-parent.invariant c.requires) c.loop-parent-test.true

pub loop-parent-smaller : goal.loop-parent-smaller
loop-parent-smaller g c =
    above-smaller c.args.self.now.pool c.args.i c.requires c.loop-parent.at c.loop-parent.parent c.links-parent-in-loop-parent.result.parent (c.loop-parent.invariant c.requires) c.loop-parent-test.true
    (ap (λ l. l.parent) c.links-parent-in-loop-parent.ensures.links)

pub loop-parent-preserved : goal.loop-parent-preserved
loop-parent-preserved g c = λ f.
    let l = c.loop-parent.invariant f in
    let on = c.is_left.ensures (above-focus c.args.self.now.pool c.args.i f c.loop-parent.at c.loop-parent.parent l) in
    above-next c.args.self.now.pool c.args.i f c.loop-parent.at c.loop-parent.parent l c.links-parent-in-loop-parent.result.parent c.loop-parent-test.true (subst (λ s. IsOnSide s l.context) c.if-not-is_left.false on)
    (ap (λ l. l.parent) c.links-parent-in-loop-parent.ensures.links)

pub returns : goal.returns
returns g c = λ f. above-top c.args.self.now.pool c.args.i f c.loop-parent.at c.loop-parent.parent (c.loop-parent.invariant f) c.loop-parent-test.false
