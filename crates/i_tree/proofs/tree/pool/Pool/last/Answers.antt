use Rattle.std.proofs.Common.{ap}
use Rattle.i_tree.proofs.Trees.Orders.{rightmost-here, rightmost-within, rightmost-next, rightmost-last, rightmost-smaller}
use Rattle.i_tree.proofs.tree.pool.Pool.last.Goals as goal

pub links-right-requires : goal.links-right-requires
links-right-requires g c = rightmost-within c.args.self.now.pool c.args.i c.requires c.args.i (rightmost-here c.args.self.now.pool c.args.i c.requires)

pub loop-right-init : goal.loop-right-init
loop-right-init g c = record { rightmost = λ f. rightmost-here c.args.self.now.pool c.args.i f; right_is = ap (λ l. l.right) c.links-right.ensures.links }

pub links-right-requires-in-loop-right : goal.links-right-requires-in-loop-right
links-right-requires-in-loop-right g c =
    let f = c.requires in
    rightmost-within c.args.self.now.pool c.args.i f c.loop-right.right
    (rightmost-next c.args.self.now.pool c.args.i f c.loop-right.at (c.loop-right.invariant.rightmost f) c.loop-right.right c.loop-right.invariant.right_is c.loop-right-test.true)

pub loop-right-smaller : goal.loop-right-smaller
loop-right-smaller g c =
    let f = c.requires in
    rightmost-smaller c.args.self.now.pool c.args.i f c.loop-right.at (c.loop-right.invariant.rightmost f) c.loop-right.right c.loop-right.invariant.right_is c.loop-right-test.true

pub loop-right-preserved : goal.loop-right-preserved
loop-right-preserved g c = record {
  rightmost = λ f. rightmost-next c.args.self.now.pool c.args.i f c.loop-right.at (c.loop-right.invariant.rightmost f) c.loop-right.right c.loop-right.invariant.right_is c.loop-right-test.true;
  right_is = ap (λ l. l.right) c.links-right-in-loop-right.ensures.links;
}

pub returns : goal.returns
returns g c = λ f. rightmost-last c.args.self.now.pool c.args.i f c.loop-right.at (c.loop-right.invariant.rightmost f) c.loop-right.right c.loop-right.invariant.right_is c.loop-right-test.false
