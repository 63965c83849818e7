use Rattle.std.proofs.Common.{ap}
use Rattle.i_tree.proofs.Trees.Firsts.{leftmost-here, leftmost-within, leftmost-next, leftmost-last, leftmost-smaller}
use Rattle.i_tree.proofs.tree.pool.Pool.first.Goals as goal

pub links-left-requires : goal.links-left-requires
links-left-requires g c = leftmost-within c.args.self.now.pool c.args.i c.requires c.args.i (leftmost-here c.args.self.now.pool c.args.i c.requires)

pub loop-left-init : goal.loop-left-init
loop-left-init g c = record { leftmost = λ f. leftmost-here c.args.self.now.pool c.args.i f; left_is = ap (λ l. l.left) c.links-left.ensures.links }

pub links-left-requires-in-loop-left : goal.links-left-requires-in-loop-left
links-left-requires-in-loop-left g c =
    let f = c.requires in
    leftmost-within c.args.self.now.pool c.args.i f c.loop-left.left
    (leftmost-next c.args.self.now.pool c.args.i f c.loop-left.at (c.loop-left.invariant.leftmost f) c.loop-left.left c.loop-left.invariant.left_is c.loop-left-test.true)

pub loop-left-smaller : goal.loop-left-smaller
loop-left-smaller g c =
    let f = c.requires in
    leftmost-smaller c.args.self.now.pool c.args.i f c.loop-left.at (c.loop-left.invariant.leftmost f) c.loop-left.left c.loop-left.invariant.left_is c.loop-left-test.true

pub loop-left-preserved : goal.loop-left-preserved
loop-left-preserved g c = record {
  leftmost = λ f. leftmost-next c.args.self.now.pool c.args.i f c.loop-left.at (c.loop-left.invariant.leftmost f) c.loop-left.left c.loop-left.invariant.left_is c.loop-left-test.true;
  left_is = ap (λ l. l.left) c.links-left-in-loop-left.ensures.links;
}

pub returns : goal.returns
returns g c = λ f. leftmost-last c.args.self.now.pool c.args.i f c.loop-left.at (c.loop-left.invariant.leftmost f) c.loop-left.left c.loop-left.invariant.left_is c.loop-left-test.false
