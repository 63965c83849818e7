use Rattle.std.proofs.Common.{ap}
use Rattle.i_tree.proofs.Trees.Orders.{fork-within, fork-focus, left-focus, previous-below, previous-above}
use Rattle.i_tree.proofs.tree.pool.Pool.previous.Goals as goal

pub links-left-requires : goal.links-left-requires
links-left-requires g c = fork-within c.args.self.now.pool c.args.i c.requires

pub last-requires : goal.last-requires
last-requires g c = left-focus c.args.self.now.pool c.args.i c.requires c.links-left.result.left (ap (λ l. l.left) c.links-left.ensures.links) c.if-left-ne-NO_NODE.true

pub returns-then-left-ne-NO_NODE : goal.returns-then-left-ne-NO_NODE
returns-then-left-ne-NO_NODE g c = λ k.
    previous-below c.args.self.now.pool c.args.i k c.last.result
    (c.last.ensures (left-focus c.args.self.now.pool c.args.i k c.links-left.result.left (ap (λ l. l.left) c.links-left.ensures.links) c.if-left-ne-NO_NODE.true))

pub above-requires : goal.above-requires
above-requires g c = fork-focus c.args.self.now.pool c.args.i c.requires

pub returns : goal.returns
returns g c = λ k.
    previous-above c.args.self.now.pool c.args.i k c.links-left.result.left c.above.result (ap (λ l. l.left) c.links-left.ensures.links) c.if-left-ne-NO_NODE.false
    (c.above.ensures (fork-focus c.args.self.now.pool c.args.i k))
