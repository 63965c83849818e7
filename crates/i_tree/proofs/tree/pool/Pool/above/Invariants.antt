use Rattle.std.proofs.Common.{suc}
use Rattle.i_tree.specs.Tree.Pool.{places, Focus}
use Rattle.i_tree.proofs.Trees.Climbs.{climb}
use Rattle.i_tree.proofs.Trees.Orders.{IsAbove}
use Rattle.i_tree.proofs.tree.pool.Pool.above.Given as goal

abbrev pub invariant-loop-parent : goal.invariant-loop-parent
invariant-loop-parent g l = (f : Focus l.self.pool l.fn.i) → IsAbove l.self.pool l.fn.i f l.at l.parent

abbrev pub decreases-loop-parent : goal.decreases-loop-parent
decreases-loop-parent g l = climb (suc (places l.self.pool)) l.self.pool l.parent
