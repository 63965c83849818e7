use Rattle.std.proofs.Common.{◌≡◌, suc, ◌-◌}
use Rattle.i_tree.specs.Tree.Pool.{places, links_at, Focus}
use Rattle.i_tree.proofs.Trees.Climbs.{climb}
use Rattle.i_tree.proofs.Trees.Orders.{IsRightmost}
use Rattle.i_tree.proofs.tree.pool.Pool.last.Given as goal

abbrev pub invariant-loop-right : goal.invariant-loop-right
invariant-loop-right g l = record {
  rightmost : (f : Focus l.self.pool l.fn.i) → IsRightmost f.tree l.at;
  right_is : l.right ≡ (links_at l.self.pool l.at).right;
}

abbrev pub decreases-loop-right : goal.decreases-loop-right
decreases-loop-right g l = suc (places l.self.pool) - climb (suc (places l.self.pool)) l.self.pool l.at
