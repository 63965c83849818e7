use Rattle.std.proofs.Common.{◌≡◌, suc, ◌-◌}
use Rattle.i_tree.specs.Tree.Pool.{places, links_at, Focus}
use Rattle.i_tree.proofs.Trees.Climbs.{climb}
use Rattle.i_tree.proofs.Trees.Firsts.{IsLeftmost}
use Rattle.i_tree.proofs.tree.pool.Pool.first.Given as goal

abbrev pub invariant-loop-left : goal.invariant-loop-left
invariant-loop-left g l = record {
  leftmost : (f : Focus l.self.pool l.fn.i) → IsLeftmost f.tree l.at;
  left_is : l.left ≡ (links_at l.self.pool l.at).left;
}

abbrev pub decreases-loop-left : goal.decreases-loop-left
decreases-loop-left g l = suc (places l.self.pool) - climb (suc (places l.self.pool)) l.self.pool l.at
