use Rattle.std.proofs.Common.{◌≡◌, ℕ, suc, List}
use Rattle.i_tree.specs.Tree.Pool.{places}
use Rattle.i_tree.specs.Tree.Insertion.{IsRedAt, IsMended}
use Rattle.i_tree.proofs.Trees.Climbs.{climb}
use Rattle.i_tree.proofs.tree.pool.Pool.mend_insertion.Given as goal

abbrev pub invariant-loop-red : goal.invariant-loop-red
invariant-loop-red g l = record {
  tree : (sp ns : List ℕ) (deep : ℕ) → IsRedAt l.fn.self.pool sp ns deep l.fn.i → IsMended l.self.pool sp ns (suc deep) l.red;
  entries : l.self.entries ≡ l.fn.self.entries;
}

abbrev pub decreases-loop-red : goal.decreases-loop-red
decreases-loop-red g l = climb (suc (places l.self.pool)) l.self.pool l.red
