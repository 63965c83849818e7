use Rattle.std.proofs.Common.{◌≡◌, ℕ, suc, List}
use Rattle.i_tree.specs.Tree.Shape.{Context, Tree}
use Rattle.i_tree.specs.Tree.Pool.{places, parent_of, IsOnSide}
use Rattle.i_tree.specs.Tree.Removal.{Lacks}
use Rattle.i_tree.proofs.Trees.Climbs.{climb}
use Rattle.i_tree.proofs.Trees.Fills.{Lacking}
use Rattle.i_tree.proofs.tree.pool.Pool.mend_removal.Given as goal

abbrev pub invariant-loop-i : goal.invariant-loop-i
invariant-loop-i g l = record {
  tree : (sp : List ℕ) (c : Context) (t : Tree) → Lacks l.fn.self.pool sp c t → parent_of c ≡ l.fn.parent → IsOnSide l.fn.side c → Lacking l.self.pool sp c t l.i l.left;
  entries : l.self.entries ≡ l.fn.self.entries;
}

abbrev pub decreases-loop-i : goal.decreases-loop-i
decreases-loop-i g l = climb (suc (places l.self.pool)) l.self.pool l.i
