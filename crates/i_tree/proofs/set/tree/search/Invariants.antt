use Rattle.std.proofs.Common.{◌≡◌}
use Rattle.std.specs.Fn.{FnReturnsAt}
use Rattle.i_tree.specs.IndexedSet.{DependsOnSetKey}
use Rattle.i_tree.specs.Tree.SetView.{values_in}
use Rattle.i_tree.specs.Tree.Entries.{held_below}
use Rattle.i_tree.proofs.Sets.Ways.{IsReached}
use Rattle.i_tree.proofs.set.tree.search.Given as goal

abbrev pub invariant-loop-at : goal.invariant-loop-at
invariant-loop-at g l = record {
  sought : IsReached (λ by. DependsOnSetKey g.V.KeyValue.key_of (FnReturnsAt g.F.Fn l.f) by (values_in l.tree)) g.V.KeyValue.key_of l.tree l.parent l.left l.index l.fn.steps.comparisons l.steps.comparisons l.at;
  pairs : l.steps.pairs ≡ l.fn.steps.pairs;
}

abbrev pub decreases-loop-at : goal.decreases-loop-at
decreases-loop-at g l = held_below l.tree.pool l.parent l.left
