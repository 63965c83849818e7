use Rattle.std.proofs.Common.{◌≡◌, ◌+◌, length}
use Rattle.std.specs.Fn.{FnReturnsAt}
use Rattle.std.specs.declared.cmp.Ordering.{Ordering}
use Rattle.i_tree.specs.IndexedSet.{TakesKeys, DependsOnSetKey}
use Rattle.i_tree.specs.SetSearch.{leading}
use Rattle.i_tree.proofs.set.list.count_not_above.Given as goal

abbrev pub invariant-loop-value : goal.invariant-loop-value
invariant-loop-value g l = record {
  callable : TakesKeys g.V.KeyValue.key_of (goal.F-pre g l.f) l.rest;
  depends : (by : _ → Ordering) → DependsOnSetKey g.V.KeyValue.key_of (FnReturnsAt g.F.Fn l.f) by l.values → DependsOnSetKey g.V.KeyValue.key_of (FnReturnsAt g.F.Fn l.f) by l.rest;
  count : (by : _ → Ordering) → DependsOnSetKey g.V.KeyValue.key_of (FnReturnsAt g.F.Fn l.f) by l.values → leading g.V.KeyValue.key_of by l.values ≡ l.count + leading g.V.KeyValue.key_of by l.rest;
  within : l.count + length l.rest ≡ length l.values;
  comparisons : l.steps.comparisons ≡ l.fn.steps.comparisons + l.count;
  pairs : l.steps.pairs ≡ l.fn.steps.pairs;
}

abbrev pub decreases-loop-value : goal.decreases-loop-value
decreases-loop-value g l = length l.rest
