use Rattle.std.proofs.Common.{◌-◌, ◌≡◌, ◌*◌, ◌^◌, ◌<◌, ◌≤◌, true, get_or, length}
use Rattle.std.specs.declared.cmp.Ordering.{Ordering}
use Rattle.i_tree.specs.LiveList.{is_live, live_at}
use Rattle.i_tree.specs.KeyAnswers.{DependsOnKey, IsMonotone}
use Rattle.i_tree.specs.Row.{IsParted}
use Rattle.i_tree.specs.TreeBound.{most_comparisons}
use Rattle.i_tree.proofs.key.row.search.Given as goal

abbrev pub invariant-loop-low : goal.invariant-loop-low
invariant-loop-low g l = record {
  order : l.low ≤ l.high;
  beyond : l.fn.place.from ≤ l.low;
  within : l.high ≤ l.fn.place.end;
  last : (d : _) → l.fn.place.from < l.low → is_live g.E.Ord.cmp g.K.ExpiredKey.expires l.time (get_or l.entries (l.low - 1) d).0 ≡ true;
  parted : (by : _ → Ordering) → DependsOnKey (goal.F-post g l.f) by (live_at g.E.Ord.cmp g.K.ExpiredKey.expires l.time l.entries) →
      IsMonotone by (live_at g.E.Ord.cmp g.K.ExpiredKey.expires l.time l.entries) →
      IsParted g.E.Ord.cmp g.K.ExpiredKey.expires by l.time l.entries l.fn.place.from l.fn.place.end →
      IsParted g.E.Ord.cmp g.K.ExpiredKey.expires by l.time l.entries l.low l.high;
  never_falls : l.fn.steps.comparisons ≤ l.steps.comparisons;
  few : l.steps.comparisons - l.fn.steps.comparisons ≤ most_comparisons (length l.entries);
  halved : 2 ^ (l.steps.comparisons - l.fn.steps.comparisons) * (l.high - l.low) ≤ length l.entries;
  pairs : l.steps.pairs ≡ l.fn.steps.pairs;
}

abbrev pub decreases-loop-low : goal.decreases-loop-low
decreases-loop-low g l = l.high - l.low
