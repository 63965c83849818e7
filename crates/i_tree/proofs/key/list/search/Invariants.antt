use Rattle.std.proofs.Common.{◌≡◌, ◌+◌, All, length}
use Rattle.std.specs.declared.cmp.Ordering.{Ordering}
use Rattle.i_tree.specs.KeyAnswers.{DependsOnKey}
use Rattle.i_tree.specs.Search.{place_of}
use Rattle.i_tree.proofs.Keys.Places.{further}
use Rattle.i_tree.proofs.key.list.search.Given as goal

abbrev pub invariant-loop-entry : goal.invariant-loop-entry
invariant-loop-entry g l = record {
  callable : All (λ entry. goal.F-pre g l.f entry.0) l.rest;
  depends : (by : _ → Ordering) → DependsOnKey (goal.F-post g l.f) by l.entries → DependsOnKey (goal.F-post g l.f) by l.rest;
  place : (by : _ → Ordering) → DependsOnKey (goal.F-post g l.f) by l.entries → place_of by l.entries ≡ further l.at (place_of by l.rest);
  within : l.at + length l.rest ≡ length l.entries;
  comparisons : l.steps.comparisons ≡ l.fn.steps.comparisons + l.at;
  pairs : l.steps.pairs ≡ l.fn.steps.pairs;
}

abbrev pub decreases-loop-entry : goal.decreases-loop-entry
decreases-loop-entry g l = length l.rest
