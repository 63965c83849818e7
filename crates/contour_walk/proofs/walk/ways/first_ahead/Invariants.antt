use Rattle.std.proofs.Common.{ℕ, ◌-◌, ◌<◌, ◌≤◌, length}
use Rattle.contour_walk.specs.NodeRings.{IsPassed, LeadAhead}
use Rattle.contour_walk.proofs.walk.ways.first_ahead.Given as goal

-- The places from the first to this one are passed.
abbrev pub invariant-loop-at : goal.invariant-loop-at
invariant-loop-at g l = record {
  ahead : LeadAhead (length l.spokes) (IsPassed l.states l.spokes) l.ahead;
  from : l.fn.from ≤ l.at;
  within : l.at ≤ length l.spokes;
  passed : (i : ℕ) → l.fn.from ≤ i → i < l.at → IsPassed l.states l.spokes i;
}

abbrev pub decreases-loop-at : goal.decreases-loop-at
decreases-loop-at g l = length l.spokes - l.at
