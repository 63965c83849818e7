use Rattle.std.proofs.Common.{ℕ, ◌<◌, ◌≤◌, length}
use Rattle.contour_walk.specs.NodeRings.{IsPassed, LeadBack}
use Rattle.contour_walk.proofs.walk.ways.last_back.Given as goal

-- The places from this one to the last are passed.
abbrev pub invariant-loop-at : goal.invariant-loop-at
invariant-loop-at g l = record {
  back : LeadBack (length l.spokes) (IsPassed l.states l.spokes) l.back;
  within : l.at ≤ l.fn.before;
  passed : (i : ℕ) → l.at ≤ i → i < l.fn.before → IsPassed l.states l.spokes i;
}

abbrev pub decreases-loop-at : goal.decreases-loop-at
decreases-loop-at g l = l.at
