use Rattle.std.proofs.Common.{◌-◌, ◌≤◌, length}
use Rattle.i_tree.proofs.key.row.first_expired.Given as goal

abbrev pub invariant-loop-at : goal.invariant-loop-at
invariant-loop-at g l = record {
  beyond : l.from ≤ l.at;
  within : l.end ≤ length l.entries;
}

abbrev pub decreases-loop-at : goal.decreases-loop-at
decreases-loop-at g l = l.end - l.at
