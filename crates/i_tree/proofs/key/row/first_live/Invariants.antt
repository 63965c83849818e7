use Rattle.std.proofs.Common.{◌-◌, ◌≡◌, ◌≤◌, drop}
use Rattle.i_tree.specs.LiveList.{live_at}
use Rattle.i_tree.proofs.key.row.first_live.Given as goal

abbrev pub invariant-loop-at : goal.invariant-loop-at
invariant-loop-at g l = record {
  beyond : l.from ≤ l.at;
  within : l.at ≤ l.end;
  same : live_at g.E.Ord.cmp g.K.ExpiredKey.expires l.time (drop l.from l.entries) ≡ live_at g.E.Ord.cmp g.K.ExpiredKey.expires l.time (drop l.at l.entries);
}

abbrev pub decreases-loop-at : goal.decreases-loop-at
decreases-loop-at g l = l.end - l.at
