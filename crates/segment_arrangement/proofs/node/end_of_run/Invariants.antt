use Rattle.std.proofs.Common.{◌≡◌, ℕ, ◌<◌, ◌≤◌, ◌-◌, length, slice_index_or}
use Rattle.segment_arrangement.specs.LinkEndViews.{end_of}
use Rattle.segment_arrangement.proofs.node.end_of_run.Given as goal

abbrev pub invariant-loop-to : goal.invariant-loop-to
invariant-loop-to g l = record {
  beyond : l.from ≤ l.to;
  within : l.to ≤ length l.ends;
  together : (i : ℕ) (d : _) → l.from ≤ i → i < l.to → (end_of g.N.EndNumber.half g.N.EndNumber.room g.N.EndNumber.number (slice_index_or l.ends i d)).point ≡ (end_of g.N.EndNumber.half g.N.EndNumber.room g.N.EndNumber.number l.end).point;
}

abbrev pub decreases-loop-to : goal.decreases-loop-to
decreases-loop-to g l = length l.ends - l.to
