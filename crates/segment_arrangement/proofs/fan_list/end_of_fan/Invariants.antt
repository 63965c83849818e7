use Rattle.std.proofs.Common.{◌≡◌, ℕ, ◌<◌, ◌≤◌, ◌-◌, length, slice_index_or}
use Rattle.segment_arrangement.proofs.fan_list.end_of_fan.Given as goal

abbrev pub invariant-loop-to : goal.invariant-loop-to
invariant-loop-to g l = record {
  beyond : l.from < l.to;
  within : l.to ≤ length l.segments;
  start : (d : _) → (slice_index_or l.segments l.from d).x_segment.a ≡ l.start;
  together : (i : ℕ) (d : _) → l.from ≤ i → i < l.to → (slice_index_or l.segments i d).x_segment.a ≡ l.start;
}

abbrev pub decreases-loop-to : goal.decreases-loop-to
decreases-loop-to g l = length l.segments - l.to
