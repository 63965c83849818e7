use Rattle.std.specs.Prelude.{ℕ, ◌<◌, ◌≤◌, slice_index_or}
use Rattle.segment_split.proofs.pairs.rows.hold.first_after.Given as goal

-- No place so far follows.
abbrev pub invariant-loop-k : goal.invariant-loop-k
invariant-loop-k l = (m : ℕ) → m < l.k → slice_index_or l.to m 0 ≤ l.place
