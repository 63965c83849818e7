use Rattle.std.proofs.Common.{◌≡◌, ℕ, ◌<◌, length, map, slice_index_or}
use Rattle.std.proofs.Math.ListN.{drop}
use Rattle.plane_base.specs.Counts.{Count}
use Rattle.segment_arrangement.specs.RuleViews.{fill_rule_of}
use Rattle.segment_arrangement.specs.Sweeps.{IsHandedUp}
use Rattle.segment_arrangement.specs.SweepViews.{sides_at}
use Rattle.segment_arrangement.proofs.fan_sides.hand_up.Given as goal

abbrev pub invariant-loop-k : goal.invariant-loop-k
invariant-loop-k g l = record {
  len : length l.sides ≡ length l.segments;
  led : (lower : ℕ → Count) (d : _) → IsHandedUp lower (λ i. g.C.FilledCount.sides (slice_index_or l.segments i d).count) l.fn.below (map (λ s. s.index) l.fan)
      → IsHandedUp lower (λ i. g.C.FilledCount.sides (slice_index_or l.segments i d).count) l.bottom (map (λ s. s.index) (drop l.k l.fan));
  found : (lower : ℕ → Count) (d : _) (e : _) (t : _) (j : ℕ) → IsHandedUp lower (λ i. g.C.FilledCount.sides (slice_index_or l.segments i d).count) l.fn.below (map (λ s. s.index) l.fan) → j < l.k
      → slice_index_or l.sides (slice_index_or l.fan j t).index e ≡ sides_at g.C.FilledCount.sides g.C.FilledCount.filled (fill_rule_of l.rule) lower (λ i. (slice_index_or l.segments i d).count) (slice_index_or l.fan j t).index;
}
