use Rattle.std.proofs.Common.{◌≡◌, ◌*◌, ◌<◌, ◌≤◌, true}
use Rattle.i_tree.specs.Ranges.Masks.{is_met}
use Rattle.i_tree.proofs.Ranges.Levels.{is_level, BeginsUntil, EndsFrom}
use Rattle.i_tree.proofs.Ranges.MaskLoops.{IsDone}
use Rattle.i_tree.proofs.seg.mask.range_to_intersect_mask.Given as goal

abbrev pub invariant-loop-level : goal.invariant-loop-level
invariant-loop-level l = record {
  level : is_level l.level ≡ true;
  small : l.level ≤ 32;
  ordered : l.left ≤ l.right;
  right : l.right ≤ 63;
  starts : l.level ≤ l.left;
  stops : 0 < l.level → l.right < 2 * l.level;
  begins : BeginsUntil l.last l.level l.right;
  ends : EndsFrom l.first l.level l.left;
  done : IsDone (is_met l.first l.last) l.level l.mask;
}

abbrev pub decreases-loop-level : goal.decreases-loop-level
decreases-loop-level l = l.level
