use Rattle.std.proofs.Common.{◌≡◌, ◌*◌, ◌<◌, ◌≤◌, true}
use Rattle.i_tree.specs.Ranges.Masks.{is_placed}
use Rattle.i_tree.proofs.Ranges.Levels.{is_level, BeginsFrom, EndsBefore}
use Rattle.i_tree.proofs.Ranges.MaskLoops.{IsDone}
use Rattle.i_tree.proofs.seg.mask.range_to_place_mask.Given as goal

abbrev pub invariant-loop-level : goal.invariant-loop-level
invariant-loop-level l = record {
  level : is_level l.level ≡ true;
  small : l.level ≤ 32;
  some : 0 < l.left;
  left : l.left ≤ 64;
  right : l.right ≤ 64;
  starts : l.level ≤ l.left;
  stops : 0 < l.level → l.right ≤ 2 * l.level;
  begins : BeginsFrom l.first l.level l.left;
  ends : EndsBefore l.last l.level l.right;
  done : IsDone (is_placed l.first l.last) l.level l.mask;
}

abbrev pub decreases-loop-level : goal.decreases-loop-level
decreases-loop-level l = l.level
