use Rattle.std.proofs.Common.{◌≤◌, length}
use Rattle.polygon_overlay.proofs.point_location.sample.looks_at.Given as goal

-- So many are left.
abbrev pub invariant-loop-left : goal.invariant-loop-left
invariant-loop-left g l = l.left ≤ length l.stretches

abbrev pub decreases-loop-left : goal.decreases-loop-left
decreases-loop-left g l = l.left
