use Rattle.std.proofs.Common.{◌≡◌, ◌++◌, take}
use Rattle.contour_walk.proofs.walk.spokes.with_ends.Given as goal

-- The others before this one are added.
abbrev pub invariant-loop-spoke : goal.invariant-loop-spoke
invariant-loop-spoke g l = l.spokes.items ≡ l.fn.starts.items ++ take l.spoke-index l.ends
