use Rattle.std.proofs.Common.{◌≡◌, All, false, take}
use Rattle.contour_walk.proofs.bind.has_hole.Given as goal

-- No contour before this one is a hole.
abbrev pub invariant-loop-contour : goal.invariant-loop-contour
invariant-loop-contour g l = All (λ c. c.is_hole ≡ false) (take l.contour-index l.contours)
