-- Convex contours.
use Rattle.std.specs.Prelude.{pos, ◌<ℤ◌, ◌≤◌, ◌⊎◌, List, ◌∷◌, length, All}
use Rattle.plane_base.specs.Plane.{Point, turn}
use Rattle.plane_base.specs.Cycles.{SameCycle}

-- Left of each directed edge, from a to b, lie all other points.
abbrev pub IsLeftConvex : List Point → Type 0
IsLeftConvex c = (a b : Point) (others : List Point) → SameCycle c (a ∷ b ∷ others) → All (λ p. pos 0 <ℤ turn a b p) others

-- Right of each directed edge lie all other points.
abbrev pub IsRightConvex : List Point → Type 0
IsRightConvex c = (a b : Point) (others : List Point) → SameCycle c (a ∷ b ∷ others) → All (λ p. turn a b p <ℤ pos 0) others

-- At least three points, and each edge has all others strictly left of it, or each strictly right.
abbrev pub IsConvex : List Point → Type 0
IsConvex c = (3 ≤ length c) × (IsLeftConvex c ⊎ IsRightConvex c)
