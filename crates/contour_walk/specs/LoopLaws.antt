-- What the loops of a path keep to: they have its steps, repeat no point, and wind as it does.
use Rattle.std.specs.Prelude.{◌≡◌, pos, false, List, [], ◌∷◌, flat_map, All, AllPairs, IsPermutation}
use Rattle.plane_base.specs.Plane.{Point, RationalPoint}
use Rattle.plane_base.specs.Windings.{contour_winding}
use Rattle.contour_walk.specs.Walks.{same_point}
use Rattle.contour_walk.specs.WalkLaws.{contour_steps}
use Rattle.contour_walk.specs.Loops.{loops, long_loops}

-- The steps of all loops are those of the path, each once.
abbrev pub LoopsKeepSteps : Type 0
LoopsKeepSteps = (points : List Point) → IsPermutation (contour_steps points) (flat_map contour_steps (loops points))

abbrev pub Apart : Point → Point → Type 0
Apart p r = same_point p r ≡ false

-- No loop comes to a point twice.
abbrev pub LoopsRepeatNoPoint : Type 0
LoopsRepeatNoPoint = (points : List Point) → All (AllPairs Apart) (loops points)

-- A loop of two points, along a segment and back, winds round no point.
abbrev pub TwoPointsWindNothing : Type 0
TwoPointsWindNothing = (u v : Point) (p : RationalPoint) → contour_winding ((u ∷ v ∷ []) ∷ []) p ≡ pos 0

-- Where there is no minimum, the long loops wind together as their path does.
abbrev pub LongLoopsWind : Type 0
LongLoopsWind = (points : List Point) (p : RationalPoint) → contour_winding (long_loops 0 points) p ≡ contour_winding (points ∷ []) p
