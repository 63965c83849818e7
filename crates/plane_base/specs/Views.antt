-- What contracts see of the code's points and contours: points over whole numbers.
use Rattle.std.specs.Prelude.{ℤ, List, map}
use Rattle.plane_base.specs.Plane.{Point}
use Rattle.plane_base.specs.declared.point.IntPoint.{IntPoint}

-- the point over whole numbers, the values of its coordinates
abbrev pub point_of : {I : Type 0} → (I → ℤ) → IntPoint I → Point
point_of value p = record { x = value p.x; y = value p.y }

abbrev pub points_of : {I : Type 0} → (I → ℤ) → List (IntPoint I) → List Point
points_of value ps = map (point_of value) ps
