-- The signed area of a contour.
use Rattle.std.specs.Prelude.{ℕ, ◌^◌, ℤ, pos, ◌+ℤ◌, ◌-ℤ◌, ◌*ℤ◌, Bool, cond, List, [], ◌∷◌}
use Rattle.plane_base.specs.Plane.{Point}
use Rattle.plane_base.specs.Given.{closed}

-- twice the signed area between a step and the origin
abbrev pub step_area : Point → Point → ℤ
step_area u v = (u.x *ℤ v.y) -ℤ (u.y *ℤ v.x)

-- what that comes to at most between coordinates, less where they have 20 bits
abbrev pub step_room : Bool → ℕ
step_room narrow = cond narrow (2 ^ 41) (2 ^ 73)

-- the sum over a path's steps
abbrev pub path_area : List Point → ℤ
path_area [] = pos 0
path_area (u ∷ []) = pos 0
path_area (u ∷ v ∷ rest) = step_area u v +ℤ path_area (v ∷ rest)

-- Twice the signed area of a contour, above 0 where it runs counterclockwise.
abbrev pub area : List Point → ℤ
area c = path_area (closed c)
