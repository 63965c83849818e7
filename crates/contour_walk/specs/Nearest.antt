-- Of several points with numbers that which is met first on turning.
use Rattle.std.specs.Prelude.{ℕ, Bool, cond, List, [], ◌∷◌, Option, Some, None}
use Rattle.plane_base.specs.Plane.{Point}
use Rattle.contour_walk.specs.Turning.{is_met_before}

pub record Numbered : Type 0 where
  pub point : Point
  pub id : ℕ

-- of two points that which is met first
abbrev pub nearer : Bool → Point → Point → Numbered → Option Numbered → Numbered
nearer clockwise c a n None = n
nearer clockwise c a n (Some m) = cond (is_met_before clockwise c a m.point n.point) m n

-- the first point of the list that is met on turning round c from a
abbrev pub nearest : Bool → Point → Point → List Numbered → Option Numbered
nearest clockwise c a [] = None
nearest clockwise c a (n ∷ ns) = Some (nearer clockwise c a n (nearest clockwise c a ns))
