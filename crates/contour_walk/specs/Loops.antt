-- The loops that a path closes where it comes back to a point.
use Rattle.std.specs.Prelude.{ℕ, suc, ◌+◌, ◌/◌, unsigned_abs, nat_le, Bool, ◌&&◌, cond, List, [], ◌∷◌, ◌++◌, length, take, drop, filter, Option, Some, None}
use Rattle.plane_base.specs.Plane.{Point}
use Rattle.plane_base.specs.Areas.{area}
use Rattle.contour_walk.specs.Walks.{same_point}

abbrev pub one_later : Option ℕ → Option ℕ
one_later None = None
one_later (Some i) = Some (suc i)

-- the place at which a point stands first
abbrev pub place_of : Point → List Point → Option ℕ
place_of p [] = None
place_of p (r ∷ rs) = cond (same_point p r) (Some 0) (one_later (place_of p rs))

-- One goes along the path and keeps its points. At a point that is kept already, what was kept behind it, with the point last, is a
-- loop and is cut out. What is left in the end is the last loop.
abbrev pub loops_from : List Point → List Point → List (List Point)
loops_from kept [] = kept ∷ []
loops_from kept (p ∷ rest) =
    elim (place_of p kept) [
      | None ↦ loops_from (kept ++ p ∷ []) rest
      | Some i ↦ (drop (i + 1) kept ++ p ∷ []) ∷ loops_from (take (i + 1) kept) rest
    ]

-- all loops of a path, in order as they are cut out
abbrev pub loops : List Point → List (List Point)
loops points = loops_from [] points

-- A loop of three points or more, whose area, rounded down, is the minimum or more. Two points go along a segment and back.
abbrev pub is_long : ℕ → List Point → Bool
is_long least points = nat_le 3 (length points) && nat_le least (unsigned_abs (area points) / 2)

-- the loops of a path that are long
abbrev pub long_loops : ℕ → List Point → List (List Point)
long_loops least points = filter (is_long least) (loops points)
