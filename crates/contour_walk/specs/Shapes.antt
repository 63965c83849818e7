-- The answer: shapes of contours, each an outline and its holes.
use Rattle.std.specs.Prelude.{ℕ, zero, suc, ◌==◌, Bool, false, cond, pos, List, [], ◌∷◌, map, length, Option, Some, None}
use Rattle.std.specs.Ordering.{int_eq}
use Rattle.plane_base.specs.Plane.{Point, turn}
use Rattle.contour_walk.specs.Walks.{Border, Contour, walks}
use Rattle.contour_walk.specs.Binding.{hole_owner}

-- ---- points that a contour passes straight

-- the points of a path that do not lie on one line with their two neighbours, the last before it and the first after it
abbrev pub corners_after : Point → Point → List Point → List Point
corners_after before first [] = []
corners_after before first (p ∷ []) = cond (int_eq (turn before p first) (pos 0)) [] (p ∷ [])
corners_after before first (p ∷ r ∷ rest) =
    cond (int_eq (turn before p r) (pos 0)) (corners_after p first (r ∷ rest)) (p ∷ corners_after p first (r ∷ rest))

abbrev pub last_of : Point → List Point → Point
last_of p [] = p
last_of p (r ∷ rest) = last_of r rest

-- the contour without the points that it passes straight
abbrev pub without_straight : List Point → List Point
without_straight [] = []
without_straight (p ∷ rest) = corners_after (last_of p rest) p (p ∷ rest)

abbrev pub finished : Bool → List Point → List Point
finished keep_all points = cond keep_all points (without_straight points)

-- ---- shapes

abbrev pub is_owned_by : ℕ → Option ℕ → Bool
is_owned_by n None = false
is_owned_by n (Some m) = m == n

-- the holes, from the contour n on, that lie in the shape of an outline
abbrev pub holes_from : List Border → List Contour → ℕ → ℕ → List Contour → List (List Point)
holes_from links contours outline n [] = []
holes_from links contours outline n (c ∷ cs) =
    cond c.is_hole
    (cond (is_owned_by outline (hole_owner links contours (length contours) n))
    (c.points ∷ holes_from links contours outline (suc n) cs)
    (holes_from links contours outline (suc n) cs))
    (holes_from links contours outline (suc n) cs)

-- the shapes of the outlines from the contour n on, each with its holes, all in order of the walks
abbrev pub shapes_from : List Border → List Contour → ℕ → List Contour → List (List (List Point))
shapes_from links contours n [] = []
shapes_from links contours n (c ∷ cs) =
    cond c.is_hole
    (shapes_from links contours (suc n) cs)
    ((c.points ∷ holes_from links contours n zero contours) ∷ shapes_from links contours (suc n) cs)

-- The answer for the links of a boundary: one list of shapes, by the output direction (clockwise or not) and by whether points
-- that contours pass straight are kept.
abbrev pub answer : Bool → Bool → List Border → List (List (List Point))
answer output keep_all links =
    map (map (finished keep_all)) (shapes_from links (walks output links) zero (walks output links))
