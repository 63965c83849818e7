-- Least areas: what reaches one.
use Rattle.std.specs.Prelude.{◌≡◌, ◌≢◌, ℕ, ◌/◌, Bool, false, not, nat_le, List, [], ◌∷◌, ◌++◌, map, filter, flat_map, unsigned_abs, IsPermutation}
use Rattle.plane_base.specs.Plane.{Point}
use Rattle.plane_base.specs.Areas.{area}

-- Whether a contour's area reaches the least one. It is counted in whole units: half a unit is dropped.
abbrev pub reaches : ℕ → List Point → Bool
reaches least points = nat_le least (unsigned_abs (area points) / 2)

-- ---- shapes

abbrev pub outline_reaches : ℕ → List (List Point) → Bool
outline_reaches least [] = false
outline_reaches least (outline ∷ holes) = reaches least outline

-- a shape without the holes that don't reach the least area
abbrev pub shape_reaching : ℕ → List (List Point) → List (List Point)
shape_reaching least [] = []
shape_reaching least (outline ∷ holes) = outline ∷ filter (reaches least) holes

abbrev pub holes_reaching : ℕ → List (List Point) → List (List Point)
holes_reaching least [] = []
holes_reaching least (outline ∷ holes) = filter (reaches least) holes

-- the holes that reach the least area in shapes whose outlines don't
abbrev pub holes_left : ℕ → List (List (List Point)) → List (List Point)
holes_left least shapes = flat_map (holes_reaching least) (filter (λ s. not (outline_reaches least s)) shapes)

-- holes behind those of the first shape: without shapes they are lost
abbrev pub behind_first : List (List Point) → List (List (List Point)) → List (List (List Point))
behind_first holes [] = []
behind_first holes (shape ∷ shapes) = (shape ++ holes) ∷ shapes

-- The shapes whose outlines reach the least area, each with its holes that do. Such holes of other shapes go to the first.
abbrev pub reaching : ℕ → List (List (List Point)) → List (List (List Point))
reaching least shapes = behind_first (holes_left least shapes) (map (shape_reaching least) (filter (outline_reaches least) shapes))

-- ---- what is left

abbrev pub outlines_of : List (List (List Point)) → List (List Point)
outlines_of [] = []
outlines_of ([] ∷ shapes) = outlines_of shapes
outlines_of ((outline ∷ holes) ∷ shapes) = outline ∷ outlines_of shapes

abbrev pub holes_in : List (List Point) → List (List Point)
holes_in [] = []
holes_in (outline ∷ holes) = holes

abbrev pub holes_of : List (List (List Point)) → List (List Point)
holes_of shapes = flat_map holes_in shapes

-- Of all shapes the outlines are left that reach the least area, in order, and where one is left, the holes that do.
pub record AreLeft (least : ℕ) (all left : List (List (List Point))) : Type 0 where
  pub outlines : outlines_of left ≡ filter (reaches least) (outlines_of all)
  pub holes : left ≢ [] → IsPermutation (filter (reaches least) (holes_of all)) (holes_of left)
