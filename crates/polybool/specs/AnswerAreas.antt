-- The area of an answer.
use Rattle.std.specs.Prelude.{ℤ, pos, ◌+ℤ◌, ◌<◌, ◌^◌, List, [], ◌∷◌, length, flat_map, All}
use Rattle.plane_base.specs.Plane.{Point, IsWithin}
use Rattle.plane_base.specs.Areas.{area}

-- twice the signed area of each contour, summed
abbrev pub area_sum : List (List Point) → ℤ
area_sum [] = pos 0
area_sum (c ∷ cs) = area c +ℤ area_sum cs

-- that of all contours of shapes
abbrev pub shapes_area : List (List (List Point)) → ℤ
shapes_area shapes = area_sum (flat_map (λ s. s) shapes)

-- All points of the contours are in range, and fewer than 2^31. So 128 bits hold the sum of the areas.
abbrev pub AreMeasurable : ℤ → ℤ → List (List Point) → Type 0
AreMeasurable least greatest cs = All (IsWithin least greatest) (flat_map (λ c. c) cs) × (length (flat_map (λ c. c) cs) < 2 ^ 31)
