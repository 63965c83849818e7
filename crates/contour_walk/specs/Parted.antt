-- Contours that don't touch themselves: walks through the region, cut where they come back to a point.
use Rattle.std.specs.Prelude.{ℕ, zero, suc, ◌-◌, Bool, true, false, not, cond, List, [], ◌∷◌, ◌++◌, map, flat_map, length, take, drop, Option, Some, None}
use Rattle.plane_base.specs.Plane.{Point, is_before}
use Rattle.contour_walk.specs.Walks.{Border, Contour, top_link, is_same, left_by, walks}
use Rattle.contour_walk.specs.WalkLaws.{walk_along}
use Rattle.contour_walk.specs.Binding.{least_point, anchor, is_above}
use Rattle.contour_walk.specs.Loops.{place_of, loops}

-- ---- walks through the region

-- Each walk begins as any other, and turns through the region, whether or not the region is above its first link.
abbrev pub region_walks_within : ℕ → Bool → List Border → List (List Point)
region_walks_within zero output links = []
region_walks_within (suc n) output [] = []
region_walks_within (suc n) output (l ∷ ls) =
    elim (top_link l.edge.a (l ∷ ls)) [
      | None ↦ []
      | Some top ↦ let points = walk_along (not output) output (l ∷ ls) top in points ∷ region_walks_within n output (left_by points (l ∷ ls))
    ]

abbrev pub region_walks : Bool → List Border → List (List Point)
region_walks output links = region_walks_within (length links) output links

-- ---- loops as contours

-- a loop is a hole where the region is below its anchor
abbrev pub is_hole : List Border → List Point → Bool
is_hole links points =
    elim (anchor points) [
      | None ↦ false
      | Some e ↦ not (is_above links e)
    ]

-- the contour begun at a place
abbrev pub begun_at : ℕ → List Point → List Point
begun_at i points = drop i points ++ take i points

abbrev pub begun_at_least : List Point → Option Point → List Point
begun_at_least points None = points
begun_at_least points (Some v) =
    elim (place_of v points) [
      | None ↦ points
      | Some i ↦ begun_at i points
    ]

-- the contour begun with its least point
abbrev pub least_first : List Point → List Point
least_first points = begun_at_least points (least_point points)

-- the contour begun with the point before the first
abbrev pub last_first : List Point → List Point
last_first points = begun_at (length points - 1) points

-- A loop as a contour. Its least point stands second in an outline and first in a hole, or the other way round where the output is
-- clockwise.
abbrev pub part_of : Bool → List Border → List Point → Contour
part_of output links points = record {
  points = cond (is_same (is_hole links points) output) (last_first (least_first points)) (least_first points);
  is_hole = is_hole links points;
}

-- ---- their order

abbrev pub is_earlier : Option Point → Option Point → Bool
is_earlier p None = false
is_earlier None (Some r) = true
is_earlier (Some p) (Some r) = is_before p r

-- the first contour's least point is before the second's
abbrev pub comes_first : Contour → Contour → Bool
comes_first c d = is_earlier (least_point c.points) (least_point d.points)

-- the contour behind those that come first
abbrev pub put_in : Contour → List Contour → List Contour
put_in c [] = c ∷ []
put_in c (d ∷ ds) = cond (comes_first d c) (d ∷ put_in c ds) (c ∷ d ∷ ds)

-- by least points: contours with one least point stay in their order
abbrev pub by_least : List Contour → List Contour
by_least [] = []
by_least (c ∷ cs) = put_in c (by_least cs)

-- All loops of the walks through the region, as contours, by least points.
abbrev pub parted_walks : Bool → List Border → List Contour
parted_walks output links = by_least (map (part_of output links) (flat_map loops (region_walks output links)))

-- the contours that are answered: parted, or as they are walked
abbrev pub contours_for : Bool → Bool → List Border → List Contour
contours_for parted output links = cond parted (parted_walks output links) (walks output links)
