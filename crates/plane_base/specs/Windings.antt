-- How often edges and contours wind round a rational point.
use Rattle.std.specs.Prelude.{◌≡◌, ℤ, pos, ◌+ℤ◌, false, cond, List, [], ◌∷◌, All}
use Rattle.plane_base.specs.Plane.{Point, RationalPoint, is_below, step_winding, lies_on}
use Rattle.plane_base.specs.Counts.{Count, Entry}
use Rattle.plane_base.specs.Given.{given, closed}
use Rattle.plane_base.specs.Totals.{total}

-- The winding of a map at a point: the sum of the counts of its edges that lie strictly below the point.
abbrev pub winding : List (Entry Count) → RationalPoint → Count
winding es p = record {
  subject = total (λ e. cond (is_below e.edge.a e.edge.b p) e.count.subject (pos 0)) es;
  clip = total (λ e. cond (is_below e.edge.a e.edge.b p) e.count.clip (pos 0)) es;
}

-- The winding of contours at a point: that of their edges, all points kept.
abbrev pub contour_winding : List (List Point) → RationalPoint → ℤ
contour_winding contours p = (winding (given contours []) p).subject

-- the point lies on no edge of the map
abbrev pub IsOff : List (Entry Count) → RationalPoint → Type 0
IsOff es p = All (λ e. lies_on e.edge p ≡ false) es

-- what the steps of a path add to the winding at a point
abbrev pub path_winding : List Point → RationalPoint → ℤ
path_winding [] p = pos 0
path_winding (u ∷ []) p = pos 0
path_winding (u ∷ v ∷ rest) p = step_winding u v p +ℤ path_winding (v ∷ rest) p

-- what the steps of a contour add to it
abbrev pub cycle_winding : List Point → RationalPoint → ℤ
cycle_winding c p = path_winding (closed c) p
