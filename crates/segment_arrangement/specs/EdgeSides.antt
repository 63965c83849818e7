-- What lies on both sides of an edge of a map.
--
-- The lower side of a vertical edge is its right one, the upper side its left one.
use Rattle.std.specs.Prelude.{ℕ, ◌+◌, ◌+ℤ◌, ℤ, pos, negsuc, Bool, cond, not, ◌&&◌, ◌||◌, List, filter}
use Rattle.plane_base.specs.Plane.{Edge, RationalPoint}
use Rattle.plane_base.specs.Counts.{Count, Entry, boolean}
use Rattle.plane_base.specs.Windings.{winding}
use Rattle.plane_base.specs.Regions.{FillRule, OverlayRule, is_filled, region}

abbrev pub middle : Edge → RationalPoint
middle s = record { x = s.a.x +ℤ s.b.x; y = s.a.y +ℤ s.b.y; q = 2 }

-- the windings below the edge: those at its middle, which it does not pass below itself
abbrev pub lower_side : List (Entry Count) → Edge → Count
lower_side es s = winding es (middle s)

-- the windings above it
abbrev pub upper_side : List (Entry Count) → Entry Count → Count
upper_side es e = boolean.join (lower_side es e.edge) e.count

-- ---- fills

abbrev pub bit : Bool → ℕ → ℕ
bit filled value = cond filled value 0

-- the fill of an edge: 1 and 2 where the subject fills its upper and its lower side, 4 and 8 where the clip does
abbrev pub fill_bits : FillRule → Count → Count → ℕ
fill_bits fill lower upper =
    (bit (is_filled fill upper.subject) 1 + bit (is_filled fill lower.subject) 2)
    + (bit (is_filled fill upper.clip) 4 + bit (is_filled fill lower.clip) 8)

abbrev pub fill_of : FillRule → List (Entry Count) → Entry Count → ℕ
fill_of fill es e = fill_bits fill (lower_side es e.edge) (upper_side es e)

-- ---- the boundary of a region

abbrev pub differ : Bool → Bool → Bool
differ a b = (a && not b) || (b && not a)

-- the region is on one side of the edge, and not on the other
abbrev pub is_boundary : FillRule → OverlayRule → List (Entry Count) → Entry Count → Bool
is_boundary fill rule es e = differ (region fill rule (lower_side es e.edge)) (region fill rule (upper_side es e))

abbrev pub boundary : FillRule → OverlayRule → List (Entry Count) → List (Entry Count)
boundary fill rule es = filter (is_boundary fill rule es) es

abbrev pub indicator : Bool → ℤ
indicator holds = cond holds (pos 1) (pos 0)

-- 1 where the region is above the edge alone, -1 where it is below it alone, else 0
abbrev pub sign : FillRule → OverlayRule → List (Entry Count) → Entry Count → ℤ
sign fill rule es e =
    cond (region fill rule (upper_side es e))
    (cond (region fill rule (lower_side es e.edge)) (pos 0) (pos 1))
    (cond (region fill rule (lower_side es e.edge)) (negsuc 0) (pos 0))
