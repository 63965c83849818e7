-- The edges round a point, and how the region changes from each to the next.
use Rattle.std.specs.Prelude.{◌≡◌, ℕ, ◌+◌, ◌-◌, ◌<◌, ◌%◌, pos, ◌<ℤ◌, Bool, true, not, cond}
use Rattle.std.specs.Prelude.{List, [], ◌∷◌, ◌++◌, length, slice_index_or, map, filter, AllPairs, Contains, IsPermutation}
use Rattle.std.specs.Ordering.{is_eq}
use Rattle.plane_base.specs.Plane.{Point, turn, point_order}
use Rattle.plane_base.specs.Counts.{Count, Entry}
use Rattle.plane_base.specs.Windings.{winding}
use Rattle.plane_base.specs.Regions.{FillRule, OverlayRule, region}
use Rattle.segment_arrangement.specs.EdgeSides.{lower_side, upper_side, is_boundary}
use Rattle.segment_arrangement.specs.SideLaws.{IsArrangement}
use Rattle.segment_arrangement.specs.FanLaws.{whole, starts_at, IsFan}
use Rattle.segment_arrangement.specs.Graphs.{Node, node_at, boundary_links}

abbrev pub ends_at : Point → Entry Count → Bool
ends_at v e = is_eq (point_order e.edge.b v)

-- All edges of the map at v, counterclockwise: those that start there, from straight below to straight above,
-- then those that end there, each to the left of the one before.
pub record IsRing (es : List (Entry Count)) (v : Point) (starts ends : List (Entry Count)) : Type 0 where
  pub starts_in_order : IsFan es v starts
  pub all_ends : IsPermutation (filter (ends_at v) es) ends
  pub ends_in_order : AllPairs (λ e f. pos 0 <ℤ turn v e.edge.a f.edge.a) ends

-- each point has a ring
abbrev pub PointsHaveRings : Type 0
PointsHaveRings =
    (es : List (Entry Count)) (v : Point) → IsArrangement es → (starts : List (Entry Count)) × (ends : List (Entry Count)) × IsRing es v starts ends

-- the windings on the right and on the left hand of who leaves v along the edge
abbrev pub right_side : List (Entry Count) → Point → Entry Count → Count
right_side es v e = cond (starts_at v e) (lower_side es e.edge) (upper_side es e)

abbrev pub left_side : List (Entry Count) → Point → Entry Count → Count
left_side es v e = cond (starts_at v e) (upper_side es e) (lower_side es e.edge)

-- each of the list leads from what the one before it led to
abbrev pub Leads : {A W : Type 0} → (A → W) → (A → W) → W → W → List A → Type 0
Leads right left from to [] = from ≡ to
Leads right left from to (e ∷ rest) = (right e ≡ from) × Leads right left (left e) to rest

-- Round a point the left side of each edge is the right side of the next, from what lies below the point and back to it.
abbrev pub NodeRing : Type 0
NodeRing =
    (es starts ends : List (Entry Count)) (v : Point) → IsArrangement es → IsRing es v starts ends
    → Leads (right_side es v) (left_side es v) (winding es (whole v)) (winding es (whole v)) (starts ++ ends)

-- true and false by turns, from the last to the first too, so the list is of even length
pub record IsAlternating {A : Type 0} (test : A → Bool) (xs : List A) : Type 0 where
  pub next : (i : ℕ) (d : A) → i + 1 < length xs → test (slice_index_or xs (i + 1) d) ≡ not (test (slice_index_or xs i d))
  pub round : (d : A) → 0 < length xs → test (slice_index_or xs 0 d) ≡ not (test (slice_index_or xs (length xs - 1) d))
  pub even : length xs % 2 ≡ 0

-- the edges of the ring that bound the region
abbrev pub boundary_ring : FillRule → OverlayRule → List (Entry Count) → List (Entry Count) → List (Entry Count) → List (Entry Count)
boundary_ring fill rule es starts ends = filter (is_boundary fill rule es) (starts ++ ends)

-- Round a point the region is by turns on the left and on the right hand of who leaves along its boundary.
abbrev pub BoundaryAlternates : Type 0
BoundaryAlternates =
    (fill : FillRule) (rule : OverlayRule) (es starts ends : List (Entry Count)) (v : Point) → IsArrangement es → IsRing es v starts ends
    → IsAlternating (λ e. region fill rule (left_side es v e)) (boundary_ring fill rule es starts ends)

-- So an even number of the boundary's links meet at each point.
abbrev pub BoundaryIsEven : Type 0
BoundaryIsEven =
    (fill : FillRule) (rule : OverlayRule) (es : List (Entry Count)) (v : Point) → IsArrangement es
    → let node : Node = node_at (map (λ l. l.edge) (boundary_links fill rule es)) v in (length node.starts + length node.ends) % 2 ≡ 0

-- Round a point the region goes on from each edge to the next also where only some edges are looked at, if all that bound the region
-- are among them: it lies on the left of one where it lies on the right of the next.
abbrev pub SectorsAreWhole : Type 0
SectorsAreWhole =
    (fill : FillRule) (rule : OverlayRule) (es starts ends : List (Entry Count)) (v : Point) (passes : Entry Count → Bool) → IsArrangement es
    → IsRing es v starts ends → ((e : Entry Count) → Contains es e → is_boundary fill rule es e ≡ true → passes e ≡ true)
    → let round : Bool = region fill rule (winding es (whole v)) in
    Leads (λ e. region fill rule (right_side es v e)) (λ e. region fill rule (left_side es v e)) round round (filter passes (starts ++ ends))
