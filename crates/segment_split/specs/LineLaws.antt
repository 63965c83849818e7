-- Redrawing by lines: what becomes of a map whose edges cross at whole points alone, horizontal and vertical ones among them.
use Rattle.std.specs.Prelude.{◌≡◌, ◌≢◌, ◌↔◌, ◌⊎◌, ℕ, pos, ◌+ℤ◌, ◌<ℤ◌, ◌≤ℤ◌, Bool, true, false, cond, ◌&&◌, ◌||◌}
use Rattle.std.specs.Prelude.{Option, Some, None, List, [], ◌∷◌, ◌++◌, map, filter, All, AllPairs, Contains}
use Rattle.std.specs.declared.cmp.Ordering.TheVariants.{Less}
use Rattle.std.specs.List.{list_any}
use Rattle.std.specs.Ordering.{int_eq, is_le}
use Rattle.plane_base.specs.Plane.{Point, Edge, turn, is_before, point_order}
use Rattle.plane_base.specs.Segments.{strictly_inside, on_one_line}
use Rattle.plane_base.specs.Counts.{Count, Counting, Entry, boolean, normal, count_at, IsNormal}
use Rattle.plane_base.specs.Totals.{total}
use Rattle.segment_split.specs.Passes.{edges_of, marks_in, marks_on}
use Rattle.segment_split.specs.Redrawing.{redrawn, MarksInPass}
use Rattle.segment_split.specs.WholeLaws.{AllMeetWhole}
use Rattle.segment_split.specs.declared.solver.Precision.{Precision}

-- The edge runs along x alone, or along y alone.
abbrev pub is_rectilinear : Edge → Bool
is_rectilinear s = int_eq s.a.y s.b.y || int_eq s.a.x s.b.x

abbrev pub AllRectilinear : List Edge → Type 0
AllRectilinear es = All (λ s. is_rectilinear s ≡ true) es

-- ---- the points of a line at which its edges are cut

-- s ends in p, or passes through it and runs on another line than u.
abbrev pub EndsOrPasses : Edge → Edge → Point → Type 0
EndsOrPasses u s p = ((p ≡ s.a) ⊎ (p ≡ s.b)) ⊎ ((strictly_inside p s ≡ true) × (on_one_line u s ≡ false))

-- A point of the line of u in which an edge of the list ends, or which one of another line passes through.
pub record IsCutPoint (es : List Edge) (u : Edge) (p : Point) : Type 0 where
  pub flat : turn u.a u.b p ≡ pos 0
  pub of : Edge
  pub listed : Contains es of
  pub meets : EndsOrPasses u of p

-- u is a part of s, or all of it
abbrev pub is_part : Edge → Edge → Bool
is_part u s =
    (int_eq (turn s.a s.b u.a) (pos 0) && int_eq (turn s.a s.b u.b) (pos 0))
    && (is_le (point_order s.a u.a) && is_le (point_order u.b s.b))

-- An edge of the list runs from one cut point to the next.
pub record JoinsNeighbours (es : List Edge) (u : Edge) : Type 0 where
  pub forward : is_before u.a u.b ≡ true
  pub along : (s : Edge) × Contains es s × (is_part u s ≡ true)
  pub first : IsCutPoint es u u.a
  pub second : IsCutPoint es u u.b
  pub free : (p : Point) → IsCutPoint es u p → strictly_inside p u ≡ false

-- ---- the map of the neighbours on all lines

-- the entries of whose edges u is a part
abbrev pub entries_along : {C : Type 0} → List (Entry C) → Edge → List (Entry C)
entries_along es u = filter (λ e. is_part u e.edge) es

-- what they count for together, if for anything
abbrev pub count_along : {C : Type 0} → Counting C → List (Entry C) → Edge → Option C
count_along kind es u = count_at (normal kind (map (λ e. record { edge = u; count = e.count }) (entries_along es u))) u

abbrev pub sum_along : List (Entry Count) → Edge → Count
sum_along es u = record {
  subject = total (λ e. e.count.subject) (entries_along es u);
  clip = total (λ e. e.count.clip) (entries_along es u);
}

-- The edges of fs join neighbours, and each such pair has the count of all that runs along it: none where that is empty.
pub record IsMapOfNeighbours {C : Type 0} (kind : Counting C) (es fs : List (Entry C)) : Type 0 where
  pub is_normal : IsNormal kind fs
  pub joins : (u : Edge) → Contains (edges_of fs) u → JoinsNeighbours (edges_of es) u
  pub counts : (u : Edge) → JoinsNeighbours (edges_of es) u → count_at fs u ≡ count_along kind es u

-- ---- the laws

-- Horizontal and vertical edges cross at whole points alone.
abbrev pub HorizontalAndVerticalMeetWhole : {C : Type 0} → Counting C → Type 0
HorizontalAndVerticalMeetWhole {C} kind = (es : List (Entry C)) → IsNormal kind es → AllRectilinear (edges_of es) → AllMeetWhole (edges_of es)

-- Where all edges do, a pass marks each at the cut points strictly inside it, and the redrawn map is that of the neighbours on all
-- lines, at each precision. There is no other such map.
pub record RedrawsByLines {C : Type 0} (kind : Counting C) (precision : Precision) : Type 0 where
  pub marks :
      (es : List (Entry C)) (k : ℕ) (s : Edge) (p : Point) → IsNormal kind es → AllMeetWhole (edges_of es) → Contains (edges_of es) s
      → Contains (marks_on (marks_in precision k) (edges_of es) s) p ↔ (IsCutPoint (edges_of es) s p × (strictly_inside p s ≡ true))
  pub is_map : (es : List (Entry C)) → IsNormal kind es → AllMeetWhole (edges_of es) → IsMapOfNeighbours kind es (redrawn kind precision es)
  pub only :
      (es fs : List (Entry C)) → IsNormal kind es → AllMeetWhole (edges_of es) → IsMapOfNeighbours kind es fs → fs ≡ redrawn kind precision es

-- An overlay's counts are added, and count for nothing where both sums are 0.
abbrev pub AddsAlong : Type 0
AddsAlong =
    (es : List (Entry Count)) (u : Edge)
    → count_along boolean es u ≡ cond (boolean.is_empty (sum_along es u)) None (Some (sum_along es u))

-- ---- horizontal and vertical edges by their coordinates

pub record PassesUpThrough (s : Edge) (p : Point) : Type 0 where
  pub first : s.a.x ≡ p.x
  pub second : s.b.x ≡ p.x
  pub below : s.a.y <ℤ p.y
  pub above : p.y <ℤ s.b.y

pub record PassesHorizontalThrough (s : Edge) (p : Point) : Type 0 where
  pub first : s.a.y ≡ p.y
  pub second : s.b.y ≡ p.y
  pub left : s.a.x <ℤ p.x
  pub right : p.x <ℤ s.b.x

-- An edge of the list ends in p, or passes through it so.
abbrev pub IsMetAt : (Edge → Point → Type 0) → List Edge → Point → Type 0
IsMetAt passes es p = (s : Edge) × Contains es s × (((p ≡ s.a) ⊎ (p ≡ s.b)) ⊎ passes s p)

-- s runs at the height of u, and not less far than u.
pub record SpansHorizontal (s u : Edge) : Type 0 where
  pub first : s.a.y ≡ u.a.y
  pub second : s.b.y ≡ u.a.y
  pub from : s.a.x ≤ℤ u.a.x
  pub to : u.b.x ≤ℤ s.b.x

-- s runs at the x of u, and not less far than u.
pub record SpansUp (s u : Edge) : Type 0 where
  pub first : s.a.x ≡ u.a.x
  pub second : s.b.x ≡ u.a.x
  pub from : s.a.y ≤ℤ u.a.y
  pub to : u.b.y ≤ℤ s.b.y

-- A horizontal line is cut where an edge ends on it, or a vertical one passes through; a vertical line where an edge ends on it, or
-- a horizontal one passes through. What runs along a horizontal or a vertical edge spans it.
pub record CutByCoordinates {C : Type 0} (kind : Counting C) : Type 0 where
  pub horizontal_line :
      (es : List (Entry C)) (u : Edge) (p : Point) → IsNormal kind es → AllRectilinear (edges_of es) → is_before u.a u.b ≡ true → u.a.y ≡ u.b.y
      → IsCutPoint (edges_of es) u p ↔ ((p.y ≡ u.a.y) × IsMetAt PassesUpThrough (edges_of es) p)
  pub vertical_line :
      (es : List (Entry C)) (u : Edge) (p : Point) → IsNormal kind es → AllRectilinear (edges_of es) → is_before u.a u.b ≡ true → u.a.x ≡ u.b.x
      → IsCutPoint (edges_of es) u p ↔ ((p.x ≡ u.a.x) × IsMetAt PassesHorizontalThrough (edges_of es) p)
  pub horizontal_part :
      (u s : Edge) → is_before u.a u.b ≡ true → is_before s.a s.b ≡ true → u.a.y ≡ u.b.y → (is_part u s ≡ true) ↔ SpansHorizontal s u
  pub vertical_part :
      (u s : Edge) → is_before u.a u.b ≡ true → is_before s.a s.b ≡ true → u.a.x ≡ u.b.x → (is_part u s ≡ true) ↔ SpansUp s u

-- ---- the neighbours as a list

abbrev pub IsEndOfSome : List Edge → Point → Type 0
IsEndOfSome es p = (s : Edge) × Contains es s × ((p ≡ s.a) ⊎ (p ≡ s.b))

-- A vertical edge of the list and a horizontal one pass through p.
abbrev pub IsCrossing : List Edge → Point → Type 0
IsCrossing es p = ((s : Edge) × Contains es s × PassesUpThrough s p) × ((s : Edge) × Contains es s × PassesHorizontalThrough s p)

abbrev pub right_of : Point → Point
right_of p = record { x = p.x +ℤ pos 1; y = p.y }

abbrev pub above : Point → Point
above p = record { x = p.x; y = p.y +ℤ pos 1 }

-- What runs along from p, to the right or upward, counts for something.
abbrev pub CountsFrom : {C : Type 0} → Counting C → List (Entry C) → Point → Type 0
CountsFrom kind es p =
    (count_along kind es (record { a = p; b = right_of p }) ≢ None) ⊎ (count_along kind es (record { a = p; b = above p }) ≢ None)

-- The points at which edges end or cross, by rising place. Crossings of two lines that count for nothing there may be left out.
pub record ArePoints {C : Type 0} (kind : Counting C) (es : List (Entry C)) (ps : List Point) : Type 0 where
  pub rising : AllPairs (λ p q. point_order p q ≡ Less) ps
  pub only : (p : Point) → Contains ps p → IsEndOfSome (edges_of es) p ⊎ IsCrossing (edges_of es) p
  pub ends : (p : Point) → IsEndOfSome (edges_of es) p → Contains ps p
  pub crossings : (p : Point) → IsCrossing (edges_of es) p → CountsFrom kind es p → Contains ps p

abbrev pub first_by : (Point → Bool) → List Point → Option Point
first_by test [] = None
first_by test (q ∷ qs) = cond (test q) (Some q) (first_by test qs)

-- the step from a point to the next, unless it counts for nothing
abbrev pub counted_step : {C : Type 0} → Edge → Option C → List (Entry C)
counted_step u None = []
counted_step u (Some c) = record { edge = u; count = c } ∷ []

abbrev pub step_to : {C : Type 0} → Counting C → List (Entry C) → Point → Option Point → List (Entry C)
step_to kind es p None = []
step_to kind es p (Some q) = counted_step (record { a = p; b = q }) (count_along kind es (record { a = p; b = q }))

-- From each point the step up, to the next at its x, and the step along, to the next at its y.
abbrev pub steps_between : {C : Type 0} → Counting C → List (Entry C) → List Point → List (Entry C)
steps_between kind es [] = []
steps_between kind es (p ∷ ps) =
    step_to kind es p (first_by (λ q. int_eq q.x p.x) ps)
    ++ (step_to kind es p (first_by (λ q. int_eq q.y p.y) ps) ++ steps_between kind es ps)

-- One of the points lies strictly inside an edge.
abbrev pub has_inside : List Edge → List Point → Bool
has_inside es ps = list_any (λ s. list_any (λ p. strictly_inside p s) ps) es

-- The redrawn map of horizontal and vertical edges is, from each point at which they end or cross, the steps to the next ones above and
-- to the right, in this order. Passes mark where one of the points lies strictly inside an edge, and nowhere else.
pub record RedrawsAsSteps {C : Type 0} (kind : Counting C) (precision : Precision) : Type 0 where
  pub list :
      (es : List (Entry C)) (ps : List Point) → IsNormal kind es → AllRectilinear (edges_of es) → ArePoints kind es ps
      → redrawn kind precision es ≡ steps_between kind es ps
  pub marked :
      (es : List (Entry C)) (ps : List Point) → IsNormal kind es → AllRectilinear (edges_of es) → ArePoints kind es ps
      → (has_inside (edges_of es) ps ≡ true) ↔ ((k : ℕ) × MarksInPass kind precision es k)
