-- Walks over a graph, whose states tell which links are left.
use Rattle.std.specs.Prelude.{◌≡◌, ℕ, zero, suc, ◌+◌, pos, int_lt, Bool, true, false, cond, not, ◌&&◌}
use Rattle.std.specs.Prelude.{List, [], ◌∷◌, ◌++◌, filter, length, slice_index_or, Option, Some, None}
use Rattle.plane_base.specs.Plane.{Point, Edge, turn}
use Rattle.segment_arrangement.specs.declared.graph.VisitState.{VisitState}
use Rattle.segment_arrangement.specs.declared.graph.VisitState.TheVariants.{Unvisited, Skipped, HoleVisited, HullVisited}
use Rattle.contour_walk.specs.Walks.{Border, Contour, same_point, same_edge, between, without, next_point, walked, walk_from, is_same, top_link, left_by}
use Rattle.contour_walk.specs.Nearest.{Numbered}
use Rattle.contour_walk.specs.declared.walk.course.Course.{Course}

abbrev pub is_left : VisitState → Bool
is_left Unvisited = true
is_left Skipped = false
is_left HoleVisited = false
is_left HullVisited = false

-- the links that are left, by the states that stand beside them
abbrev pub left_of : List Border → List VisitState → List Border
left_of [] states = []
left_of (l ∷ ls) [] = []
left_of (l ∷ ls) (s ∷ rest) = cond (is_left s) (l ∷ left_of ls rest) (left_of ls rest)

-- what was passed stays passed
abbrev pub StayPassed : List VisitState → List VisitState → Type 0
StayPassed old new = (i : ℕ) → is_left (slice_index_or old i Skipped) ≡ false → is_left (slice_index_or new i Skipped) ≡ false

-- of these places those whose links are left
abbrev pub left_places : List VisitState → List ℕ → List ℕ
left_places states places = filter (λ i. is_left (slice_index_or states i Skipped)) places

-- ---- links at a point, by the numbers of their places

-- the end by which a link is met, and the other
abbrev pub near_end : Bool → Edge → Point
near_end starts s = cond starts s.a s.b

abbrev pub other_end : Bool → Edge → Point
other_end starts s = cond starts s.b s.a

-- the far end of a link, where it is left and starts at v, or ends there
abbrev pub spoke_of : ℕ → Bool → Point → Edge → VisitState → List Numbered
spoke_of n starts v s state = cond (is_left state && same_point (near_end starts s) v) (record { point = other_end starts s; id = n } ∷ []) []

-- the far ends of those that are left and start at v, or end there
abbrev pub spokes_from : ℕ → Bool → Point → List Edge → List VisitState → List Numbered
spokes_from n starts v [] states = []
spokes_from n starts v (s ∷ rest) [] = []
spokes_from n starts v (s ∷ rest) (state ∷ states) = spoke_of n starts v s state ++ spokes_from (n + 1) starts v rest states

-- of all that are left at v: those that end there, then those that start there
abbrev pub spokes : Point → List Edge → List VisitState → List Numbered
spokes v edges states = spokes_from 0 false v edges states ++ spokes_from 0 true v edges states

-- the far end of the link at a place
abbrev pub spoke_at : Bool → Point → List Edge → List VisitState → ℕ → List Numbered
spoke_at starts v edges states i = spoke_of i starts v (slice_index_or edges i (record { a = v; b = v })) (slice_index_or states i Skipped)

-- ---- the topmost

-- of two far ends of links from v that to the left of the other
abbrev pub upper_of : Point → Numbered → Option Numbered → Numbered
upper_of v n None = n
upper_of v n (Some m) = cond (int_lt (pos 0) (turn v n.point m.point)) m n

abbrev pub top_of : Point → List Numbered → Option Numbered
top_of v [] = None
top_of v (n ∷ ns) = Some (upper_of v n (top_of v ns))

-- ---- what a walk leaves

-- the links that are left when a walk ends that goes on from v
abbrev pub left_after : Bool → Edge → ℕ → List Border → Point → Point → List Border
left_after clockwise last zero links v from = links
left_after clockwise last (suc n) links v from =
    elim (next_point clockwise links v from) [
      | None ↦ links
      | Some w ↦ cond (same_edge (between v w) last) (without (between v w) links) (left_after clockwise last n (without (between v w) links) w v)
    ]

-- The points of a walk that begins with a link from one of its ends to the other, in so many steps at most, and the links that it
-- leaves.
abbrev pub walk_within : ℕ → Bool → List Border → Point → Point → List Point
walk_within n clockwise links first second =
    elim (next_point (not clockwise) (without (between first second) links) first second) [
      | None ↦ first ∷ second ∷ []
      | Some end ↦ first ∷ walked clockwise (between end first) n (without (between first second) links) second first
    ]

abbrev pub left_within : ℕ → Bool → List Border → Point → Point → List Border
left_within n clockwise links first second =
    elim (next_point (not clockwise) (without (between first second) links) first second) [
      | None ↦ without (between first second) links
      | Some end ↦ left_after clockwise (between end first) n (without (between first second) links) second first
    ]

-- ---- walks of a course

-- the contour that begins with a link
abbrev pub contour_by : Course → List Border → Border → Contour
contour_by course links l = record {
  points = cond (is_same l.above course.output) (walk_from course.back links l.edge.b l.edge.a) (walk_from course.forth links l.edge.a l.edge.b);
  is_hole = l.above;
}

abbrev pub walks_by_within : ℕ → Course → List Border → List Contour
walks_by_within zero course links = []
walks_by_within (suc n) course [] = []
walks_by_within (suc n) course (l ∷ ls) =
    elim (top_link l.edge.a (l ∷ ls)) [
      | None ↦ []
      | Some top ↦ let c = contour_by course (l ∷ ls) top in c ∷ walks_by_within n course (left_by c.points (l ∷ ls))
    ]

abbrev pub walks_by : Course → List Border → List Contour
walks_by course links = walks_by_within (length links) course links

-- The contour that begins with a link, in so many steps at most, and the links that it leaves.
abbrev pub contour_within : ℕ → Course → List Border → Border → Contour
contour_within n course links l = record {
  points = cond (is_same l.above course.output) (walk_within n course.back links l.edge.b l.edge.a) (walk_within n course.forth links l.edge.a l.edge.b);
  is_hole = l.above;
}

abbrev pub left_by_within : ℕ → Course → List Border → Border → List Border
left_by_within n course links l =
    cond (is_same l.above course.output) (left_within n course.back links l.edge.b l.edge.a) (left_within n course.forth links l.edge.a l.edge.b)
