-- What a sweep finds at a point at which edges start: what lies below the point, and then the sides of those edges, one by one.
use Rattle.std.specs.Prelude.{◌⊎◌, ◌↔◌, ◌≡◌, ◌≢◌, ℕ, ◌+◌, ◌<◌, ℤ, Bool, true}
use Rattle.std.specs.Prelude.{List, [], take, length, slice_index_or, filter, All, AllPairs, Contains, IsPermutation}
use Rattle.std.specs.declared.cmp.Ordering.TheVariants.{Less, Equal}
use Rattle.std.specs.Ordering.{is_eq, ordering_reverse}
use Rattle.plane_base.specs.Plane.{Point, Edge, RationalPoint, point_order, is_before}
use Rattle.plane_base.specs.Counts.{Count, Entry, boolean}
use Rattle.plane_base.specs.Segments.{parted, order_against, angle_order, column_order, precedes}
use Rattle.plane_base.specs.ColumnLaws.{IsLive}
use Rattle.plane_base.specs.Windings.{winding}
use Rattle.plane_base.specs.Totals.{total}
use Rattle.segment_arrangement.specs.Columns.{no_count}
use Rattle.segment_arrangement.specs.EdgeSides.{lower_side, upper_side}
use Rattle.segment_arrangement.specs.SideLaws.{IsArrangement}

-- a point of the grid
abbrev pub whole : Point → RationalPoint
whole v = record { x = v.x; y = v.y; q = 1 }

-- the sum of all counts
abbrev pub sum_of_counts : List (Entry Count) → Count
sum_of_counts es = record { subject = total (λ e. e.count.subject) es; clip = total (λ e. e.count.clip) es }

abbrev pub starts_at : Point → Entry Count → Bool
starts_at v e = is_eq (point_order e.edge.a v)

-- the edges of the map that start at v, by rising angle, so the vertical one last
pub record IsFan (es : List (Entry Count)) (v : Point) (fan : List (Entry Count)) : Type 0 where
  pub all : IsPermutation (filter (starts_at v) es) fan
  pub rising : AllPairs (λ e f. angle_order e.edge f.edge ≡ Less) fan

-- The first of a fan has below it what lies below the point, and each next one what the one before it has above it:
-- in sum what lies below the point, and the counts of those before it.
pub record FanSides : Type 0 where
  pub first :
      (es fan : List (Entry Count)) (v : Point) (d : Entry Count) → IsArrangement es → IsFan es v fan → 0 < length fan →
      lower_side es (slice_index_or fan 0 d).edge ≡ winding es (whole v)
  pub next :
      (es fan : List (Entry Count)) (v : Point) (i : ℕ) (d : Entry Count) → IsArrangement es → IsFan es v fan → i + 1 < length fan →
      lower_side es (slice_index_or fan (i + 1) d).edge ≡ upper_side es (slice_index_or fan i d)
  pub each :
      (es fan : List (Entry Count)) (v : Point) (i : ℕ) (d : Entry Count) → IsArrangement es → IsFan es v fan → i < length fan →
      lower_side es (slice_index_or fan i d).edge ≡ boolean.join (winding es (whole v)) (sum_of_counts (take i fan))

-- Among edges that start at one point, any two different ones of them parted, the order by angle is a strict total one.
pub record AngleIsLawful : Type 0 where
  pub reversed : (s t : Edge) → s.a ≡ t.a → angle_order t s ≡ ordering_reverse (angle_order s t)
  pub decided : (s t : Edge) → s.a ≡ t.a → is_before s.a s.b ≡ true → is_before t.a t.b ≡ true → parted s t ≡ true → s ≢ t → angle_order s t ≢ Equal
  pub through :
      (s t u : Edge) → s.a ≡ t.a → t.a ≡ u.a → is_before s.a s.b ≡ true → is_before t.a t.b ≡ true → is_before u.a u.b ≡ true →
      angle_order s t ≡ Less → angle_order t u ≡ Less → angle_order s u ≡ Less

-- ---- what a query for the point answers

-- the edges of the map that start before v and reach over its column, in whatever order
pub record IsLiveList (es : List (Entry Count)) (v : Point) (list : List (Entry Count)) : Type 0 where
  pub sound : All (λ e. Contains es e × IsLive v.x e.edge × (point_order e.edge.a v ≡ Less)) list
  pub complete : (e : Entry Count) → Contains es e → IsLive v.x e.edge → point_order e.edge.a v ≡ Less → Contains list e

-- e lies below v, and all others of the list that do pass below e
pub record IsLastListed (list : List (Entry Count)) (v : Point) (e : Entry Count) : Type 0 where
  pub here : Contains list e
  pub below : order_against e.edge v ≡ Less
  pub last : (f : Entry Count) → Contains list f → order_against f.edge v ≡ Less → e.edge ≢ f.edge → precedes f.edge e.edge ≡ true

-- The live ones of the edges that start before a point hold all that lie below it. So the upper side of the last one of them
-- below it is the winding there. Where an edge starts at the point, none of them passes through it.
pub record LiveListTells : Type 0 where
  pub of_last :
      (es list : List (Entry Count)) (v : Point) (e : Entry Count) → IsArrangement es → IsLiveList es v list → IsLastListed list v e →
      winding es (whole v) ≡ upper_side es e
  pub of_none :
      (es list : List (Entry Count)) (v : Point) → IsLiveList es v list → ((f : Entry Count) → Contains list f → order_against f.edge v ≢ Less) →
      winding es (whole v) ≡ no_count
  pub never_on :
      (es : List (Entry Count)) (e f : Entry Count) → IsArrangement es → Contains es e → Contains es f → IsLive e.edge.a.x f.edge →
      point_order f.edge.a e.edge.a ≡ Less → order_against f.edge e.edge.a ≢ Equal

-- The edges of an arrangement that reach over one column are in a strict total order there, and along it the answers to a query
-- for a point of the column are first `Less`, then `Greater` or `Equal`.
pub record LiveEdgesAreOrdered : Type 0 where
  pub decided :
      (es : List (Entry Count)) (e f : Entry Count) (x : ℤ) → IsArrangement es → Contains es e → Contains es f → IsLive x e.edge → IsLive x f.edge →
      e.edge ≢ f.edge → column_order e.edge f.edge ≢ Equal
  pub through :
      (es : List (Entry Count)) (e f g : Entry Count) (x : ℤ) → IsArrangement es → Contains es e → Contains es f → Contains es g →
      IsLive x e.edge → IsLive x f.edge → IsLive x g.edge →
      column_order e.edge f.edge ≡ Less → column_order f.edge g.edge ≡ Less → column_order e.edge g.edge ≡ Less
  pub answers :
      (es : List (Entry Count)) (e f : Entry Count) (v : Point) → IsArrangement es → Contains es e → Contains es f → IsLive v.x e.edge → IsLive v.x f.edge →
      column_order e.edge f.edge ≡ Less → order_against f.edge v ≡ Less → order_against e.edge v ≡ Less

-- The list is kept from one point at which edges start to the next: the edges that start at the first join it, and those that
-- don't reach over the column of the second leave it. Before the first point of all it is empty.
pub record LiveListIsKept : Type 0 where
  pub starts : (es : List (Entry Count)) (v : Point) → ((e : Entry Count) → Contains es e → point_order e.edge.a v ≢ Less) → IsLiveList es v []
  pub goes_on :
      (es list fan next : List (Entry Count)) (v w : Point) → IsLiveList es v list → IsFan es v fan → point_order v w ≡ Less →
      ((e : Entry Count) → Contains es e → point_order e.edge.a w ≡ Less → (point_order e.edge.a v ≡ Less) ⊎ (e.edge.a ≡ v)) →
      ((e : Entry Count) → Contains next e ↔ ((Contains list e ⊎ Contains fan e) × IsLive w.x e.edge)) → IsLiveList es w next
