-- What lemmas of sizing speak of.
use Rattle.std.specs.Prelude.{◌≡◌, ◌≢◌, ◌⊎◌, All, AllPairs, Bool, true, not, cond, ◌&&◌, int_lt, int_le, List, [], ◌∷◌, map, flat_map, ◌*◌, ℤ, pos, ◌+ℤ◌, ◌-ℤ◌, ◌*ℤ◌, ◌≤ℤ◌, ◌<ℤ◌}
use Rattle.std.specs.Ordering.{int_eq}
use Rattle.plane_base.specs.Plane.{Point, Edge, RationalPoint, IsRational, step_winding, is_before}
use Rattle.plane_base.specs.Segments.{parted}
use Rattle.plane_base.specs.Thinning.{IsThinned}
use Rattle.plane_base.specs.Totals.{total}
use Rattle.plane_base.specs.Windings.{contour_winding}
use Rattle.segment_split.specs.LineLaws.{is_rectilinear, AllRectilinear}
use Rattle.contour_walk.specs.WalkLaws.{contour_steps}
use Rattle.polygon_overlay.specs.Tiles.{AreRectilinear}
use Rattle.polygon_overlay.specs.Sizing.{IsSizedAcross, exchanged, moved_across, moved_up, moved}

-- the point at another numerator of its row
abbrev pub at : ℤ → RationalPoint → RationalPoint
at k p = record { x = k; y = p.y; q = p.q }

-- the same point over a greater denominator
abbrev pub over : RationalPoint → RationalPoint → RationalPoint
over m p = record { x = pos m.q *ℤ p.x; y = pos m.q *ℤ p.y; q = m.q * p.q }

-- What winds in the row of p: what began up to a place, less what ended up to there. Each rises, and by 1 at most both together.
pub record HasPlaces (wound moved : RationalPoint → ℤ) (left right : ℤ) (p : RationalPoint) : Type 0 where
  pub begun : ℤ → ℤ
  pub ended : ℤ → ℤ
  pub begun_rises : (k : ℤ) → begun k ≤ℤ begun (k +ℤ pos 1)
  pub ended_rises : (k : ℤ) → ended k ≤ℤ ended (k +ℤ pos 1)
  pub apart : (k : ℤ) → ((begun (k +ℤ pos 1) -ℤ begun k) +ℤ (ended (k +ℤ pos 1) -ℤ ended k)) ≤ℤ pos 1
  pub is : (k : ℤ) → wound (at k p) ≡ begun k -ℤ ended k
  pub after : moved p ≡ begun (p.x +ℤ (pos p.q *ℤ left)) -ℤ ended (p.x -ℤ (pos p.q *ℤ right))

abbrev pub WindowsTell : Type 0
WindowsTell =
    (wound moved : RationalPoint → ℤ) (left right : ℤ) →
    ((p : RationalPoint) → IsRational p → HasPlaces wound moved left right p) →
    ((p : RationalPoint) → IsRational p → (wound p ≡ pos 0) ⊎ (wound p ≡ pos 1)) →
    ((m p : RationalPoint) → IsRational m → wound (over m p) ≡ wound p) →
    ((m p : RationalPoint) → IsRational m → moved (over m p) ≡ moved p) →
    (p : RationalPoint) → IsRational p →
    (IsSizedAcross left right (λ m. wound m ≡ pos 1) p → pos 0 <ℤ moved p) × (pos 0 <ℤ moved p → IsSizedAcross left right (λ m. wound m ≡ pos 1) p)

-- ---- moved contours

-- A step that stays away, horizontal with its own ends, or becomes another between the same heights.
pub data IsMoved (p : RationalPoint) (f height : Point → ℤ) (move : Edge → List Point) (adds : Edge → ℤ) (s : Edge) : Type 0 where
  still : move s ≡ [] → height s.a ≡ height s.b → adds s ≡ pos 0 → IsMoved p f height move adds s
  moves :
      (a b : Point) → move s ≡ a ∷ b ∷ [] → height a ≡ height s.a → height b ≡ height s.b →
      step_winding a b p ≡ (f a -ℤ f b) +ℤ adds s → is_rectilinear (record { a = a; b = b }) ≡ true → IsMoved p f height move adds s

abbrev pub IsFlat : RationalPoint → (Point → ℤ) → (Point → ℤ) → Type 0
IsFlat p f height = (u v : Point) → height u ≡ height v → (step_winding u v p ≡ f u -ℤ f v) × (is_rectilinear (record { a = u; b = v }) ≡ true)

abbrev pub ContoursSum : Type 0
ContoursSum =
    (p : RationalPoint) (f : Point → ℤ) (adds : Edge → ℤ) (cs : List (List Point)) → AreRectilinear cs →
    ((s : Edge) → is_rectilinear s ≡ true → step_winding s.a s.b p ≡ (f s.a -ℤ f s.b) +ℤ adds s)
    → contour_winding cs p ≡ total adds (flat_map contour_steps cs)

abbrev pub MovedContoursSum : Type 0
MovedContoursSum =
    (p : RationalPoint) (f height : Point → ℤ) (move : Edge → List Point) (adds : Edge → ℤ) (cs : List (List Point)) → AreRectilinear cs →
    IsFlat p f height → ((s : Edge) → is_rectilinear s ≡ true → IsMoved p f height move adds s)
    → (contour_winding (map (moved move) cs) p ≡ total adds (flat_map contour_steps cs)) × AreRectilinear (map (moved move) cs)

-- A point's winding doesn't depend on how its fractions are written.
abbrev pub WindsAlikeOver : Type 0
WindsAlikeOver = (m p : RationalPoint) (cs : List (List Point)) → IsRational m → contour_winding cs (over m p) ≡ contour_winding cs p

-- a step that counts, from its place on
abbrev pub up_to : (Edge → ℤ) → (Edge → Bool) → ℤ → Edge → ℤ
up_to place test k s = cond (int_le (place s) k && test s) (pos 1) (pos 0)

-- one that begins or ends something, just at its place
abbrev pub just_at : (Edge → ℤ) → (Edge → Bool) → (Edge → Bool) → ℤ → Edge → ℤ
just_at place forth back k s = cond (int_eq (place s) k) (cond (forth s) (pos 1) (pos 0) +ℤ cond (back s) (pos 1) (pos 0)) (pos 0)

-- ---- rows

-- the point lies below the row of p
abbrev pub is_under : RationalPoint → Point → Bool
is_under p u = int_lt (pos p.q *ℤ u.y) p.y

-- the step runs down past the row of p, or up past it
abbrev pub falls_past : RationalPoint → Edge → Bool
falls_past p s = not (is_under p s.a) && is_under p s.b

abbrev pub climbs_past : RationalPoint → Edge → Bool
climbs_past p s = is_under p s.a && not (is_under p s.b)

abbrev pub column_of : RationalPoint → Edge → ℤ
column_of p s = pos p.q *ℤ s.a.x

-- At each place one step at most passes the row of p.
abbrev pub PassOneByOne : List (List Point) → RationalPoint → Type 0
PassOneByOne cs p = (k : ℤ) → total (just_at (column_of p) (falls_past p) (climbs_past p) k) (flat_map contour_steps cs) ≤ℤ pos 1

abbrev pub AcrossHasPlaces : Type 0
AcrossHasPlaces =
    (cs : List (List Point)) (left right : ℤ) (p : RationalPoint) → AreRectilinear cs → PassOneByOne cs p
    → HasPlaces (contour_winding cs) (contour_winding (map (moved (moved_across left right)) cs)) left right p
    × AreRectilinear (map (moved (moved_across left right)) cs)

-- ---- columns, seen with x and y exchanged

abbrev pub has_begun : RationalPoint → Point → Bool
has_begun v u = int_le (pos v.q *ℤ u.x) v.y

abbrev pub right_past : RationalPoint → Edge → Bool
right_past v s = has_begun v s.a && not (has_begun v s.b)

abbrev pub left_past : RationalPoint → Edge → Bool
left_past v s = not (has_begun v s.a) && has_begun v s.b

abbrev pub row_over : RationalPoint → Edge → ℤ
row_over v s = (pos v.q *ℤ s.a.y) +ℤ pos 1

abbrev pub PassOneByOneUp : List (List Point) → RationalPoint → Type 0
PassOneByOneUp cs v = (k : ℤ) → total (just_at (row_over v) (right_past v) (left_past v) k) (flat_map contour_steps cs) ≤ℤ pos 1

abbrev pub UpHasPlaces : Type 0
UpHasPlaces =
    (cs : List (List Point)) (bottom top : ℤ) (v : RationalPoint) → AreRectilinear cs → PassOneByOneUp cs v
    → HasPlaces (λ r. contour_winding cs (exchanged r)) (λ r. contour_winding (map (moved (moved_up bottom top)) cs) (exchanged r)) bottom top v
    × AreRectilinear (map (moved (moved_up bottom top)) cs)

-- ---- one by one

-- 1 where the step leads at the place k from one side to the other
abbrev pub crossing : (Point → ℤ) → (Point → Bool) → ℤ → Edge → ℤ
crossing place side k s = cond (int_eq (place s.a) k) (cond (side s.a) (cond (side s.b) (pos 0) (pos 1)) (cond (side s.b) (pos 1) (pos 0))) (pos 0)

-- Thinned contours have no more of it.
abbrev pub ThinnedCrossLess : Type 0
ThinnedCrossLess =
    (p : RationalPoint) (k : ℤ) (c d : List Point) → AllRectilinear (contour_steps c) → IsThinned c d
    → (total (crossing (λ u. pos p.q *ℤ u.x) (is_under p) k) (contour_steps d) ≤ℤ total (crossing (λ u. pos p.q *ℤ u.x) (is_under p) k) (contour_steps c))
    × (total (crossing (λ u. (pos p.q *ℤ u.y) +ℤ pos 1) (has_begun p) k) (contour_steps d) ≤ℤ total (crossing (λ u. (pos p.q *ℤ u.y) +ℤ pos 1) (has_begun p) k) (contour_steps c))

-- Steps that run along parted edges, each along one of its own, come one by one.
abbrev pub PartedPassOnce : Type 0
PartedPassOnce =
    (p : RationalPoint) (k : ℤ) (ss : List Edge) → IsRational p → AllRectilinear ss → All (λ s. is_before s.a s.b ≡ true) ss →
    AllPairs (λ s t. s ≢ t) ss → AllPairs (λ s t. parted s t ≡ true) ss
    → (total (crossing (λ u. pos p.q *ℤ u.x) (is_under p) k) ss ≤ℤ pos 1)
    × (total (crossing (λ u. (pos p.q *ℤ u.y) +ℤ pos 1) (has_begun p) k) ss ≤ℤ pos 1)
