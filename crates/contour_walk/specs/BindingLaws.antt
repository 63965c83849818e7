-- What holes and answers keep to.
use Rattle.std.specs.Prelude.{◌⊎◌, ◌↔◌, ◌≡◌, ◌≢◌, ℕ, zero, ◌<◌, ◌≤◌, ◌<ℤ◌, Bool, true, false, cond, not, ◌&&◌}
use Rattle.std.specs.Prelude.{List, map, length, flat_map, All, Contains, IsPermutation, Some, None}
use Rattle.std.specs.declared.cmp.Ordering.{Ordering}
use Rattle.std.specs.declared.cmp.Ordering.TheVariants.{Less}
use Rattle.std.specs.Ordering.{ordering_then}
use Rattle.plane_base.specs.Plane.{Point, Edge, RationalPoint, IsRational, is_before, point_order}
use Rattle.plane_base.specs.Counts.{Count, Entry}
use Rattle.plane_base.specs.Segments.{parted, order_against, angle_order, precedes}
use Rattle.plane_base.specs.ColumnLaws.{IsLive}
use Rattle.plane_base.specs.Regions.{FillRule, OverlayRule, region}
use Rattle.plane_base.specs.Windings.{winding, cycle_winding, IsOff, contour_winding}
use Rattle.plane_base.specs.Thinning.{IsThinned}
use Rattle.plane_base.specs.RegionAnswers.{WindsOnce}
use Rattle.segment_arrangement.specs.SideLaws.{IsArrangement}
use Rattle.contour_walk.specs.Walks.{Border, Contour, contour_edges, walks}
use Rattle.contour_walk.specs.WalkLaws.{borders, contours_of, PassAll, turns_of}
use Rattle.contour_walk.specs.Binding.{Owned, anchor, is_above, owned_from, is_under, way_down, contour_at, hole_owner}
use Rattle.contour_walk.specs.Shapes.{without_straight, finished, shapes_from, answer}

-- ---- points that contours pass straight

-- no point of the contour equals the next one, the first follows the last
abbrev pub NeverStays : List Point → Type 0
NeverStays points = All (λ s. is_before s.a s.b ≡ true) (contour_edges points)

-- Without the points that it passes straight a contour winds as before, round the points on its edges too.
abbrev pub StraightPointsDontWind : Type 0
StraightPointsDontWind = (points : List Point) (p : RationalPoint) → NeverStays points → cycle_winding (without_straight points) p ≡ cycle_winding points p

-- ---- contours of a boundary

-- the contours pass each link once, and none is empty
pub record PassOnce (links : List Border) (cs : List Contour) : Type 0 where
  pub once : IsPermutation (map (λ l. l.edge) links) (flat_map (λ c. contour_edges c.points) cs)
  pub some : All (λ c. 0 < length c.points) cs

-- at its anchor a hole has no region above it, and an outline has
abbrev pub AnchorsTell : List Border → List Contour → Type 0
AnchorsTell links cs = All (λ c. (e : Edge) → anchor c.points ≡ Some e → is_above links e ≡ not c.is_hole) cs

-- What passes each link of the boundary of an arrangement once has three points or more.
abbrev pub ContoursAreLong : Type 0
ContoursAreLong =
    (fill : FillRule) (rule : OverlayRule) (es : List (Entry Count)) (cs : List Contour) → IsArrangement es → PassOnce (borders fill rule es) cs
    → All (λ c. 3 ≤ length c.points) cs

-- Without the points that it passes straight it still has three points or more, and passes none of them straight: it is thinned.
pub record CornersStay : Type 0 where
  pub long :
      (fill : FillRule) (rule : OverlayRule) (es : List (Entry Count)) (cs : List Contour) → IsArrangement es → PassOnce (borders fill rule es) cs
      → All (λ c. 3 ≤ length (without_straight c.points)) cs
  pub once :
      (fill : FillRule) (rule : OverlayRule) (es : List (Entry Count)) (cs : List Contour) → IsArrangement es → PassOnce (borders fill rule es) cs
      → All (λ c. without_straight (without_straight c.points) ≡ without_straight c.points) cs
  pub thinned :
      (fill : FillRule) (rule : OverlayRule) (es : List (Entry Count)) (cs : List Contour) → IsArrangement es → PassOnce (borders fill rule es) cs
      → All (λ c. IsThinned c.points (without_straight c.points)) cs

-- ---- the way down

-- anchors by their points, and at one point the lower first
abbrev pub anchor_order : Edge → Edge → Ordering
anchor_order s t = ordering_then (point_order s.a t.a) (angle_order s t)

-- each contour goes on at each point, and has an anchor, which is not vertical
pub record HaveAnchors (cs : List Contour) : Type 0 where
  pub go_on : All (λ c. NeverStays c.points) cs
  pub anchors : All (λ c. (e : Edge) × (anchor c.points ≡ Some e) × (e.a.x <ℤ e.b.x)) cs

-- So it is with what passes each link of the boundary of an arrangement once.
abbrev pub ContoursHaveAnchors : Type 0
ContoursHaveAnchors =
    (fill : FillRule) (rule : OverlayRule) (es : List (Entry Count)) (cs : List Contour) → IsArrangement es → PassOnce (borders fill rule es) cs
    → HaveAnchors cs

-- The way down from a contour's anchor, if it meets an edge, leads to a contour whose anchor comes before.
abbrev pub WayDownDescends : Type 0
WayDownDescends =
    (links : List Border) (cs : List Contour) (n : ℕ) (c : Contour) (above : Bool) (e : Edge) (o : Owned) → HaveAnchors cs →
    contour_at cs n ≡ Some c → anchor c.points ≡ Some e → way_down (owned_from links zero cs) above e ≡ Some o
    → (d : Contour) × (f : Edge) × (contour_at cs o.contour ≡ Some d) × (anchor d.points ≡ Some f) × (anchor_order f e ≡ Less)

-- What passes under an edge that isn't vertical begins before it, as anchors are ordered, reaches over the column at which it begins,
-- and runs below its first end or from there.
abbrev pub UnderIsEarlier : Type 0
UnderIsEarlier =
    (s e : Edge) → e.a.x <ℤ e.b.x
    → (is_under e s ≡ true) ↔ (IsLive e.a.x s × (anchor_order s e ≡ Less) × ((s.a ≡ e.a) ⊎ (order_against s e.a ≡ Less)))

-- the edge is wanted on the way down from e
abbrev pub is_wanted : Bool → Edge → Owned → Bool
is_wanted above e o = cond above o.above (not o.above) && is_under e o.edge

-- o is wanted, and all others of the list that are pass below it
pub record IsLastWanted (edges : List Owned) (above : Bool) (e : Edge) (o : Owned) : Type 0 where
  pub here : Contains edges o
  pub wanted : is_wanted above e o ≡ true
  pub last : (p : Owned) → Contains edges p → is_wanted above e p ≡ true → p.edge ≢ o.edge → precedes p.edge o.edge ≡ true

-- any two different edges of the list are parted, and an edge stands there at most once with the region above it, and once without
pub record AreApart (edges : List Owned) : Type 0 where
  pub in_ends : (o p : Owned) → Contains edges o → Contains edges p → o.edge ≢ p.edge → parted o.edge p.edge ≡ true
  pub one : (o p : Owned) → Contains edges o → Contains edges p → o.edge ≡ p.edge → o.above ≡ p.above → o ≡ p

-- The way down leads to the last of the edges that are wanted, in whatever order they are given, and to none where none is wanted.
-- So it does along the edges of contours.
pub record WayDownIsLast : Type 0 where
  pub tells : (edges : List Owned) (above : Bool) (e : Edge) (o : Owned) → AreApart edges → (way_down edges above e ≡ Some o) ↔ IsLastWanted edges above e o
  pub none :
      (edges : List Owned) (above : Bool) (e : Edge) →
      (way_down edges above e ≡ None) ↔ ((o : Owned) → Contains edges o → is_wanted above e o ≡ true → ⊥)
  pub of_contours :
      (fill : FillRule) (rule : OverlayRule) (es : List (Entry Count)) (cs : List Contour) → IsArrangement es → PassOnce (borders fill rule es) cs
      → AreApart (owned_from (borders fill rule es) zero cs)

-- The owner of a hole is the outline that the way down meets, or the owner of the hole that it meets: one who knows the owners of all
-- holes with lesser anchors needs one step.
abbrev pub OwnerGoesOn : Type 0
OwnerGoesOn =
    (links : List Border) (cs : List Contour) (n : ℕ) (c d : Contour) (e : Edge) (o : Owned) → HaveAnchors cs →
    contour_at cs n ≡ Some c → anchor c.points ≡ Some e → way_down (owned_from links zero cs) true e ≡ Some o → contour_at cs o.contour ≡ Some d
    → hole_owner links cs (length cs) n ≡ cond d.is_hole (hole_owner links cs (length cs) o.contour) (Some o.contour)

-- From a hole's anchor the way down meets an edge with the region above it.
abbrev pub WayDownExists : Type 0
WayDownExists =
    (fill : FillRule) (rule : OverlayRule) (es : List (Entry Count)) (cs : List Contour) (n : ℕ) (c : Contour) (e : Edge) →
    IsArrangement es → PassOnce (borders fill rule es) cs → AnchorsTell (borders fill rule es) cs →
    contour_at cs n ≡ Some c → c.is_hole ≡ true → anchor c.points ≡ Some e
    → (o : Owned) × (way_down (owned_from (borders fill rule es) zero cs) true e ≡ Some o)

-- each hole lies in the shape of an outline
abbrev pub HolesAreOwned : List Border → List Contour → Type 0
HolesAreOwned links cs =
    (n : ℕ) (c : Contour) → contour_at cs n ≡ Some c → c.is_hole ≡ true
    → (m : ℕ) × (d : Contour) × (hole_owner links cs (length cs) n ≡ Some m) × (contour_at cs m ≡ Some d) × (d.is_hole ≡ false)

-- So each hole lies in the shape of an outline.
abbrev pub HolesHaveOutlines : Type 0
HolesHaveOutlines =
    (fill : FillRule) (rule : OverlayRule) (es : List (Entry Count)) (cs : List Contour) →
    IsArrangement es → PassOnce (borders fill rule es) cs → AnchorsTell (borders fill rule es) cs → HolesAreOwned (borders fill rule es) cs

-- ---- the answer

-- the contours of all shapes, in order
abbrev pub all_contours : List (List (List Point)) → List (List Point)
all_contours shapes = flat_map (λ shape. shape) shapes

-- Each contour stands in one shape, once.
abbrev pub NothingIsLost : Type 0
NothingIsLost =
    (links : List Border) (cs : List Contour) → HolesAreOwned links cs → IsPermutation (map (λ c. c.points) cs) (all_contours (shapes_from links cs zero cs))

-- ---- the answer for walks

-- Walks pass each link of the boundary of an arrangement once.
abbrev pub WalksPassOnce : Type 0
WalksPassOnce =
    (fill : FillRule) (rule : OverlayRule) (es : List (Entry Count)) (output : Bool) → IsArrangement es
    → PassOnce (borders fill rule es) (walks output (borders fill rule es))

-- The anchors of walks tell which of them are holes.
abbrev pub WalkAnchorsTell : Type 0
WalkAnchorsTell =
    (fill : FillRule) (rule : OverlayRule) (es : List (Entry Count)) (output : Bool) → IsArrangement es
    → AnchorsTell (borders fill rule es) (walks output (borders fill rule es))

-- Each hole among the walks lies in the shape of an outline.
abbrev pub WalkHolesAreOwned : Type 0
WalkHolesAreOwned =
    (fill : FillRule) (rule : OverlayRule) (es : List (Entry Count)) (output : Bool) → IsArrangement es
    → HolesAreOwned (borders fill rule es) (walks output (borders fill rule es))

-- The contours of the answer are those of the walks, each in one shape, with or without the points that they pass straight.
abbrev pub AnswerHasAllWalks : Type 0
AnswerHasAllWalks =
    (fill : FillRule) (rule : OverlayRule) (es : List (Entry Count)) (output keep_all : Bool) → IsArrangement es
    → IsPermutation (map (finished keep_all) (contours_of output (borders fill rule es))) (all_contours (answer output keep_all (borders fill rule es)))

-- Off the edges the contours wind once round each point of the region, counterclockwise or as the output is, and round no other.
abbrev pub WindRound : FillRule → OverlayRule → List (Entry Count) → Bool → List (List Point) → Type 0
WindRound fill rule es output contours =
    (p : RationalPoint) → IsRational p → IsOff es p → contour_winding contours p ≡ turns_of output (region fill rule (winding es p))

-- They do so on the edges, too, where a point is taken for one just right of it and below the edges on which it lies.
abbrev pub WindEverywhere : FillRule → OverlayRule → List (Entry Count) → Bool → List (List Point) → Type 0
WindEverywhere fill rule es output contours =
    (p : RationalPoint) → IsRational p → contour_winding contours p ≡ turns_of output (region fill rule (winding es p))

-- Any contours that pass each link of the boundary with the region on the stated hand wind so everywhere, with or without the points
-- that they pass straight.
abbrev pub FinishedPassingWinds : Type 0
FinishedPassingWinds =
    (fill : FillRule) (rule : OverlayRule) (es : List (Entry Count)) (output keep_all : Bool) (contours : List (List Point)) → IsArrangement es
    → PassAll output (borders fill rule es) contours → WindEverywhere fill rule es output (map (finished keep_all) contours)

-- So do the walks.
abbrev pub FinishedWalksWind : Type 0
FinishedWalksWind =
    (fill : FillRule) (rule : OverlayRule) (es : List (Entry Count)) (output keep_all : Bool) → IsArrangement es
    → WindEverywhere fill rule es output (map (finished keep_all) (contours_of output (borders fill rule es)))

-- And so do the shapes of the answer.
abbrev pub ShapesWind : Type 0
ShapesWind =
    (fill : FillRule) (rule : OverlayRule) (es : List (Entry Count)) (output keep_all : Bool) → IsArrangement es
    → WindEverywhere fill rule es output (all_contours (answer output keep_all (borders fill rule es)))

-- Counterclockwise they are an overlay's answer, off the edges.
abbrev pub ShapesAreAnswer : Type 0
ShapesAreAnswer =
    (fill : FillRule) (rule : OverlayRule) (es : List (Entry Count)) (keep_all : Bool) → IsArrangement es
    → WindsOnce fill rule es (all_contours (answer false keep_all (borders fill rule es)))
