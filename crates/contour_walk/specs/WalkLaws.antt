-- What walks keep to: they pass each link of the boundary once, with the region on one hand, and so wind round the region once.
use Rattle.std.specs.Prelude.{◌≡◌, ℕ, ℤ, neg_ℤ, Bool, false, not, cond}
use Rattle.std.specs.Prelude.{List, [], ◌∷◌, ◌++◌, map, flat_map, slice_index_or, Some, AllPairs, Contains, IsPermutation}
use Rattle.plane_base.specs.Plane.{Point, Edge, RationalPoint, IsRational, is_before}
use Rattle.plane_base.specs.Counts.{Count, Entry}
use Rattle.plane_base.specs.Windings.{winding, contour_winding}
use Rattle.plane_base.specs.Regions.{FillRule, OverlayRule, region}
use Rattle.segment_arrangement.specs.EdgeSides.{upper_side, boundary, indicator}
use Rattle.segment_arrangement.specs.SideLaws.{IsArrangement}
use Rattle.contour_walk.specs.Binding.{least_point, anchor, is_above}
use Rattle.contour_walk.specs.Walks.{Border, Contour, is_same, walk_from, contour_edges, left_by, walks}

abbrev pub border_of : FillRule → OverlayRule → List (Entry Count) → Entry Count → Border
border_of fill rule es e = record { edge = e.edge; above = region fill rule (upper_side es e) }

-- the links of the boundary, in order
abbrev pub borders : FillRule → OverlayRule → List (Entry Count) → List Border
borders fill rule es = map (border_of fill rule es) (boundary fill rule es)

-- ---- steps

-- The step along a link, from a to b, with the region on its left; where the output is clockwise, on its right.
abbrev pub step_along : Bool → Border → Edge
step_along output l = cond (is_same l.above output) (record { a = l.edge.b; b = l.edge.a }) l.edge

-- the steps of a path, from each point to the next and from the last to a first one
abbrev pub steps_to : Point → List Point → List Edge
steps_to first [] = []
steps_to first (p ∷ []) = record { a = p; b = first } ∷ []
steps_to first (p ∷ r ∷ rest) = record { a = p; b = r } ∷ steps_to first (r ∷ rest)

-- the steps of a contour, from each point to the next and from the last to the first
abbrev pub contour_steps : List Point → List Edge
contour_steps [] = []
contour_steps (p ∷ rest) = steps_to p (p ∷ rest)

-- ---- laws

abbrev pub contours_of : Bool → List Border → List (List Point)
contours_of output links = map (λ c. c.points) (walks output links)

-- The steps of all contours are those along the links: each link is passed once, with the region on the left, or on the right
-- where the output is clockwise.
abbrev pub PassAll : Bool → List Border → List (List Point) → Type 0
PassAll output links contours = IsPermutation (map (step_along output) links) (flat_map contour_steps contours)

-- Walks pass each link of the boundary so.
abbrev pub AllAreWalked : Type 0
AllAreWalked =
    (fill : FillRule) (rule : OverlayRule) (es : List (Entry Count)) (output : Bool) → IsArrangement es
    → PassAll output (borders fill rule es) (contours_of output (borders fill rule es))

-- the walk that begins along a link, in either rotation
abbrev pub walk_along : Bool → Bool → List Border → Border → List Point
walk_along clockwise output links l = walk_from clockwise links (step_along output l).a (step_along output l).b

-- walks that begin with any links that are left, each in either rotation, until none is left
pub data AnyWalks (output : Bool) : List Border → List (List Point) → Type 0 where
  none : AnyWalks output [] []
  one_more :
      (links : List Border) (l : Border) (clockwise : Bool) (contours : List (List Point)) → Contains links l →
      AnyWalks output (left_by (walk_along clockwise output links l) links) contours → AnyWalks output links (walk_along clockwise output links l ∷ contours)

-- They, too, pass each link of the boundary so, in whatever order they are taken and whichever way they turn.
abbrev pub AnyWalksPass : Type 0
AnyWalksPass =
    (fill : FillRule) (rule : OverlayRule) (es : List (Entry Count)) (output : Bool) (contours : List (List Point)) → IsArrangement es
    → AnyWalks output (borders fill rule es) contours → PassAll output (borders fill rule es) contours

-- Each contour passes some of the links that are left at its beginning, each once, until none is left. Its edges are theirs.
abbrev pub PassInTurn : Bool → List Border → List Contour → Type 0
PassInTurn output links [] = links ≡ []
PassInTurn output links (c ∷ cs) =
    IsPermutation (map (step_along output) links) (contour_steps c.points ++ map (step_along output) (left_by c.points links))
    × IsPermutation (map (λ l. l.edge) links) (contour_edges c.points ++ map (λ l. l.edge) (left_by c.points links))
    × PassInTurn output (left_by c.points links) cs

abbrev pub WalksPassInTurn : Type 0
WalksPassInTurn =
    (fill : FillRule) (rule : OverlayRule) (es : List (Entry Count)) (output : Bool) → IsArrangement es
    → PassInTurn output (borders fill rule es) (walks output (borders fill rule es))

-- the place of a contour's least point: it is second where the contour's first link is passed from its greater end
abbrev pub least_place : Bool → Contour → ℕ
least_place output c = cond (is_same c.is_hole output) 1 0

-- the second contour's least point is not before the first's
abbrev pub ComeInOrder : Contour → Contour → Type 0
ComeInOrder c e = (p r : Point) → least_point c.points ≡ Some p → least_point e.points ≡ Some r → is_before r p ≡ false

-- Each contour has its least point there, and contours come by rising least points.
pub record LeastPointsStand : Type 0 where
  pub place :
      (fill : FillRule) (rule : OverlayRule) (es : List (Entry Count)) (output : Bool) (c : Contour) (d : Point) → IsArrangement es →
      Contains (walks output (borders fill rule es)) c → least_point c.points ≡ Some (slice_index_or c.points (least_place output c) d)
  pub order :
      (fill : FillRule) (rule : OverlayRule) (es : List (Entry Count)) (output : Bool) → IsArrangement es →
      AllPairs ComeInOrder (walks output (borders fill rule es))

-- The lowest edge at the least point of an outline has the region above it, that of a hole below it.
abbrev pub AnchorsAreSided : Type 0
AnchorsAreSided =
    (fill : FillRule) (rule : OverlayRule) (es : List (Entry Count)) (output : Bool) (c : Contour) → IsArrangement es
    → Contains (walks output (borders fill rule es)) c → (e : Edge) × (anchor c.points ≡ Some e) × (is_above (borders fill rule es) e ≡ not c.is_hole)

-- how often contours of the output direction wind where the region is, or is not
abbrev pub turns_of : Bool → Bool → ℤ
turns_of output inside = cond output (neg_ℤ (indicator inside)) (indicator inside)

-- Any contours that pass each link of the boundary so wind once round each point of the region, counterclockwise, or clockwise where
-- the output is, and round no other point. A point on edges is taken for one just right of it and below them.
abbrev pub PassingWinds : Type 0
PassingWinds =
    (fill : FillRule) (rule : OverlayRule) (es : List (Entry Count)) (output : Bool) (contours : List (List Point)) (p : RationalPoint) → IsArrangement es
    → PassAll output (borders fill rule es) contours → IsRational p
    → contour_winding contours p ≡ turns_of output (region fill rule (winding es p))

-- So do the contours of walks.
abbrev pub AnswerWinds : Type 0
AnswerWinds =
    (fill : FillRule) (rule : OverlayRule) (es : List (Entry Count)) (output : Bool) (p : RationalPoint) → IsArrangement es → IsRational p
    → contour_winding (contours_of output (borders fill rule es)) p ≡ turns_of output (region fill rule (winding es p))
