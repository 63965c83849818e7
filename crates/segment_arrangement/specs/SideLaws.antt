-- What the sides of the edges of an arrangement keep to.
use Rattle.std.specs.Prelude.{◌⊎◌, ◌↔◌, ◌≡◌, ◌≢◌, ℤ, pos, true, false, cond, List, map, All, AllPairs, Contains}
use Rattle.std.specs.declared.cmp.Ordering.TheVariants.{Less}
use Rattle.plane_base.specs.Plane.{Edge, RationalPoint, IsRational, scaled, numerators, is_before, edge_order, is_below, lies_on}
use Rattle.plane_base.specs.Counts.{Count, Entry}
use Rattle.plane_base.specs.Balance.{IsBalancedMap}
use Rattle.plane_base.specs.Segments.{parted, precedes, MeetsInEnds}
use Rattle.plane_base.specs.ColumnLaws.{IsLive}
use Rattle.plane_base.specs.Windings.{winding}
use Rattle.plane_base.specs.Regions.{FillRule, OverlayRule, region}
use Rattle.plane_base.specs.Totals.{total}
use Rattle.segment_arrangement.specs.Columns.{no_count, below}
use Rattle.segment_arrangement.specs.EdgeSides.{lower_side, upper_side, is_boundary, sign, indicator}

-- edges in order, meeting in ends alone, balanced at each point: what splitting leaves
pub record IsArrangement (es : List (Entry Count)) : Type 0 where
  pub directed : All (λ e. is_before e.edge.a e.edge.b ≡ true) es
  pub rising : AllPairs (λ e f. edge_order e.edge f.edge ≡ Less) es
  pub in_ends : MeetsInEnds (map (λ e. e.edge) es)
  pub balanced : IsBalancedMap es

-- the point lies on the edge, and is none of its ends
pub record IsInner (s : Edge) (p : RationalPoint) : Type 0 where
  pub rational : IsRational p
  pub on : lies_on s p ≡ true
  pub not_first : numerators p ≢ scaled p.q s.a
  pub not_second : numerators p ≢ scaled p.q s.b

-- s is parted from every other edge of the map
abbrev pub IsPartedFrom : Edge → List (Entry Count) → Type 0
IsPartedFrom s es = All (λ e. s ≢ e.edge → parted s e.edge ≡ true) es

-- What passes below a segment is the same at each of its columns, where it is parted from all edges of a balanced map.
-- The segment need not be one of them.
abbrev pub BelowIsConstant : Type 0
BelowIsConstant =
    (es : List (Entry Count)) (s : Edge) (x y : ℤ) → All (λ e. is_before e.edge.a e.edge.b ≡ true) es → IsBalancedMap es → IsPartedFrom s es
    → IsLive x s → IsLive y s → below es s x ≡ below es s y

-- The same seen by points: at an inner point of such a segment the winding is what passes below the segment at any of its columns;
-- so it is the same at all inner points, of a vertical segment too.
pub record WindingAlongSegment : Type 0 where
  pub is_below :
      (es : List (Entry Count)) (s : Edge) (p : RationalPoint) (x : ℤ) → All (λ e. is_before e.edge.a e.edge.b ≡ true) es → IsBalancedMap es →
      IsPartedFrom s es → IsInner s p → IsLive x s → winding es p ≡ below es s x
  pub constant :
      (es : List (Entry Count)) (s : Edge) (p r : RationalPoint) → All (λ e. is_before e.edge.a e.edge.b ≡ true) es → IsBalancedMap es →
      IsPartedFrom s es → is_before s.a s.b ≡ true → IsInner s p → IsInner s r → winding es p ≡ winding es r

-- The winding is the same at every inner point of an edge, so the edge has two sides.
abbrev pub SidesAreConstant : Type 0
SidesAreConstant =
    (es : List (Entry Count)) (e : Entry Count) (p : RationalPoint) → IsArrangement es → Contains es e → IsInner e.edge p
    → winding es p ≡ lower_side es e.edge

-- e lies below the point, and all others that do pass below e
pub record IsLastBelow (es : List (Entry Count)) (p : RationalPoint) (e : Entry Count) : Type 0 where
  pub here : Contains es e
  pub below : is_below e.edge.a e.edge.b p ≡ true
  pub last : (f : Entry Count) → Contains es f → is_below f.edge.a f.edge.b p ≡ true → e.edge ≢ f.edge → precedes f.edge e.edge ≡ true

-- The winding at a point is the upper side of the last of the edges below it, and nothing where none is below it.
-- Where some are, there is a last one.
pub record WindingIsLastUpper : Type 0 where
  pub found :
      (es : List (Entry Count)) (p : RationalPoint) → IsArrangement es → IsRational p →
      All (λ e. is_below e.edge.a e.edge.b p ≡ false) es ⊎ ((e : Entry Count) × IsLastBelow es p e)
  pub of_last :
      (es : List (Entry Count)) (e : Entry Count) (p : RationalPoint) → IsArrangement es → IsRational p → IsLastBelow es p e →
      winding es p ≡ upper_side es e
  pub of_none : (es : List (Entry Count)) (p : RationalPoint) → All (λ e. is_below e.edge.a e.edge.b p ≡ false) es → winding es p ≡ no_count

-- The signs of the edges that pass below a point sum to 1 where the region is, and to 0 elsewhere.
abbrev pub SignsSumToRegion : Type 0
SignsSumToRegion =
    (fill : FillRule) (rule : OverlayRule) (es : List (Entry Count)) (p : RationalPoint) → IsArrangement es → IsRational p
    → total (λ e. cond (is_below e.edge.a e.edge.b p) (sign fill rule es e) (pos 0)) es ≡ indicator (region fill rule (winding es p))

-- ---- where a region is, and what bounds it

-- the region is on a side of some edge
abbrev pub HasFilledSide : FillRule → OverlayRule → List (Entry Count) → Type 0
HasFilledSide fill rule es =
    (e : Entry Count) × Contains es e × ((region fill rule (lower_side es e.edge) ≡ true) ⊎ (region fill rule (upper_side es e) ≡ true))

-- it is at some rational point
abbrev pub HasFilledPoint : FillRule → OverlayRule → List (Entry Count) → Type 0
HasFilledPoint fill rule es = (p : RationalPoint) × IsRational p × (region fill rule (winding es p) ≡ true)

-- some edge bounds it
abbrev pub HasBoundary : FillRule → OverlayRule → List (Entry Count) → Type 0
HasBoundary fill rule es = (e : Entry Count) × Contains es e × (is_boundary fill rule es e ≡ true)

-- The region is somewhere just where some edge bounds it: on a side of an edge, or at a rational point.
pub record FilledIsBounded : Type 0 where
  pub sides : (fill : FillRule) (rule : OverlayRule) (es : List (Entry Count)) → IsArrangement es → HasFilledSide fill rule es ↔ HasBoundary fill rule es
  pub points : (fill : FillRule) (rule : OverlayRule) (es : List (Entry Count)) → IsArrangement es → HasFilledPoint fill rule es ↔ HasBoundary fill rule es
