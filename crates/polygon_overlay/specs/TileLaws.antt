-- What clamped contours wind round, and what tiles of a map of horizontal and vertical edges answer.
use Rattle.std.specs.Prelude.{◌≡◌, ℤ, pos, Bool, cond, ◌&&◌, List, [], ◌∷◌, ◌++◌, map, flat_map, All}
use Rattle.std.specs.List.{AllZip}
use Rattle.plane_base.specs.Plane.{Point, RationalPoint, IsRational}
use Rattle.plane_base.specs.Counts.{Count, Entry, boolean, normal}
use Rattle.plane_base.specs.Regions.{FillRule, NonZero, OverlayRule, Subject, region}
use Rattle.plane_base.specs.Windings.{contour_winding}
use Rattle.segment_split.specs.Groups.{Bounds, LiesWithin}
use Rattle.segment_split.specs.LineLaws.{AllRectilinear}
use Rattle.segment_split.specs.Passes.{edges_of}
use Rattle.segment_split.specs.declared.solver.Precision.{Precision}
use Rattle.contour_walk.specs.Answering.{Answering}
use Rattle.contour_walk.specs.BindingLaws.{all_contours}
use Rattle.contour_walk.specs.WalkLaws.{contour_steps, turns_of}
use Rattle.polygon_overlay.specs.Builders.{IsHeld}
use Rattle.polygon_overlay.specs.OverlayLaws.{HoldsContours, overlay_of}
use Rattle.polygon_overlay.specs.TileGrids.{AreTilesOf, Column, grid_of, IsGrid}
use Rattle.polygon_overlay.specs.Tiles.{in_tile, IsTile, clamped, KeepsTo, AreRectilinear}

-- A contour whose steps keep to a tile winds there, clamped, round each rational point as before, edges included, and round no other.
abbrev pub ClampedWindsAlike : Type 0
ClampedWindsAlike =
    (tile : Bounds) (contour : List Point) (p : RationalPoint) → IsTile tile → All (KeepsTo tile) (contour_steps contour)
    → contour_winding (clamped tile contour ∷ []) p ≡ cond (in_tile tile p) (contour_winding (contour ∷ []) p) (pos 0)

-- What is answered for horizontal and vertical edges has horizontal and vertical steps alone, whatever the other options, the rules and the precision.
abbrev pub AnswersStayRectilinear : Type 0
AnswersStayRectilinear =
    (least greatest : ℤ) (o : Answering) (fill : FillRule) (rule : OverlayRule) (precision : Precision) (held : List (Entry Count)) →
    IsHeld least greatest held → o.least ≡ 0 → AllRectilinear (edges_of (normal boolean held))
    → AreRectilinear (all_contours (overlay_of o fill rule precision held))

-- What is answered for horizontal and vertical contours winds round their region at each rational point, edges included.
abbrev pub StraightMapsAnswerTheirRegion : Type 0
StraightMapsAnswerTheirRegion =
    (least greatest : ℤ) (keep_all : Bool) (subjects clips : List (List Point)) (held : List (Entry Count)) (o : Answering) (fill : FillRule)
    (rule : OverlayRule) (precision : Precision) (p : RationalPoint) → AreRectilinear subjects → AreRectilinear clips →
    HoldsContours keep_all subjects clips held → IsHeld least greatest held → o.least ≡ 0 → IsRational p
    → contour_winding (all_contours (overlay_of o fill rule precision held)) p
    ≡ turns_of o.clockwise (region fill rule (record { subject = contour_winding subjects p; clip = contour_winding clips p }))

-- The contours of a tile are those of the map, each of their points clamped into it: what is held of them is answered by the region in the tile.
abbrev pub TilesAnswerTheirRegion : Type 0
TilesAnswerTheirRegion =
    (least greatest : ℤ) (keep_all : Bool) (tile : Bounds) (subjects clips : List (List Point)) (part : List (Entry Count)) (o : Answering) (fill : FillRule)
    (rule : OverlayRule) (precision : Precision) (p : RationalPoint) → IsTile tile → AreRectilinear (subjects ++ clips) →
    HoldsContours keep_all (map (clamped tile) subjects) (map (clamped tile) clips) part → IsHeld least greatest part → o.least ≡ 0 → IsRational p
    → contour_winding (all_contours (overlay_of o fill rule precision part)) p
    ≡ turns_of o.clockwise (in_tile tile p && region fill rule (record { subject = contour_winding subjects p; clip = contour_winding clips p }))

-- Cuts of x, and for each column cuts of y, make tiles of the whole.
abbrev pub GridsAreTiles : Type 0
GridsAreTiles = (box : Bounds) (columns : List Column) → IsGrid box columns → AreTilesOf box (grid_of box.left box.bottom columns)

-- The part of each tile holds the contours of the map clamped into it.
abbrev pub HoldTiles : ℤ → ℤ → Bool → List (List Point) → List (List Point) → List Bounds → List (List (Entry Count)) → Type 0
HoldTiles least greatest keep_all subjects clips tiles parts =
    AllZip (λ tile part. HoldsContours keep_all (map (clamped tile) subjects) (map (clamped tile) clips) part × IsHeld least greatest part) tiles parts

-- the contours of the answers of all parts
abbrev pub answers_of : Answering → FillRule → OverlayRule → Precision → List (List (Entry Count)) → List (List Point)
answers_of o fill rule precision parts = flat_map (λ part. all_contours (overlay_of o fill rule precision part)) parts

-- The answers of tiles that cover a map's box, handed back together and alone, under `Subject` and `NonZero` in the same direction, wind round
-- each rational point as the overlay of the whole map does, whatever the other options and the precisions.
abbrev pub TilesUnite : Type 0
TilesUnite =
    (least greatest : ℤ) (keep_all other_keeps : Bool) (box : Bounds) (tiles : List Bounds) (subjects clips : List (List Point))
    (parts : List (List (Entry Count))) (held again : List (Entry Count)) (o other : Answering) (fill : FillRule) (rule : OverlayRule)
    (precision another_precision other_precision : Precision) (p : RationalPoint) →
    AreTilesOf box tiles → All (All (LiesWithin box)) (subjects ++ clips) → AreRectilinear (subjects ++ clips) →
    HoldsContours keep_all subjects clips held → IsHeld least greatest held → HoldTiles least greatest keep_all subjects clips tiles parts →
    HoldsContours other_keeps (answers_of o fill rule precision parts) [] again → IsHeld least greatest again →
    o.least ≡ 0 → other.least ≡ 0 → other.clockwise ≡ o.clockwise → IsRational p
    → contour_winding (all_contours (overlay_of other NonZero Subject other_precision again)) p
    ≡ contour_winding (all_contours (overlay_of o fill rule another_precision held)) p
