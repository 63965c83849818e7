-- What is answered for moved contours of an answer.
use Rattle.std.specs.Prelude.{◌≡◌, ◌⊎◌, ℤ, Bool, true, false, List, [], map, All}
use Rattle.plane_base.specs.Plane.{Point, RationalPoint, IsRational}
use Rattle.plane_base.specs.Counts.{Count, Entry}
use Rattle.plane_base.specs.Regions.{FillRule, Positive, Subject, region}
use Rattle.plane_base.specs.Windings.{winding}
use Rattle.segment_split.specs.Groups.{Bounds, LiesWithin}
use Rattle.segment_split.specs.declared.solver.Precision.{Precision}
use Rattle.contour_walk.specs.Answering.{Answering}
use Rattle.contour_walk.specs.BindingLaws.{all_contours}
use Rattle.polygon_overlay.specs.Builders.{IsHeld, default_options}
use Rattle.polygon_overlay.specs.FlatCalls.{flat_overlay_of}
use Rattle.polygon_overlay.specs.OverlayLaws.{HoldsContours, overlay_of}
use Rattle.polygon_overlay.specs.Overlays.{MeetsWhole, once}
use Rattle.polygon_overlay.specs.Sizing.{Amounts, IsSized, IsFilledBy, WindWhere, moved_across, moved_up, moved}
use Rattle.polygon_overlay.specs.Tiles.{AreRectilinear}

-- These contours alone are held.
pub record HoldsAlone (least greatest : ℤ) (keep_all : Bool) (contours : List (List Point)) (held : List (Entry Count)) : Type 0 where
  pub holds : HoldsContours keep_all contours [] held
  pub is_held : IsHeld least greatest held

-- The contours are those of the region that the fill rule makes of others, one after another, counterclockwise, by corners alone.
pub record IsRegionOf (least greatest : ℤ) (fill : FillRule) (precision : Precision) (contours region : List (List Point)) : Type 0 where
  pub held : List (Entry Count)
  pub alone : HoldsAlone least greatest false contours held
  pub is : region ≡ flat_overlay_of default_options fill Subject precision held

-- A region's vertical steps are moved. What these wind round more often than 0 is a region, whose horizontal steps are moved.
pub record IsMovedTo (least greatest : ℤ) (by : Amounts) (precision : Precision) (region shifted : List (List Point)) : Type 0 where
  pub wide : List (List Point)
  pub across : IsRegionOf least greatest Positive precision (map (moved (moved_across by.left by.right)) region) wide
  pub up : shifted ≡ map (moved (moved_up by.bottom by.top)) wide

-- The region of contours is moved so.
pub record AreMoved (least greatest : ℤ) (by : Amounts) (fill : FillRule) (precision : Precision) (contours shifted : List (List Point)) : Type 0 where
  pub region : List (List Point)
  pub of_region : IsRegionOf least greatest fill precision contours region
  pub moves : IsMovedTo least greatest by precision region shifted

-- What it is moved to is held.
pub record HoldsMoved (least greatest : ℤ) (keep_all : Bool) (by : Amounts) (fill : FillRule) (precision : Precision) (contours : List (List Point))
    (held : List (Entry Count)) : Type 0 where
  pub shifted : List (List Point)
  pub are : AreMoved least greatest by fill precision contours shifted
  pub alone : HoldsAlone least greatest keep_all shifted held

-- The contours wind more often than 0 round just the rational points that lie inside, along horizontal and vertical steps.
pub record FillJust (Inside : RationalPoint → Type 0) (contours : List (List Point)) : Type 0 where
  pub fills : (p : RationalPoint) → IsRational p → (Inside p → IsFilledBy Positive contours p) × (IsFilledBy Positive contours p → Inside p)
  pub straight : AreRectilinear contours

-- So does the region of horizontal and vertical contours round what they fill, and what it is moved to round the sized region.
pub record MovedFillTheSized : Type 0 where
  pub region :
      (least greatest : ℤ) (fill : FillRule) (precision : Precision) (contours region : List (List Point)) →
      AreRectilinear contours → IsRegionOf least greatest fill precision contours region → FillJust (IsFilledBy fill contours) region
  pub moved :
      (least greatest : ℤ) (by : Amounts) (fill : FillRule) (precision : Precision) (contours shifted : List (List Point)) →
      AreRectilinear contours → AreMoved least greatest by fill precision contours shifted → FillJust (IsSized by (IsFilledBy fill contours)) shifted

-- All points of a region lie in each box in which all points of the contours do.
abbrev pub RegionsStayInTheBox : Type 0
RegionsStayInTheBox =
    (least greatest : ℤ) (box : Bounds) (fill : FillRule) (precision : Precision) (contours region : List (List Point)) →
    IsRegionOf least greatest fill precision contours region → All (All (LiesWithin box)) contours → All (All (LiesWithin box)) region

-- The test tells whether it is so.
abbrev pub Tells : Type 0 → Bool → Type 0
Tells Is test = (Is × (test ≡ true)) ⊎ ((Is → ⊥) × (test ≡ false))

-- What is held winds more often than 0 round just the sized region of the contours, and its edges cross at whole points alone. What is answered for
-- it, without a least area, winds round each rational point of the sized region once, in its direction, and round no other, along horizontal and
-- vertical edges.
pub record IsSizedMap (by : Amounts) (fill : FillRule) (contours : List (List Point)) (held : List (Entry Count)) : Type 0 where
  pub region : (p : RationalPoint) → IsRational p → Tells (IsSized by (IsFilledBy fill contours) p) (region Positive Subject (winding held p))
  pub whole : MeetsWhole held
  pub winds :
      (o : Answering) (precision : Precision) → o.least ≡ 0
      → WindWhere (once o.clockwise) (IsSized by (IsFilledBy fill contours)) (all_contours (overlay_of o Positive Subject precision held))
  pub straight : (o : Answering) (precision : Precision) → o.least ≡ 0 → AreRectilinear (all_contours (overlay_of o Positive Subject precision held))

-- What is held in the end of horizontal and vertical contours, moved in x and then in y, is a map of their sized region.
abbrev pub SizedIsTheNeighbourhood : Type 0
SizedIsTheNeighbourhood =
    (least greatest : ℤ) (keep_all : Bool) (by : Amounts) (fill : FillRule) (precision : Precision) (contours : List (List Point)) (held : List (Entry Count)) →
    AreRectilinear contours → HoldsMoved least greatest keep_all by fill precision contours held → IsSizedMap by fill contours held
