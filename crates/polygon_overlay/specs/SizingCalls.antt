-- What the calls ask and answer that size regions.
use Rattle.std.specs.Prelude.{◌≡◌, ◌⊎◌, ℤ, ◌+ℤ◌, ◌-ℤ◌, Bool, false, cond, List, map, All}
use Rattle.plane_base.specs.Plane.{Point, Edge, IsCoordinate}
use Rattle.plane_base.specs.Counts.{Count, Entry}
use Rattle.plane_base.specs.Regions.{FillRule, Positive, Subject}
use Rattle.plane_base.specs.declared.fault.Fault.{Fault}
use Rattle.segment_split.specs.declared.solver.Precision.{Precision}
use Rattle.contour_walk.specs.BindingLaws.{all_contours}
use Rattle.contour_walk.specs.ShapeViews.{is_clockwise}
use Rattle.contour_walk.specs.declared.options.IntOverlayOptions.{IntOverlayOptions}
use Rattle.polygon_overlay.specs.Asking.{IsAnswered}
use Rattle.polygon_overlay.specs.Overlays.{once}
use Rattle.polygon_overlay.specs.Simplified.{IsNotSimplified}
use Rattle.polygon_overlay.specs.Sizing.{Amounts, IsSized, IsFilledBy, WindWhere, moved_across, moved_up, moved}
use Rattle.polygon_overlay.specs.SizingLaws.{IsRegionOf, AreMoved, HoldsMoved}
use Rattle.polygon_overlay.specs.Tiles.{AreRectilinear}

-- ---- room for moves

-- The number stays in the range, moved back by one amount and on by the other.
pub record HasRoom (least greatest back on n : ℤ) : Type 0 where
  pub below : IsCoordinate least greatest (n -ℤ back)
  pub above : IsCoordinate least greatest (n +ℤ on)

-- The point stays in the range with each amount: a left side or a right one may stand there, a bottom or a top.
pub record StaysInRange (least greatest : ℤ) (by : Amounts) (p : Point) : Type 0 where
  pub across : HasRoom least greatest by.left by.right p.x
  pub up : HasRoom least greatest by.bottom by.top p.y

-- All points of the contours do: so the box of them all, moved by the amounts, stays in the range.
abbrev pub Fits : ℤ → ℤ → Amounts → List (List Point) → Type 0
Fits least greatest by contours = All (All (StaysInRange least greatest by)) contours

-- So does the number, and what it is moved to by the first amounts, with the second.
pub record HasRoomInTurn (least greatest back on then_back then_on n : ℤ) : Type 0 where
  pub first : HasRoom least greatest back on n
  pub below : HasRoom least greatest then_back then_on (n -ℤ back)
  pub above : HasRoom least greatest then_back then_on (n +ℤ on)

pub record StaysInTurn (least greatest : ℤ) (first second : Amounts) (p : Point) : Type 0 where
  pub across : HasRoomInTurn least greatest first.left first.right second.left second.right p.x
  pub up : HasRoomInTurn least greatest first.bottom first.top second.bottom second.top p.y

-- All points of the contours do.
abbrev pub FitsInTurn : ℤ → ℤ → Amounts → Amounts → List (List Point) → Type 0
FitsInTurn least greatest first second contours = All (All (StaysInTurn least greatest first second)) contours

-- ---- moves in x, or in y

abbrev pub moved_along : Bool → Amounts → Edge → List Point
moved_along across by s = cond across (moved_across by.left by.right s) (moved_up by.bottom by.top s)

abbrev pub HasRoomAlong : ℤ → ℤ → Bool → Amounts → Point → Type 0
HasRoomAlong least greatest across by p =
    HasRoom least greatest (cond across by.left by.bottom) (cond across by.right by.top) (cond across p.x p.y)

-- ---- answers

-- The shapes are answered for the contours' region, moved in x and then in y. Without a least area they wind round each rational point of the sized
-- region once, in the output direction, and round no other, along horizontal and vertical edges.
pub record AreSized (least greatest : ℤ) (by : Amounts) (options : IntOverlayOptions) (fill : FillRule) (precision : Precision)
    (contours : List (List Point)) (shapes : List (List (List Point))) : Type 0 where
  pub held : List (Entry Count)
  pub moves : HoldsMoved least greatest options.preserve_input_collinear by fill precision contours held
  pub is : IsAnswered least greatest options Positive Subject precision held shapes
  pub winds :
      options.min_output_area ≡ 0
      → WindWhere (once (is_clockwise options.output_direction)) (IsSized by (IsFilledBy fill contours)) (all_contours shapes)
  pub straight : options.min_output_area ≡ 0 → AreRectilinear (all_contours shapes)

-- The contours' region is moved by the first amounts, and what these contours wind round more often than 0 is sized by the second. Without a least
-- area the shapes wind so round each rational point of the region that is sized by the first and then by the second.
pub record AreSizedInTurn (least greatest : ℤ) (first second : Amounts) (options : IntOverlayOptions) (fill : FillRule) (precision : Precision)
    (contours : List (List Point)) (shapes : List (List (List Point))) : Type 0 where
  pub shifted : List (List Point)
  pub moves : AreMoved least greatest first fill precision contours shifted
  pub sized : AreSized least greatest second options Positive precision shifted shapes
  pub winds :
      options.min_output_area ≡ 0
      → WindWhere (once (is_clockwise options.output_direction)) (IsSized second (IsSized first (IsFilledBy fill contours))) (all_contours shapes)

-- ---- refusals

-- Memory was refused, or one of two overlays: that of the contours, or that of their region, moved in x.
pub data IsNotMoved (least greatest : ℤ) (by : Amounts) (fill : FillRule) (precision : Precision) (contours : List (List Point)) (fault : Fault) : Type 0 where
  of_contours : IsNotSimplified false precision contours fault → IsNotMoved least greatest by fill precision contours fault
  of_sides :
      (region : List (List Point)) → IsRegionOf least greatest fill precision contours region →
      IsNotSimplified false precision (map (moved (moved_across by.left by.right)) region) fault → IsNotMoved least greatest by fill precision contours fault

-- They weren't moved, or the overlay was refused of what the second gave, moved in y.
abbrev pub IsNotSized : ℤ → ℤ → Amounts → IntOverlayOptions → FillRule → Precision → List (List Point) → Fault → Type 0
IsNotSized least greatest by options fill precision contours fault =
    IsNotMoved least greatest by fill precision contours fault
    ⊎ ((shifted : List (List Point)) × AreMoved least greatest by fill precision contours shifted ×
    IsNotSimplified options.preserve_input_collinear precision shifted fault)

-- They weren't moved by the first amounts, or what they filled then wasn't sized by the second.
abbrev pub IsNotSizedInTurn : ℤ → ℤ → Amounts → Amounts → IntOverlayOptions → FillRule → Precision → List (List Point) → Fault → Type 0
IsNotSizedInTurn least greatest first second options fill precision contours fault =
    IsNotMoved least greatest first fill precision contours fault
    ⊎ ((shifted : List (List Point)) × AreMoved least greatest first fill precision contours shifted ×
    IsNotSized least greatest second options Positive precision shifted fault)
