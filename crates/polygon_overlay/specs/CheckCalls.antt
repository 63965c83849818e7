-- What the calls ask and answer that check masks.
use Rattle.std.specs.Prelude.{◌≡◌, ◌⊎◌, ℤ, Bool, false, List, map}
use Rattle.plane_base.specs.Plane.{Point}
use Rattle.plane_base.specs.Counts.{Count, Entry}
use Rattle.plane_base.specs.Regions.{FillRule, Positive, Difference}
use Rattle.plane_base.specs.declared.fault.Fault.{Fault}
use Rattle.segment_split.specs.declared.solver.Precision.{Precision}
use Rattle.contour_walk.specs.BindingLaws.{all_contours}
use Rattle.contour_walk.specs.ShapeViews.{is_clockwise}
use Rattle.contour_walk.specs.declared.options.IntOverlayOptions.{IntOverlayOptions}
use Rattle.polygon_overlay.specs.Asking.{IsAnswered}
use Rattle.polygon_overlay.specs.Builders.{HoldsBoth, IsNotMade}
use Rattle.polygon_overlay.specs.Checks.{IsWidthError, IsSpaceError, opposite, halves}
use Rattle.polygon_overlay.specs.Overlays.{IsQueryRefused, once}
use Rattle.polygon_overlay.specs.Simplified.{IsNotSimplified}
use Rattle.polygon_overlay.specs.Sizing.{Amounts, IsFilledBy, WindWhere, moved_across, moved}
use Rattle.polygon_overlay.specs.SizingCalls.{IsNotMoved}
use Rattle.polygon_overlay.specs.SizingLaws.{IsRegionOf, IsMovedTo, AreMoved}
use Rattle.polygon_overlay.specs.Tiles.{AreRectilinear}

-- ---- a region, moved twice

-- The region is moved by the first amounts, and what this winds round more often than 0 is moved by the second.
pub record IsMovedInTurn (least greatest : ℤ) (first second : Amounts) (precision : Precision) (region shifted : List (List Point)) : Type 0 where
  pub between : List (List Point)
  pub once : IsMovedTo least greatest first precision region between
  pub again : AreMoved least greatest second Positive precision between shifted

-- Memory was refused, or an overlay on the way.
abbrev pub IsNotMovedInTurn : ℤ → ℤ → Amounts → Amounts → Precision → List (List Point) → Fault → Type 0
IsNotMovedInTurn least greatest first second precision region fault =
    IsNotSimplified false precision (map (moved (moved_across first.left first.right)) region) fault
    ⊎ ((between : List (List Point)) × IsMovedTo least greatest first precision region between ×
    IsNotMoved least greatest second Positive precision between fault)

-- ---- what one mask has without another

-- The shapes are the overlay of both, by the options. Without a least area they wind once, in the output direction, round each rational point round
-- which the one winds more often than 0 and the other doesn't, and round no other, along horizontal and vertical edges.
pub record IsDifferenceOf (least greatest : ℤ) (options : IntOverlayOptions) (precision : Precision) (one other : List (List Point))
    (shapes : List (List (List Point))) : Type 0 where
  pub held : List (Entry Count)
  pub holds : HoldsBoth options.preserve_input_collinear one other held
  pub is : IsAnswered least greatest options Positive Difference precision held shapes
  pub winds :
      options.min_output_area ≡ 0
      → WindWhere (once (is_clockwise options.output_direction)) (λ p. IsFilledBy Positive one p × (IsFilledBy Positive other p → ⊥)) (all_contours shapes)
  pub straight : options.min_output_area ≡ 0 → AreRectilinear (all_contours shapes)

-- The two weren't taken, or their overlay was refused.
abbrev pub IsNoDifference : Bool → Precision → List (List Point) → List (List Point) → Fault → Type 0
IsNoDifference keep_all precision one other fault =
    IsNotMade keep_all one other fault ⊎ ((held : List (Entry Count)) × HoldsBoth keep_all one other held × IsQueryRefused precision held fault)

-- ---- answers

-- The region of the contours is shrunk and grown again, and what is gone is answered. Without a least area this winds once, in the output
-- direction, round each rational point that is an error of the width, and round no other, along horizontal and vertical edges.
pub record AreWidthErrors (least greatest width : ℤ) (options : IntOverlayOptions) (fill : FillRule) (precision : Precision)
    (contours : List (List Point)) (shapes : List (List (List Point))) : Type 0 where
  pub mask : List (List Point)
  pub of_region : IsRegionOf least greatest fill precision contours mask
  pub opened : List (List Point)
  pub moves : IsMovedInTurn least greatest (opposite (halves width)) (halves width) precision mask opened
  pub is : IsDifferenceOf least greatest options precision mask opened shapes
  pub winds :
      options.min_output_area ≡ 0
      → WindWhere (once (is_clockwise options.output_direction)) (IsWidthError width (IsFilledBy fill contours)) (all_contours shapes)
  pub straight : options.min_output_area ≡ 0 → AreRectilinear (all_contours shapes)

-- The region of the contours is grown and shrunk again, and what has come is answered: so round each point that is an error of the space.
pub record AreSpaceErrors (least greatest space : ℤ) (options : IntOverlayOptions) (fill : FillRule) (precision : Precision)
    (contours : List (List Point)) (shapes : List (List (List Point))) : Type 0 where
  pub mask : List (List Point)
  pub of_region : IsRegionOf least greatest fill precision contours mask
  pub closed : List (List Point)
  pub moves : IsMovedInTurn least greatest (halves space) (opposite (halves space)) precision mask closed
  pub is : IsDifferenceOf least greatest options precision closed mask shapes
  pub winds :
      options.min_output_area ≡ 0
      → WindWhere (once (is_clockwise options.output_direction)) (IsSpaceError space (IsFilledBy fill contours)) (all_contours shapes)
  pub straight : options.min_output_area ≡ 0 → AreRectilinear (all_contours shapes)

-- ---- refusals

-- The overlay of the contours was refused, or their region wasn't moved and moved back, or the last overlay, with what it was moved to, wasn't made.
pub data IsNotChecked (least greatest : ℤ) (first second : Amounts) (fill : FillRule) (precision : Precision) (contours : List (List Point))
    (IsNotLast : List (List Point) → List (List Point) → Fault → Type 0) (fault : Fault) : Type 0 where
  of_region : IsNotSimplified false precision contours fault → IsNotChecked least greatest first second fill precision contours IsNotLast fault
  of_moved :
      (mask : List (List Point)) → IsRegionOf least greatest fill precision contours mask →
      IsNotMovedInTurn least greatest first second precision mask fault → IsNotChecked least greatest first second fill precision contours IsNotLast fault
  of_last :
      (mask shifted : List (List Point)) → IsRegionOf least greatest fill precision contours mask →
      IsMovedInTurn least greatest first second precision mask shifted → IsNotLast mask shifted fault
      → IsNotChecked least greatest first second fill precision contours IsNotLast fault

-- The region wasn't shrunk and grown again, or the overlay without what came of it was refused.
abbrev pub AreNoWidthErrors : ℤ → ℤ → ℤ → IntOverlayOptions → FillRule → Precision → List (List Point) → Fault → Type 0
AreNoWidthErrors least greatest width options fill precision contours fault =
    IsNotChecked least greatest (opposite (halves width)) (halves width) fill precision contours
    (λ mask opened. IsNoDifference options.preserve_input_collinear precision mask opened) fault

-- The region wasn't grown and shrunk again, or the overlay of what came of it without the region was refused.
abbrev pub AreNoSpaceErrors : ℤ → ℤ → ℤ → IntOverlayOptions → FillRule → Precision → List (List Point) → Fault → Type 0
AreNoSpaceErrors least greatest space options fill precision contours fault =
    IsNotChecked least greatest (halves space) (opposite (halves space)) fill precision contours
    (λ mask closed. IsNoDifference options.preserve_input_collinear precision closed mask) fault
