-- How areas of overlays add up.
use Rattle.std.specs.Prelude.{◌≡◌, ℤ, ◌+ℤ◌, ◌-ℤ◌, Bool, List}
use Rattle.plane_base.specs.Plane.{Point}
use Rattle.plane_base.specs.Areas.{area}
use Rattle.plane_base.specs.Counts.{Count, Entry}
use Rattle.plane_base.specs.Regions.{FillRule, OverlayRule, Subject, Clip, Intersect, Union, Difference, InverseDifference, Xor}
use Rattle.plane_base.specs.Totals.{total}
use Rattle.segment_split.specs.declared.solver.Precision.{Precision}
use Rattle.contour_walk.specs.Answering.{Answering}
use Rattle.contour_walk.specs.BindingLaws.{all_contours}
use Rattle.polygon_overlay.specs.Builders.{IsHeld}
use Rattle.polygon_overlay.specs.OverlayLaws.{overlay_of}

-- twice the signed areas of all contours, summed: above 0 where outlines run counterclockwise, below 0 where they run clockwise
abbrev pub areas : List (List (List Point)) → ℤ
areas shapes = total area (all_contours shapes)

-- What the rules keep of subject and clip together have such areas.
pub record AddUp (area_of : OverlayRule → ℤ) : Type 0 where
  pub union : area_of Union +ℤ area_of Intersect ≡ area_of Subject +ℤ area_of Clip
  pub xor : area_of Xor ≡ area_of Union -ℤ area_of Intersect
  pub difference : area_of Difference ≡ area_of Subject -ℤ area_of Intersect
  pub inverse : area_of InverseDifference ≡ area_of Clip -ℤ area_of Intersect

-- Where no least area is set, overlays of what is held add up exactly, by one direction: points kept or not, parted or not, each as it likes.
abbrev pub AreasAddUp : Type 0
AreasAddUp =
    (least greatest : ℤ) (clockwise : Bool) (o : OverlayRule → Answering) (fill : FillRule) (precision : Precision) (held : List (Entry Count)) →
    IsHeld least greatest held → ((rule : OverlayRule) → ((o rule).clockwise ≡ clockwise) × ((o rule).least ≡ 0))
    → AddUp (λ rule. areas (overlay_of (o rule) fill rule precision held))
