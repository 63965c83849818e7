-- Which points an answer contains.
use Rattle.std.specs.Prelude.{◌≡◌, ℕ, ◌<◌, ℤ, Bool, false, List, length, slice_index_or}
use Rattle.plane_base.specs.Plane.{Point, RationalPoint, IsRational}
use Rattle.plane_base.specs.Counts.{Count, Entry}
use Rattle.plane_base.specs.Regions.{FillRule, OverlayRule, region}
use Rattle.plane_base.specs.Windings.{winding}
use Rattle.segment_arrangement.specs.FanLaws.{whole}
use Rattle.segment_split.specs.declared.solver.Precision.{Precision}
use Rattle.contour_walk.specs.Answering.{Answering}
use Rattle.contour_walk.specs.BindingLaws.{all_contours}
use Rattle.polygon_overlay.specs.Builders.{IsHeld}
use Rattle.polygon_overlay.specs.Location.{in_shapes, IsOffContours, AreLocated}
use Rattle.polygon_overlay.specs.Overlays.{redrawn_of}
use Rattle.polygon_overlay.specs.OverlayLaws.{overlay_of}

-- The shapes of an answer without a least area, whose contours are not parted, contain a point just where the region is there: off their contours,
-- and on them, where a point is taken for one just right of it and below the edges on which it lies. So points that are located in the answer
-- are told to be inside, off its contours, just where the region is.
pub record AnswersContain : Type 0 where
  pub inside :
      (least greatest : ℤ) (o : Answering) (fill : FillRule) (rule : OverlayRule) (precision : Precision) (held : List (Entry Count)) (p : RationalPoint) →
      IsHeld least greatest held → o.parted ≡ false → o.least ≡ 0 → IsRational p
      → in_shapes (overlay_of o fill rule precision held) p ≡ region fill rule (winding (redrawn_of precision held) p)
  pub told :
      (least greatest : ℤ) (o : Answering) (fill : FillRule) (rule : OverlayRule) (precision : Precision) (held : List (Entry Count)) →
      (points : List Point) (answers : List Bool) (n : ℕ) (d : Point) (e : Bool) → IsHeld least greatest held → o.parted ≡ false → o.least ≡ 0 →
      AreLocated (all_contours (overlay_of o fill rule precision held)) (in_shapes (overlay_of o fill rule precision held)) points answers →
      n < length points → IsOffContours (all_contours (overlay_of o fill rule precision held)) (whole (slice_index_or points n d))
      → slice_index_or answers n e ≡ region fill rule (winding (redrawn_of precision held) (whole (slice_index_or points n d)))
