-- What an overlay's answer promises.
use Rattle.std.specs.Prelude.{◌≡◌, pos, true, false, List}
use Rattle.plane_base.specs.Plane.{Point, RationalPoint, IsRational}
use Rattle.plane_base.specs.Counts.{Count, Entry}
use Rattle.plane_base.specs.Windings.{winding, contour_winding, IsOff}
use Rattle.plane_base.specs.Regions.{FillRule, OverlayRule, region}

-- Off the edges of the given map, the contours wind once, counterclockwise, round every point of the region,
-- and zero times round every other point.
pub record WindsOnce (fill : FillRule) (rule : OverlayRule) (es : List (Entry Count)) (contours : List (List Point)) : Type 0 where
  pub inside : (p : RationalPoint) → IsRational p → IsOff es p → region fill rule (winding es p) ≡ true → contour_winding contours p ≡ pos 1
  pub outside : (p : RationalPoint) → IsRational p → IsOff es p → region fill rule (winding es p) ≡ false → contour_winding contours p ≡ pos 0
