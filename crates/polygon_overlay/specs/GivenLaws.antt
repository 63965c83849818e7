-- How what a builder holds winds.
use Rattle.std.specs.Prelude.{◌≡◌, Bool, List}
use Rattle.plane_base.specs.Plane.{Point, RationalPoint}
use Rattle.plane_base.specs.Counts.{Count, Entry}
use Rattle.plane_base.specs.Windings.{winding, contour_winding}
use Rattle.polygon_overlay.specs.OverlayLaws.{HoldsContours}

-- What is held, whatever calls added it, winds round each rational point as the contours that were given, thinned or with all their
-- points.
abbrev pub HeldWindsAsGiven : Type 0
HeldWindsAsGiven =
    (keep_all : Bool) (subjects clips : List (List Point)) (held : List (Entry Count)) (p : RationalPoint) → HoldsContours keep_all subjects clips held
    → winding held p ≡ record { subject = contour_winding subjects p; clip = contour_winding clips p }
