-- Boxes round what a builder holds.
use Rattle.std.specs.Prelude.{Bool, false, ◌||◌, int_lt, List, All}
use Rattle.polygon_overlay.specs.Counts.{Count, Entry}
use Rattle.polygon_overlay.specs.Groups.{Bounds, LiesWithin}
use Rattle.polygon_overlay.specs.OverlayLaws.{HoldsContours}
use Rattle.polygon_overlay.specs.Plane.{Point}

-- What is held are contours of a subject, all of whose points lie in one box, and of a clip, whose points lie in another.
pub record HoldsInBoxes (one other : Bounds) (held : List (Entry Count)) : Type 0 where
  pub subjects : List (List Point)
  pub clips : List (List Point)
  pub holds : HoldsContours false subjects clips held
  pub subjects_within : All (All (LiesWithin one)) subjects
  pub clips_within : All (All (LiesWithin other)) clips

-- the test of `AreApart`
abbrev pub are_apart : Bounds → Bounds → Bool
are_apart b c = (int_lt b.right c.left || int_lt c.right b.left) || (int_lt b.top c.bottom || int_lt c.top b.bottom)
