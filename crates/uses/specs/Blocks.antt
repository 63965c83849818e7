-- Blocks of a map, which lie in boxes that share no point.
use Rattle.std.specs.Prelude.{◌≡◌, ℤ, false, List, ◌++◌, filter, Contains}
use Rattle.polygon_overlay.specs.Answering.{answering_of}
use Rattle.polygon_overlay.specs.Builders.{default_options, default_precision}
use Rattle.polygon_overlay.specs.Calls.{AreInRange}
use Rattle.polygon_overlay.specs.Counts.{Count, Entry}
use Rattle.polygon_overlay.specs.GroupLaws.{AreTiled}
use Rattle.polygon_overlay.specs.Groups.{Bounds}
use Rattle.polygon_overlay.specs.OverlayLaws.{HoldsContours, overlay_of}
use Rattle.polygon_overlay.specs.Plane.{Point}
use Rattle.polygon_overlay.specs.Regions.{NonZero, Union}
use Rattle.polygon_overlay.specs.WalkGroups.{contour_in, shape_in}

-- All contours of a map are in range, and each lies in one of some boxes that share no point. Those of one box are these subjects and clips.
pub record IsBlock (least greatest : ℤ) (subjects clips : List (List Point)) (box : Bounds) (all_subjects all_clips : List (List Point)) : Type 0 where
  pub subjects_in_range : AreInRange least greatest all_subjects
  pub clips_in_range : AreInRange least greatest all_clips
  pub boxes : List Bounds
  pub tiled : AreTiled boxes (all_subjects ++ all_clips)
  pub one : Contains boxes box
  pub its_subjects : filter (contour_in box) all_subjects ≡ subjects
  pub its_clips : filter (contour_in box) all_clips ≡ clips

-- what the union of a whole map, whose contours are held, has in a box
abbrev pub union_in : Bounds → List (Entry Count) → List (List (List Point))
union_in box held = filter (shape_in box) (overlay_of (answering_of default_options) NonZero Union default_precision held)

-- The shapes are what the union of any map has in a box in which it has these subjects and clips.
abbrev pub IsUnionOfBlock : ℤ → ℤ → List (List Point) → List (List Point) → List (List (List Point)) → Type 0
IsUnionOfBlock least greatest subjects clips shapes =
    (all_subjects all_clips : List (List Point)) (held : List (Entry Count)) (box : Bounds) → IsBlock least greatest subjects clips box all_subjects all_clips
    → HoldsContours false all_subjects all_clips held → shapes ≡ union_in box held
