-- Groups of what a builder holds: each is answered as if it were alone.
use Rattle.std.specs.Prelude.{◌≡◌, ℤ, Bool, true, List, ◌++◌, All, AllPairs, Any, Contains, filter}
use Rattle.plane_base.specs.Plane.{Point}
use Rattle.plane_base.specs.Counts.{Count, Entry, boolean, normal}
use Rattle.plane_base.specs.Regions.{FillRule, OverlayRule}
use Rattle.segment_split.specs.Groups.{Bounds, AreApart, AreGroups, part}
use Rattle.segment_split.specs.declared.solver.Precision.{Precision}
use Rattle.contour_walk.specs.Answering.{Answering, answering_of}
use Rattle.contour_walk.specs.GroupLaws.{contour_in, shape_in}
use Rattle.contour_walk.specs.declared.options.IntOverlayOptions.{IntOverlayOptions}
use Rattle.polygon_overlay.specs.Builders.{IsHeld}
use Rattle.polygon_overlay.specs.OverlayLaws.{HoldsContours, overlay_of}

-- In each box the shapes are, in order, the overlay of the part of what is held there, and each shape lies in one of the boxes.
pub record AreEachAlone (o : Answering) (fill : FillRule) (rule : OverlayRule) (precision : Precision) (held : List (Entry Count)) (boxes : List Bounds)
    (shapes : List (List (List Point))) : Type 0 where
  pub alone : (box : Bounds) → Contains boxes box → filter (shape_in box) shapes ≡ overlay_of o fill rule precision (part box held)
  pub in_one : All (λ shape. Any (λ box. shape_in box shape ≡ true) boxes) shapes

-- Where there is no least area, so are the shapes for any boxes, no two of which share a point, such that each key of the map of what is held
-- lies in one. Held edges that cancel lie anywhere.
abbrev pub AnswersGroupsAlone : IntOverlayOptions → FillRule → OverlayRule → Precision → List (Entry Count) → List (List (List Point)) → Type 0
AnswersGroupsAlone options fill rule precision held shapes =
    options.min_output_area ≡ 0 → (boxes : List Bounds) → AreGroups boxes (normal boolean held) → AreEachAlone (answering_of options) fill rule precision held boxes shapes

-- The overlay of what is held answers groups so.
abbrev pub GroupsAreOverlaidAlone : Type 0
GroupsAreOverlaidAlone =
    (least greatest : ℤ) (o : Answering) (fill : FillRule) (rule : OverlayRule) (precision : Precision) (held : List (Entry Count)) (boxes : List Bounds) →
    IsHeld least greatest held → AreGroups boxes (normal boolean held) → o.least ≡ 0
    → AreEachAlone o fill rule precision held boxes (overlay_of o fill rule precision held)

-- ---- contours

-- Each contour lies in one of the boxes, no two of which share a point.
pub record AreTiled (boxes : List Bounds) (contours : List (List Point)) : Type 0 where
  pub apart : AllPairs AreApart boxes
  pub each : All (λ contour. Any (λ box. contour_in box contour ≡ true) boxes) contours

-- What is held of contours that lie so is in groups, and its part in a box holds the contours of that box.
abbrev pub ContoursMakeGroups : Type 0
ContoursMakeGroups =
    (keep_all : Bool) (subjects clips : List (List Point)) (held : List (Entry Count)) (boxes : List Bounds) →
    HoldsContours keep_all subjects clips held → AreTiled boxes (subjects ++ clips)
    → AreGroups boxes held × ((box : Bounds) → Contains boxes box
    → HoldsContours keep_all (filter (contour_in box) subjects) (filter (contour_in box) clips) (part box held))

-- The shapes of all contours that lie in a box are the overlay of that box's contours alone.
abbrev pub TilesAnswerAlike : Type 0
TilesAnswerAlike =
    (least greatest : ℤ) (keep_all : Bool) (subjects clips : List (List Point)) (held tile : List (Entry Count)) (boxes : List Bounds) (box : Bounds) →
    HoldsContours keep_all subjects clips held → IsHeld least greatest held → AreTiled boxes (subjects ++ clips) → Contains boxes box
    → HoldsContours keep_all (filter (contour_in box) subjects) (filter (contour_in box) clips) tile
    → (o : Answering) (fill : FillRule) (rule : OverlayRule) (precision : Precision) → o.least ≡ 0
    → filter (shape_in box) (overlay_of o fill rule precision held) ≡ overlay_of o fill rule precision tile
