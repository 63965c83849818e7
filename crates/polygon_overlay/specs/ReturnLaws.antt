-- What becomes of answers that are handed back.
use Rattle.std.specs.Prelude.{◌≡◌, ℤ, Bool, true, List, [], All}
use Rattle.plane_base.specs.Plane.{RationalPoint, IsRational}
use Rattle.plane_base.specs.Counts.{Count, Entry}
use Rattle.plane_base.specs.Regions.{FillRule, NonZero, OverlayRule, Subject}
use Rattle.plane_base.specs.Windings.{contour_winding}
use Rattle.segment_split.specs.declared.solver.Precision.{Precision}
use Rattle.contour_walk.specs.Answering.{Answering}
use Rattle.contour_walk.specs.WalkLaws.{borders}
use Rattle.contour_walk.specs.BindingLaws.{all_contours}
use Rattle.polygon_overlay.specs.Builders.{IsHeld}
use Rattle.polygon_overlay.specs.Location.{IsResolved}
use Rattle.polygon_overlay.specs.Overlays.{redrawn_of}
use Rattle.polygon_overlay.specs.OverlayLaws.{HoldsContours, overlay_of}

-- Two overlays whose redrawn maps have the same boundary, with the region on the same sides, have one answer by equal options.
abbrev pub EqualBoundariesAnswerAlike : Type 0
EqualBoundariesAnswerAlike =
    (o : Answering) (fill other_fill : FillRule) (rule other_rule : OverlayRule) (precision other_precision : Precision) (held other : List (Entry Count))
    → borders fill rule (redrawn_of precision held) ≡ borders other_fill other_rule (redrawn_of other_precision other)
    → overlay_of o fill rule precision held ≡ overlay_of o other_fill other_rule other_precision other

-- An answer with all its points, without a least area, comes back: held alone, with all points, it is the overlay of what is held by `Subject` and
-- `NonZero`, by equal options, at any precision.
abbrev pub AnswersComeBack : Type 0
AnswersComeBack =
    (least greatest : ℤ) (o : Answering) (fill : FillRule) (rule : OverlayRule) (precision other_precision : Precision) (held again : List (Entry Count)) →
    IsHeld least greatest held → o.keep_all ≡ true → o.least ≡ 0 → HoldsContours true (all_contours (overlay_of o fill rule precision held)) [] again
    → overlay_of o NonZero Subject other_precision again ≡ overlay_of o fill rule precision held

-- Each contour of such an answer meets itself in ends alone, no two of its edges the same.
abbrev pub AnswersAreResolved : Type 0
AnswersAreResolved =
    (least greatest : ℤ) (o : Answering) (fill : FillRule) (rule : OverlayRule) (precision : Precision) (held : List (Entry Count)) →
    IsHeld least greatest held → o.keep_all ≡ true → o.least ≡ 0 → All IsResolved (all_contours (overlay_of o fill rule precision held))

-- An answer without a least area, held alone, thinned or with all its points, and overlaid by `Subject` and `NonZero` in the same direction at any
-- precision, winds round every rational point as it did, whether or not its points were kept or its contours parted.
abbrev pub AnswersComeBackWinding : Type 0
AnswersComeBackWinding =
    (least greatest other_least other_greatest : ℤ) (keep_all : Bool) (o other : Answering) (fill : FillRule) (rule : OverlayRule)
    (precision other_precision : Precision) (held again : List (Entry Count)) (p : RationalPoint) →
    IsHeld least greatest held → IsHeld other_least other_greatest again → o.least ≡ 0 → other.least ≡ 0 → other.clockwise ≡ o.clockwise →
    HoldsContours keep_all (all_contours (overlay_of o fill rule precision held)) [] again → IsRational p
    → contour_winding (all_contours (overlay_of other NonZero Subject other_precision again)) p
    ≡ contour_winding (all_contours (overlay_of o fill rule precision held)) p
