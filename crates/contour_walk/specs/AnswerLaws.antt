-- What the points of an answer keep to.
use Rattle.std.specs.Prelude.{◌⊎◌, ◌≡◌, ◌≤◌, true, List, flat_map, length, All, AllPairs, Contains}
use Rattle.plane_base.specs.Plane.{Point}
use Rattle.plane_base.specs.Counts.{Count, Entry}
use Rattle.plane_base.specs.Regions.{FillRule, OverlayRule}
use Rattle.segment_arrangement.specs.SideLaws.{IsArrangement}
use Rattle.contour_walk.specs.Walks.{Border}
use Rattle.contour_walk.specs.WalkLaws.{borders}
use Rattle.contour_walk.specs.LoopLaws.{Apart}
use Rattle.contour_walk.specs.BindingLaws.{all_contours, WindEverywhere}
use Rattle.contour_walk.specs.Answering.{Answering, answer_with}

-- the point is an end of an edge of the map
abbrev pub IsEndIn : List (Entry Count) → Point → Type 0
IsEndIn es p = (e : Entry Count) × Contains es e × ((e.edge.a ≡ p) ⊎ (e.edge.b ≡ p))

-- Each point of the answer is an end of an edge of the arrangement.
abbrev pub AnswersStandOnEnds : Type 0
AnswersStandOnEnds =
    (o : Answering) (fill : FillRule) (rule : OverlayRule) (es : List (Entry Count)) → IsArrangement es
    → All (All (IsEndIn es)) (all_contours (answer_with o (borders fill rule es)))

-- the points of contours, one contour after the other
abbrev pub all_points : List (List Point) → List Point
all_points contours = flat_map (λ contour. contour) contours

-- All contours of the answer together have no more points than the boundary has links.
abbrev pub AnswersAreShort : Type 0
AnswersAreShort =
    (o : Answering) (fill : FillRule) (rule : OverlayRule) (es : List (Entry Count)) → IsArrangement es
    → length (all_points (all_contours (answer_with o (borders fill rule es)))) ≤ length (borders fill rule es)

-- Where there is no least area, the shapes of the answer wind once round each point of the region, in the output direction, and round no
-- other, parted or not.
abbrev pub AnswersWind : Type 0
AnswersWind =
    (o : Answering) (fill : FillRule) (rule : OverlayRule) (es : List (Entry Count)) → IsArrangement es → o.least ≡ 0
    → WindEverywhere fill rule es o.clockwise (all_contours (answer_with o (borders fill rule es)))

-- No contour of a parted answer comes to a point twice, whatever the links.
abbrev pub PartedAnswersRepeatNoPoint : Type 0
PartedAnswersRepeatNoPoint = (o : Answering) (links : List Border) → o.parted ≡ true → All (All (AllPairs Apart)) (answer_with o links)
