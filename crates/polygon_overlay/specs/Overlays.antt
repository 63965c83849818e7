-- What an overlay answers.
use Rattle.std.specs.Prelude.{◌≡◌, ◌⊎◌, ⊤, ◌^◌, ◌<◌, ℤ, pos, negsuc, Bool, true, false, cond, List, length, All}
use Rattle.plane_base.specs.Plane.{Point, RationalPoint, IsRational, IsWithin}
use Rattle.plane_base.specs.Counts.{Count as Windings, Entry, boolean, normal}
use Rattle.plane_base.specs.Windings.{winding, contour_winding, IsOff}
use Rattle.plane_base.specs.Regions.{FillRule, OverlayRule, region}
use Rattle.plane_base.specs.declared.fault.Fault.{Fault}
use Rattle.plane_base.specs.declared.fault.Fault.TheVariants.{Memory, Count, Edges, Failed}
use Rattle.segment_split.specs.Kinds.{count_fits}
use Rattle.segment_split.specs.Passes.{edges_of}
use Rattle.segment_split.specs.Redrawing.{redrawn}
use Rattle.segment_split.specs.Refusals.{CountsTooMuch, LaysTooMany}
use Rattle.segment_split.specs.declared.solver.Precision.{Precision}
use Rattle.segment_split.specs.WholeLaws.{AllMeetWhole}
use Rattle.segment_arrangement.specs.Sweeps.{HasSideOutOfRange}
use Rattle.contour_walk.specs.Answering.{Answering, answer_with, AnswersThoseLeft}
use Rattle.contour_walk.specs.Orderly.{AreOrderly}
use Rattle.contour_walk.specs.WalkLaws.{borders}
use Rattle.contour_walk.specs.BindingLaws.{all_contours}
use Rattle.contour_walk.specs.AnswerLaws.{all_points}
use Rattle.polygon_overlay.specs.Builders.{IsHeld}

-- the map that a query redraws, by the precision alone
abbrev pub redrawn_of : Precision → List (Entry Windings) → List (Entry Windings)
redrawn_of precision held = redrawn boolean precision (normal boolean held)

-- how often an answer winds round its region
abbrev pub once : Bool → ℤ
once clockwise = cond clockwise (negsuc 0) (pos 1)

-- Off the edges of a map the contours wind once, in the output direction, round every point of the region of its windings, and zero
-- times round every other point.
pub record WindsOnce (clockwise : Bool) (fill : FillRule) (rule : OverlayRule) (es : List (Entry Windings)) (contours : List (List Point)) : Type 0 where
  pub inside : (p : RationalPoint) → IsRational p → IsOff es p → region fill rule (winding es p) ≡ true → contour_winding contours p ≡ once clockwise
  pub outside : (p : RationalPoint) → IsRational p → IsOff es p → region fill rule (winding es p) ≡ false → contour_winding contours p ≡ pos 0

-- The same of the windings of another map: that of what was held before it was redrawn.
pub record WindsAsHeld (clockwise : Bool) (fill : FillRule) (rule : OverlayRule) (es held : List (Entry Windings)) (contours : List (List Point)) : Type 0 where
  pub inside : (p : RationalPoint) → IsRational p → IsOff es p → region fill rule (winding held p) ≡ true → contour_winding contours p ≡ once clockwise
  pub outside : (p : RationalPoint) → IsRational p → IsOff es p → region fill rule (winding held p) ≡ false → contour_winding contours p ≡ pos 0

-- No two edges of what is held cross properly, but at a whole point.
abbrev pub MeetsWhole : List (Entry Windings) → Type 0
MeetsWhole held = AllMeetWhole (edges_of (normal boolean held))

-- ---- answers

-- An overlay of what is held, whose redrawn map is es: the canonical answer for the boundary of the region, parted or not, as far as it
-- reaches the least area.
pub record IsOverlay (low high : ℤ) (o : Answering) (fill : FillRule) (rule : OverlayRule) (es held : List (Entry Windings))
    (shapes : List (List (List Point))) : Type 0 where
  -- Where there is no least area, the contours wind once round the region of the redrawn map, in the output direction.
  pub winds : o.least ≡ 0 → WindsOnce o.clockwise fill rule es (all_contours shapes)
  -- Where no two held edges cross properly, but at whole points, they wind so round the region of what was held: of the given
  -- windings, with points thinned or kept.
  pub given : o.least ≡ 0 → MeetsWhole held → WindsAsHeld o.clockwise fill rule es held (all_contours shapes)
  -- Each link of the boundary is passed once, least points stand where they should, and exactly what is passed straight is gone.
  pub orderly : o.least ≡ 0 → AreOrderly o.clockwise o.keep_all (borders fill rule es) shapes
  -- Where there is a least area, they are the outlines that reach it, with their holes that do.
  pub least : AnswersThoseLeft o (borders fill rule es) shapes
  pub canonical : shapes ≡ answer_with o (borders fill rule es)
  -- All their points are in range, and there are fewer than 2^31 of them.
  pub in_range : All (All (IsWithin low high)) (all_contours shapes)
  pub few : length (all_points (all_contours shapes)) < 2 ^ 31

-- The canonical answer for what is held is an overlay of it, where the redrawn map has fewer than 2^31 edges.
abbrev pub AnswersAreOverlays : Type 0
AnswersAreOverlays =
    (least greatest : ℤ) (o : Answering) (fill : FillRule) (rule : OverlayRule) (precision : Precision) (held : List (Entry Windings))
    (shapes : List (List (List Point))) → IsHeld least greatest held → length (redrawn_of precision held) < 2 ^ 31
    → shapes ≡ answer_with o (borders fill rule (redrawn_of precision held))
    → IsOverlay least greatest o fill rule (redrawn_of precision held) held shapes

-- ---- refusals

-- Memory was refused to the sweep of a map or to walks along its boundary, or its windings leave their range.
abbrev pub IsSweepRefused : List (Entry Windings) → Fault → Type 0
IsSweepRefused es fault = (fault ≡ Memory) ⊎ ((fault ≡ Count) × HasSideOutOfRange es)

-- Memory may always be refused. `Count` is where joined counts leave their range, or windings of the redrawn map do; `Edges` where a
-- pass lays 2^31 steps or more.
abbrev pub IsQueryRefused : Precision → List (Entry Windings) → Fault → Type 0
IsQueryRefused precision held Memory = ⊤
IsQueryRefused precision held Count = CountsTooMuch boolean count_fits precision held ⊎ HasSideOutOfRange (redrawn_of precision held)
IsQueryRefused precision held Edges = LaysTooMany boolean precision (normal boolean held)
IsQueryRefused precision held Failed = ⊥
