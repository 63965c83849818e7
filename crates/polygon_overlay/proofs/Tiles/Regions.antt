-- What is held of contours clamped into a tile is answered by the region in the tile.
use Rattle.std.proofs.Common.{◌≡◌, Bool, true, false, cond, ◌&&◌, List, map, All, ℤ, pos, refl, ap, ap₂, ◌∙◌}
use Rattle.std.proofs.lemmas.List.Elements.{All-weaker}
use Rattle.plane_base.specs.Plane.{Point, RationalPoint, IsRational}
use Rattle.plane_base.specs.Balance.{IsBalancedMap}
use Rattle.plane_base.specs.Counts.{Count, Entry, boolean}
use Rattle.plane_base.specs.Regions.{FillRule, OverlayRule, region}
use Rattle.plane_base.specs.Windings.{contour_winding}
use Rattle.plane_base.proofs.Facts.Windings.Sums.{region_of_nothing}
use Rattle.segment_split.specs.Groups.{Bounds}
use Rattle.segment_split.specs.LineLaws.{AllRectilinear, HorizontalAndVerticalMeetWhole}
use Rattle.segment_split.specs.Redrawing.{redrawn}
use Rattle.segment_split.specs.RedrawLaws.{Rearranges, RedrawsToTheEnd}
use Rattle.segment_split.specs.WholeLaws.{WholeMeetingsKeepWindings}
use Rattle.segment_split.specs.declared.solver.Precision.{Precision}
use Rattle.segment_arrangement.specs.SideLaws.{FilledIsBounded}
use Rattle.contour_walk.specs.Answering.{Answering}
use Rattle.contour_walk.specs.AnswerLaws.{AnswersWind}
use Rattle.contour_walk.specs.BindingLaws.{all_contours}
use Rattle.contour_walk.specs.Orderly.{AnswersAreOrderly}
use Rattle.contour_walk.specs.WalkLaws.{contour_steps, turns_of}
use Rattle.polygon_overlay.specs.Builders.{IsHeld}
use Rattle.polygon_overlay.specs.GivenLaws.{HeldWindsAsGiven}
use Rattle.polygon_overlay.specs.Overlays.{redrawn_of}
use Rattle.polygon_overlay.specs.OverlayLaws.{HoldsContours, overlay_of}
use Rattle.polygon_overlay.specs.Tiles.{in_tile, clamped, KeepsTo, straight, AreRectilinear}
use Rattle.polygon_overlay.specs.TileLaws.{TilesAnswerTheirRegion}
use Rattle.polygon_overlay.proofs.Relating.AgreementLaws.{winds_as_contours}
use Rattle.polygon_overlay.proofs.Answering.ArrangementLaws.{redrawn_arrangement}
use Rattle.polygon_overlay.proofs.Tiles.Contours.{all_clamped}
use Rattle.polygon_overlay.proofs.Tiles.Straight.{contours_clamped, held_meets_whole, both_straight}

pub region_alike : (fill : FillRule) (rule : OverlayRule) {s t c d : ℤ} → s ≡ t → c ≡ d
    → region fill rule (record { subject = s; clip = c }) ≡ region fill rule (record { subject = t; clip = d })
region_alike fill rule e f = ap₂ (λ s c. region fill rule (record { subject = s; clip = c })) e f

-- horizontal and vertical steps keep to every tile
pub all_keep : (tile : Bounds) (cs : List (List Point)) → AreRectilinear cs → All (λ c. All (KeepsTo tile) (contour_steps c)) cs
all_keep tile cs all =
    All-weaker (λ c. AllRectilinear (contour_steps c)) (λ c. All (KeepsTo tile) (contour_steps c))
    (λ c h i d l. straight (h i d l)) cs all

module _ (rearranges : (precision : Precision) → Rearranges boolean (redrawn boolean precision)) (ends : (precision : Precision) → RedrawsToTheEnd boolean precision)
    (balanced : (precision : Precision) (es : List (Entry Count)) → IsBalancedMap es → IsBalancedMap (redrawn boolean precision es))
    (bounded : FilledIsBounded) (orderly : AnswersAreOrderly) (wind : AnswersWind) (keep : WholeMeetingsKeepWindings) (winds : HeldWindsAsGiven)
    (whole : HorizontalAndVerticalMeetWhole boolean) where
  -- the answer for horizontal and vertical contours winds round the region of their windings
  pub answer_winds :
      (least greatest : ℤ) (keep_all : Bool) (subjects clips : List (List Point)) (held : List (Entry Count)) (o : Answering) (fill : FillRule)
      (rule : OverlayRule) (precision : Precision) (p : RationalPoint) → AreRectilinear subjects → AreRectilinear clips →
      HoldsContours keep_all subjects clips held → IsHeld least greatest held → o.least ≡ 0 → IsRational p
      → contour_winding (all_contours (overlay_of o fill rule precision held)) p
      ≡ turns_of o.clockwise (region fill rule (record { subject = contour_winding subjects p; clip = contour_winding clips p }))
  answer_winds least greatest keep_all subjects clips held o fill rule precision p of_subjects of_clips holds is_held none some =
      wind o fill rule (redrawn_of precision held)
      (redrawn_arrangement least greatest precision (rearranges precision) (ends precision) (balanced precision) held is_held) none p some
      ∙ ap (λ w. turns_of o.clockwise (region fill rule w))
      (winds_as_contours rearranges ends balanced bounded orderly keep winds least greatest keep_all subjects clips held precision p holds is_held
      (held_meets_whole keep_all subjects clips held holds of_subjects of_clips whole least greatest is_held))

  pub tiles_answer_their_region : TilesAnswerTheirRegion
  tiles_answer_their_region least greatest keep_all tile subjects clips part o fill rule precision p is all holds is_held none some =
      answer_winds least greatest keep_all (map (clamped tile) subjects) (map (clamped tile) clips) part o fill rule precision p
      (contours_clamped tile subjects (both_straight subjects clips all).0) (contours_clamped tile clips (both_straight subjects clips all).1) holds is_held none some
      ∙ (ap (turns_of o.clockwise)
      (region_alike fill rule (all_clamped tile is p subjects (all_keep tile subjects (both_straight subjects clips all).0))
      (all_clamped tile is p clips (all_keep tile clips (both_straight subjects clips all).1)))
      ∙ ap (turns_of o.clockwise) (by (in_tile tile p) (contour_winding subjects p) (contour_winding clips p)))
    where
      by : (b : Bool) (s c : ℤ) → region fill rule (record { subject = cond b s (pos 0); clip = cond b c (pos 0) }) ≡ b && region fill rule (record { subject = s; clip = c })
      by true s c = refl
      by false s c = region_of_nothing fill rule
