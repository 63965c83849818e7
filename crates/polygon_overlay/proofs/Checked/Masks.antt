-- What one mask has without another winds round that, at each rational point.
use Rattle.std.proofs.Common.{◌≡◌, ◌⊎◌, inl, inr, Bool, true, false, not, ◌&&◌, List, ℤ, pos, refl, sym, ap, ◌∙◌, subst}
use Rattle.std.proofs.lemmas.Bool.{false≢true}
use Rattle.plane_base.specs.Plane.{Point, RationalPoint, IsRational}
use Rattle.plane_base.specs.Counts.{Count, Entry}
use Rattle.plane_base.specs.Regions.{Positive, Difference, is_filled}
use Rattle.plane_base.specs.Windings.{contour_winding}
use Rattle.segment_split.specs.declared.solver.Precision.{Precision}
use Rattle.contour_walk.specs.Answering.{answering_of}
use Rattle.contour_walk.specs.BindingLaws.{all_contours}
use Rattle.contour_walk.specs.ShapeViews.{is_clockwise}
use Rattle.contour_walk.specs.WalkLaws.{turns_of}
use Rattle.contour_walk.specs.declared.options.IntOverlayOptions.{IntOverlayOptions}
use Rattle.polygon_overlay.specs.Asking.{IsAnswered}
use Rattle.polygon_overlay.specs.Builders.{HoldsBoth, IsHeld}
use Rattle.polygon_overlay.specs.Calls.{AreInRange}
use Rattle.polygon_overlay.specs.CheckCalls.{IsDifferenceOf}
use Rattle.polygon_overlay.specs.OverlayLaws.{HoldsContours, HoldingGoesOn, SourcesAreHeld}
use Rattle.polygon_overlay.specs.Overlays.{once}
use Rattle.polygon_overlay.specs.Sizing.{IsFilledBy, WindWhere}
use Rattle.polygon_overlay.specs.TileLaws.{AnswersStayRectilinear, StraightMapsAnswerTheirRegion}
use Rattle.polygon_overlay.specs.Tiles.{AreRectilinear}
use Rattle.polygon_overlay.proofs.Tiles.Straight.{keys_straight}

turns_once : (output : Bool) → turns_of output true ≡ once output
turns_once true = refl
turns_once false = refl

turns_none : (output : Bool) → turns_of output false ≡ pos 0
turns_none true = refl
turns_none false = refl

module _ (law : StraightMapsAnswerTheirRegion) (level : AnswersStayRectilinear) (least greatest : ℤ) where
  module _ (goes_on : HoldingGoesOn) (are_held : SourcesAreHeld) (options : IntOverlayOptions) (precision : Precision) (one other : List (List Point))
      (in_range : AreInRange least greatest one) (other_in_range : AreInRange least greatest other) (straight : AreRectilinear one)
      (other_straight : AreRectilinear other) (shapes : List (List (List Point))) (held : List (Entry Count))
      (holds : HoldsBoth options.preserve_input_collinear one other held) (is : IsAnswered least greatest options Positive Difference precision held shapes)
    where
      held_contours : HoldsContours options.preserve_input_collinear one other held
      held_contours = goes_on.of_both options.preserve_input_collinear one other held holds

      is_held : IsHeld least greatest held
      is_held = are_held least greatest options.preserve_input_collinear one other held in_range other_in_range held_contours

      winds_so : options.min_output_area ≡ 0 → (p : RationalPoint) → IsRational p
          → contour_winding (all_contours shapes) p
          ≡ turns_of (is_clockwise options.output_direction) (is_filled Positive (contour_winding one p) && not (is_filled Positive (contour_winding other p)))
      winds_so none p some =
          ap (λ ss. contour_winding (all_contours ss) p) is.canonical
          ∙ law least greatest options.preserve_input_collinear one other held (answering_of options) Positive Difference precision p straight other_straight
          held_contours
          is_held none some

      winds_where : options.min_output_area ≡ 0
          → WindWhere (once (is_clockwise options.output_direction)) (λ p. IsFilledBy Positive one p × (IsFilledBy Positive other p → ⊥)) (all_contours shapes)
      winds_where none p some =
          by (is_clockwise options.output_direction) (is_filled Positive (contour_winding one p)) (is_filled Positive (contour_winding other p))
          (contour_winding (all_contours shapes) p)
          (winds_so none p some)
        where
          by : (output a b : Bool) (w : ℤ) → w ≡ turns_of output (a && not b)
              → (((a ≡ true) × (b ≡ true → ⊥)) × (w ≡ once output)) ⊎ (((a ≡ true) × (b ≡ true → ⊥) → ⊥) × (w ≡ pos 0))
          by output true false w e = inl ((refl, λ h. false≢true h), e ∙ turns_once output)
          by output true true w e = inr (λ (h, k). k refl, e ∙ turns_none output)
          by output false b w e = inr (λ (h, k). false≢true h, e ∙ turns_none output)

      pub difference_is : IsDifferenceOf least greatest options precision one other shapes
      difference_is = record {
        held = held;
        holds = holds;
        is = is;
        winds = winds_where;
        straight = λ none. subst (λ ss. AreRectilinear (all_contours ss)) (sym is.canonical)
            (level least greatest (answering_of options) Positive Difference precision held is_held none
            (keys_straight options.preserve_input_collinear one other held held_contours straight other_straight));
      }
