-- What one mask has without another, at every rational point.
use Rattle.std.proofs.Common.{◌≡◌, ◌⊎◌, inl, inr, Bool, true, false, not, cond, ◌&&◌, List, ℤ, pos, refl, sym, ap, ◌∙◌}
use Rattle.std.proofs.lemmas.Bool.{false≢true}
use Rattle.polygon_overlay.specs.Answering.{answering_of}
use Rattle.polygon_overlay.specs.BindingLaws.{all_contours}
use Rattle.polygon_overlay.specs.Builders.{default_options, default_precision}
use Rattle.polygon_overlay.specs.OverlayLaws.{HoldsContours, HoldingGoesOn, SourcesAreHeld}
use Rattle.polygon_overlay.specs.Plane.{Point, RationalPoint, IsRational}
use Rattle.polygon_overlay.specs.Regions.{NonZero, Difference, is_filled}
use Rattle.polygon_overlay.specs.Singles.{IsSingleOverlay}
use Rattle.polygon_overlay.specs.Sizing.{IsFilledBy}
use Rattle.polygon_overlay.specs.TileLaws.{StraightMapsAnswerTheirRegion}
use Rattle.polygon_overlay.specs.Windings.{contour_winding}
use Rattle.uses.specs.Rules.{IsMask, AreRest}

module _ (law : StraightMapsAnswerTheirRegion) (goes_on : HoldingGoesOn) (are_held : SourcesAreHeld) (least greatest : ℤ) (one other : List (List Point))
    (is_one : IsMask least greatest one) (is_other : IsMask least greatest other) (shapes : List (List (List Point)))
    (overlay : IsSingleOverlay least greatest NonZero Difference one other shapes) where
  held : HoldsContours false one other overlay.held
  held = goes_on.of_both false one other overlay.held overlay.holds

  winds_so : (p : RationalPoint) → IsRational p
      → contour_winding (all_contours shapes) p ≡ cond (is_filled NonZero (contour_winding one p) && not (is_filled NonZero (contour_winding other p))) (pos 1) (pos 0)
  winds_so p some =
      ap (λ ss. contour_winding (all_contours ss) p) overlay.is.canonical
      ∙ law least greatest false one other overlay.held (answering_of default_options) NonZero Difference default_precision p is_one.straight is_other.straight held
      (are_held least greatest false one other overlay.held is_one.in_range is_other.in_range held) refl some

  pub are_rest : AreRest one other shapes
  are_rest p some = by (is_filled NonZero (contour_winding one p)) (is_filled NonZero (contour_winding other p)) refl refl (winds_so p some)
    where
      by : (a b : Bool) → is_filled NonZero (contour_winding one p) ≡ a → is_filled NonZero (contour_winding other p) ≡ b
          → contour_winding (all_contours shapes) p ≡ cond (a && not b) (pos 1) (pos 0)
          → ((IsFilledBy NonZero one p × (IsFilledBy NonZero other p → ⊥)) × (contour_winding (all_contours shapes) p ≡ pos 1))
          ⊎ ((IsFilledBy NonZero one p × (IsFilledBy NonZero other p → ⊥) → ⊥) × (contour_winding (all_contours shapes) p ≡ pos 0))
      by true false e f g = inl ((e, λ h. false≢true (sym f ∙ h)), g)
      by true true e f g = inr (λ (h, k). k f, g)
      by false b e f g = inr (λ (h, k). false≢true (sym e ∙ h), g)
