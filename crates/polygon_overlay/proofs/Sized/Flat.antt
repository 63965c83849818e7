-- Regions whose contours are laid flat: those of the answer's shapes, in another order.
use Rattle.std.proofs.Common.{◌≡◌, ℕ, zero, suc, ◌/◌, true, false, cond, nat_le, unsigned_abs, List, [], ◌∷◌, map, filter, flat_map, All, IsPermutation, ℤ, pos, ◌≤ℤ◌, refl, sym, ap, ◌∙◌, subst, arith}
use Rattle.std.proofs.lemmas.List.Elements.{All-nil}
use Rattle.std.proofs.lemmas.List.Sorted.{All-permutation, IsPermutation-sym}
use Rattle.plane_base.specs.Plane.{Point, Edge, RationalPoint}
use Rattle.plane_base.specs.Areas.{area}
use Rattle.plane_base.specs.Balance.{IsBalancedMap}
use Rattle.plane_base.specs.Counts.{Count, Entry, boolean}
use Rattle.plane_base.specs.Regions.{FillRule, Subject}
use Rattle.plane_base.specs.Totals.{total}
use Rattle.plane_base.specs.Windings.{contour_winding}
use Rattle.plane_base.proofs.Facts.Lists.Totals.{total_flat_map, total_permutation}
use Rattle.plane_base.proofs.Facts.Windings.Sums.{contour_winding_permutation}
use Rattle.segment_split.specs.Groups.{LiesWithin}
use Rattle.segment_split.specs.Redrawing.{redrawn}
use Rattle.segment_split.specs.RedrawLaws.{Rearranges, RedrawsToTheEnd}
use Rattle.segment_split.specs.declared.solver.Precision.{Precision}
use Rattle.segment_arrangement.specs.SideLaws.{IsArrangement}
use Rattle.contour_walk.specs.Answering.{answering_of, ZeroKeepsAll}
use Rattle.contour_walk.specs.BindingLaws.{all_contours, AnswerHasAllWalks}
use Rattle.contour_walk.specs.Least.{reaches}
use Rattle.contour_walk.specs.Shapes.{finished}
use Rattle.contour_walk.specs.WalkLaws.{borders, contours_of, contour_steps}
use Rattle.polygon_overlay.specs.BoxLaws.{AnswersStayInTheBox}
use Rattle.polygon_overlay.specs.Builders.{default_options}
use Rattle.polygon_overlay.specs.FlatCalls.{flat_overlay_of}
use Rattle.polygon_overlay.specs.OverlayLaws.{overlay_of}
use Rattle.polygon_overlay.specs.Overlays.{redrawn_of}
use Rattle.polygon_overlay.specs.SizingLaws.{RegionsStayInTheBox}
use Rattle.polygon_overlay.proofs.Answering.ArrangementLaws.{redrawn_arrangement}

zero_least : (n : ℕ) → nat_le 0 n ≡ true
zero_least zero = refl
zero_least (suc n) = grind arith

all_reach : (cs : List (List Point)) → filter (reaches 0) cs ≡ cs
all_reach [] = refl
all_reach (c ∷ cs) =
    ap (λ b. cond b (c ∷ filter (reaches 0) cs) (filter (reaches 0) cs)) (zero_least (unsigned_abs (area c) / 2)) ∙ ap (λ ds. c ∷ ds) (all_reach cs)

module _ (all : AnswerHasAllWalks) (zero_keeps : ZeroKeepsAll) (fill : FillRule) (precision : Precision) (held : List (Entry Count))
    (arranged : IsArrangement (redrawn_of precision held)) where
  abbrev flat : List (List Point)
  flat = flat_overlay_of default_options fill Subject precision held

  abbrev shaped : List (List Point)
  shaped = all_contours (overlay_of (answering_of default_options) fill Subject precision held)

  flat_is_shaped : IsPermutation flat shaped
  flat_is_shaped =
      let links = borders fill Subject (redrawn_of precision held) in
      subst (λ cs. IsPermutation cs shaped) (sym (ap (map (finished false)) (all_reach (contours_of false links))))
      (subst (λ ss. IsPermutation (map (finished false) (contours_of false links)) (all_contours ss))
      (sym (zero_keeps (answering_of default_options) links refl refl))
      (all fill Subject (redrawn_of precision held) false false arranged))

  pub flat_holds : (P : List Point → Type 0) → All P shaped → All P flat
  flat_holds P h = All-permutation P shaped flat (IsPermutation-sym flat shaped flat_is_shaped) h

  pub flat_winds : (p : RationalPoint) → contour_winding flat p ≡ contour_winding shaped p
  flat_winds p = sym (contour_winding_permutation flat shaped p flat_is_shaped)

  pub flat_steps : (g : Edge → ℤ) → total g (flat_map contour_steps shaped) ≤ℤ pos 1 → total g (flat_map contour_steps flat) ≤ℤ pos 1
  flat_steps g few =
      subst (λ n. n ≤ℤ pos 1)
      (total_flat_map g contour_steps shaped
      ∙ (total_permutation (λ c. total g (contour_steps c)) flat shaped flat_is_shaped ∙ sym (total_flat_map g contour_steps flat)))
      few

-- A region stays in each box of its contours.
module _ (rearranges : (precision : Precision) → Rearranges boolean (redrawn boolean precision)) (ends : (precision : Precision)
    → RedrawsToTheEnd boolean precision)
    (balanced : (precision : Precision) (es : List (Entry Count)) → IsBalancedMap es → IsBalancedMap (redrawn boolean precision es))
    (all : AnswerHasAllWalks) (zero_keeps : ZeroKeepsAll) (stay : AnswersStayInTheBox) where
  pub regions_stay : RegionsStayInTheBox
  regions_stay least greatest box fill precision contours region of within =
      subst (All (All (LiesWithin box))) (sym of.is)
      (flat_holds all zero_keeps fill precision of.held
      (redrawn_arrangement least greatest precision (rearranges precision) (ends precision) (balanced precision) of.held of.alone.is_held)
      (All (LiesWithin box))
      (stay.of_contours least greatest box false contours [] (answering_of default_options) fill Subject precision of.held of.alone.holds of.alone.is_held
      within
      (All-nil (All (LiesWithin box)))))
