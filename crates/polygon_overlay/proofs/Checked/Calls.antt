-- The calls of a check, put together.
use Rattle.std.proofs.Common.{◌≡◌, inr, Bool, false, List, ℤ, pos, neg_ℤ, ◌≤ℤ◌, sym, ap, ◌∙◌, subst, arith}
use Rattle.std.proofs.lemmas.Int.{ints}
use Rattle.plane_base.specs.Plane.{Point, IsCoordinate}
use Rattle.plane_base.specs.Counts.{Count, Entry}
use Rattle.plane_base.specs.Regions.{FillRule, Positive, Difference}
use Rattle.plane_base.specs.declared.fault.Fault.{Fault}
use Rattle.segment_split.specs.Holdings.{IsRefusedBy}
use Rattle.segment_split.specs.declared.solver.Precision.{Precision}
use Rattle.segment_split.specs.declared.solver.Solver.{Solver}
use Rattle.contour_walk.specs.declared.options.IntOverlayOptions.{IntOverlayOptions}
use Rattle.polygon_overlay.specs.Asking.{IsAnswered}
use Rattle.polygon_overlay.specs.Builders.{HoldsBoth}
use Rattle.polygon_overlay.specs.Calls.{AreInRange}
use Rattle.polygon_overlay.specs.CheckCalls.{IsMovedInTurn, IsNotMovedInTurn, IsDifferenceOf, IsNoDifference, AreWidthErrors, AreSpaceErrors}
use Rattle.polygon_overlay.specs.Checks.{IsSide, halves, opposite}
use Rattle.polygon_overlay.specs.Overlays.{IsQueryRefused}
use Rattle.polygon_overlay.specs.Sizing.{Amounts, IsSized, IsFilledBy}
use Rattle.polygon_overlay.specs.SizingCalls.{FitsInTurn}
use Rattle.polygon_overlay.specs.SizingLaws.{IsRegionOf, FillJust, MovedFillTheSized, RegionsStayInTheBox}
use Rattle.polygon_overlay.specs.Tiles.{AreRectilinear}
use Rattle.polygon_overlay.proofs.Checked.Answers.{width_errors, space_errors}
use Rattle.polygon_overlay.proofs.Checked.Room.{half, rest, halves_are}
use Rattle.polygon_overlay.proofs.Sized.InTurn.{fill_in_turn}
use Rattle.polygon_overlay.proofs.Sized.Kept.{region_fits, shifted_in_range, fits_again}

-- ---- amounts

module _ (least greatest side : ℤ) (is : IsSide least greatest side) (by : Amounts) (are : by ≡ halves side) where
  negated_between : (a r s : ℤ) → pos 0 ≤ℤ a → a ≤ℤ r → r ≤ℤ s → s ≤ℤ greatest → least ≤ℤ neg_ℤ s → pos 1 ≤ℤ s → IsCoordinate least greatest (neg_ℤ a)
  negated_between a r s l m n k h o = (omega (arith, ints), omega (arith, ints))

  level : (x : ℤ) → x ≤ℤ x
  level x = omega (arith, ints)

  through : (x y z : ℤ) → x ≤ℤ y → y ≤ℤ z → x ≤ℤ z
  through x y z l m = omega (arith, ints)

  pub left_negated : IsCoordinate least greatest (neg_ℤ by.left)
  left_negated =
      let h = halves_are side is.some in
      subst (λ (b : Amounts). IsCoordinate least greatest (neg_ℤ b.left)) (sym are)
      (negated_between (half side is.some) (rest side is.some) side h.0 h.1 h.3 is.on.1 is.back.0 is.some)

  pub right_negated : IsCoordinate least greatest (neg_ℤ by.right)
  right_negated =
      let h = halves_are side is.some in
      subst (λ (b : Amounts). IsCoordinate least greatest (neg_ℤ b.right)) (sym are)
      (negated_between (rest side is.some) (rest side is.some) side (through (pos 0) (half side is.some) (rest side is.some) h.0 h.1)
      (level (rest side is.some)) h.3 is.on.1
      is.back.0 is.some)

  pub are_opposite : (x y : ℤ) → x ≡ neg_ℤ by.left → y ≡ neg_ℤ by.right → record { left = x; right = y; bottom = x; top = y } ≡ opposite (halves side)
  are_opposite x y e f = λ i. record {
    left = (e ∙ ap (λ (b : Amounts). neg_ℤ b.left) are) i;
    right = (f ∙ ap (λ (b : Amounts). neg_ℤ b.right) are) i;
    bottom = (e ∙ ap (λ (b : Amounts). neg_ℤ b.left) are) i;
    top = (f ∙ ap (λ (b : Amounts). neg_ℤ b.right) are) i;
  }

module _ (least greatest : ℤ) where
  -- ---- what one has without the other

  module _ (options its_options : IntOverlayOptions) (solver its_solver : Solver) (e : its_options ≡ options) (f : its_solver ≡ solver)
      (one other : List (List Point))
      (held : List (Entry Count)) where
    pub answered_by : (shapes : List (List (List Point))) → IsAnswered least greatest its_options Positive Difference its_solver.precision held shapes
        → IsAnswered least greatest options Positive Difference solver.precision held shapes
    answered_by shapes is =
        subst (λ o. IsAnswered least greatest o Positive Difference solver.precision held shapes) e
        (subst (λ (s : Solver). IsAnswered least greatest its_options Positive Difference s.precision held shapes) f is)

    pub refused_by : HoldsBoth options.preserve_input_collinear one other held → (is_failed : Bool) (fault : Fault) → is_failed ≡ false
        → IsRefusedBy is_failed (IsQueryRefused its_solver.precision held) fault
        → IsNoDifference options.preserve_input_collinear solver.precision one other fault
    refused_by holds is_failed fault h why =
        inr (
          held,
          holds,
          subst (λ (s : Solver). IsQueryRefused s.precision held fault) f
              (subst (λ b. IsRefusedBy b (IsQueryRefused its_solver.precision held) fault) h why),
        )

  -- ---- a region, moved twice

  module _ (stay : RegionsStayInTheBox) (first second : Amounts) (precision : Precision) (region shifted : List (List Point))
      (moves : IsMovedInTurn least greatest first second precision region shifted) (fit : FitsInTurn least greatest first second region) where
    pub in_turn_in_range : AreInRange least greatest shifted
    in_turn_in_range =
        shifted_in_range stay least greatest second moves.again.region
        (region_fits stay least greatest Positive precision moves.between moves.again.region moves.again.of_region second
        (fits_again stay least greatest first second region fit precision moves.between moves.once)) precision shifted moves.again.moves

  pub in_turn_by : (first second one other : Amounts) (precision : Precision) (region shifted : List (List Point)) → first ≡ one → second ≡ other
      → IsMovedInTurn least greatest first second precision region shifted → IsMovedInTurn least greatest one other precision region shifted
  in_turn_by first second one other precision region shifted e f moves =
      subst (λ b. IsMovedInTurn least greatest one b precision region shifted) f
      (subst (λ b. IsMovedInTurn least greatest b second precision region shifted) e moves)

  pub not_in_turn_by : (first second one other : Amounts) (precision : Precision) (region : List (List Point)) (fault its : Fault) → first ≡ one
      → second ≡ other → its ≡ fault
      → IsNotMovedInTurn least greatest first second precision region fault → IsNotMovedInTurn least greatest one other precision region its
  not_in_turn_by first second one other precision region fault its e f g why =
      subst (IsNotMovedInTurn least greatest one other precision region) (sym g)
      (subst (λ b. IsNotMovedInTurn least greatest one b precision region fault) f
      (subst (λ b. IsNotMovedInTurn least greatest b second precision region fault) e why))

  pub fits_by : (first second one other : Amounts) (region : List (List Point)) → first ≡ one → second ≡ other → FitsInTurn least greatest one other region
      → FitsInTurn least greatest first second region
  fits_by first second one other region e f fit =
      subst (λ b. FitsInTurn least greatest b second region) (sym e) (subst (λ b. FitsInTurn least greatest one b region) (sym f) fit)

  -- ---- widths and spaces

  module _ (law : MovedFillTheSized) (side : ℤ) (some : pos 1 ≤ℤ side) (fill : FillRule) (precision : Precision) (contours : List (List Point))
      (straight : AreRectilinear contours) (mask : List (List Point)) (of : IsRegionOf least greatest fill precision contours mask) where
    fill_just : FillJust (IsFilledBy fill contours) mask
    fill_just = law.region least greatest fill precision contours mask straight of

    pub mask_straight : AreRectilinear mask
    mask_straight = fill_just.straight

    module _ (first second : Amounts) (shifted : List (List Point)) (moves : IsMovedInTurn least greatest first second precision mask shifted) where
      once_fills : FillJust (IsSized first (IsFilledBy fill contours)) moves.between
      once_fills = law.moved least greatest first fill precision contours moves.between straight (record { region = mask; of_region = of; moves = moves.once })

      twice_fill : FillJust (IsSized second (IsSized first (IsFilledBy fill contours))) shifted
      twice_fill =
          fill_in_turn first second (IsFilledBy fill contours) moves.between shifted once_fills
          (law.moved least greatest second Positive precision moves.between shifted once_fills.straight moves.again)

      pub twice_straight : AreRectilinear shifted
      twice_straight = twice_fill.straight

    pub widths_told : (options : IntOverlayOptions) (opened : List (List Point)) (shapes : List (List (List Point)))
        → IsMovedInTurn least greatest (opposite (halves side)) (halves side) precision mask opened
        → IsDifferenceOf least greatest options precision mask opened shapes → AreWidthErrors least greatest side options fill precision contours shapes
    widths_told options opened shapes moves is = record {
      mask = mask;
      of_region = of;
      opened = opened;
      moves = moves;
      is = is;
      winds = λ none. width_errors side some fill contours straight mask fill_just _ opened shapes
          (twice_fill (opposite (halves side)) (halves side) opened moves)
          (is.winds none);
      straight = is.straight;
    }

    pub spaces_told : (options : IntOverlayOptions) (closed : List (List Point)) (shapes : List (List (List Point)))
        → IsMovedInTurn least greatest (halves side) (opposite (halves side)) precision mask closed
        → IsDifferenceOf least greatest options precision closed mask shapes → AreSpaceErrors least greatest side options fill precision contours shapes
    spaces_told options closed shapes moves is = record {
      mask = mask;
      of_region = of;
      closed = closed;
      moves = moves;
      is = is;
      winds = λ none. space_errors side some fill contours straight moves.between (once_fills (halves side) (opposite (halves side)) closed moves) _ mask
          closed shapes
          fill_just (twice_fill (halves side) (opposite (halves side)) closed moves) (is.winds none);
      straight = is.straight;
    }
