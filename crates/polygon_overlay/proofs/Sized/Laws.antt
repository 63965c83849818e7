-- What is answered for moved contours of an answer: the sized region.
use Rattle.std.proofs.Common.{◌≡◌, ◌⊎◌, inl, inr, Bool, true, false, cond, List, [], map, ℤ, pos, ◌<ℤ◌, int_lt, refl, sym, ap, ◌∙◌, subst, arith}
use Rattle.std.proofs.lemmas.Int.{ints}
use Rattle.std.proofs.lemmas.Bool.{false≢true}
use Rattle.std.proofs.lemmas.List.Elements.{All-nil}
use Rattle.plane_base.specs.Plane.{Point, RationalPoint, IsRational}
use Rattle.plane_base.specs.Balance.{IsBalancedMap}
use Rattle.plane_base.specs.Counts.{Count, Entry, boolean, normal}
use Rattle.plane_base.specs.Regions.{FillRule, Positive, Subject, is_filled, region}
use Rattle.plane_base.specs.Windings.{winding, contour_winding}
use Rattle.segment_split.specs.LineLaws.{AllRectilinear, HorizontalAndVerticalMeetWhole, RedrawsByLines}
use Rattle.segment_split.specs.Passes.{edges_of}
use Rattle.segment_split.specs.Redrawing.{redrawn}
use Rattle.segment_split.specs.RedrawLaws.{Rearranges, RedrawsToTheEnd}
use Rattle.segment_split.specs.WholeLaws.{WholeMeetingsKeepWindings}
use Rattle.segment_split.specs.declared.solver.Precision.{Precision}
use Rattle.segment_arrangement.specs.SideLaws.{FilledIsBounded, IsArrangement}
use Rattle.segment_arrangement.proofs.Facts.ColumnPlaces.{lt_holds, lt_tells}
use Rattle.contour_walk.specs.Answering.{Answering, answering_of, ZeroKeepsAll}
use Rattle.contour_walk.specs.AnswerLaws.{AnswersWind}
use Rattle.contour_walk.specs.BindingLaws.{all_contours, CornersStay, AnswerHasAllWalks}
use Rattle.contour_walk.specs.Orderly.{AnswersAreOrderly}
use Rattle.contour_walk.specs.WalkLaws.{contour_steps, turns_of}
use Rattle.polygon_overlay.specs.Builders.{default_options}
use Rattle.polygon_overlay.specs.GivenLaws.{HeldWindsAsGiven}
use Rattle.polygon_overlay.specs.OverlayLaws.{overlay_of}
use Rattle.polygon_overlay.specs.Overlays.{once, redrawn_of}
use Rattle.polygon_overlay.specs.Sizing.{Amounts, IsSizedAcross, IsSizedUp, IsSized, IsFilledBy, exchanged, moved_across, moved_up, moved}
use Rattle.polygon_overlay.specs.SizingLaws.{HoldsAlone, IsRegionOf, AreMoved, Tells, FillJust, MovedFillTheSized, SizedIsTheNeighbourhood}
use Rattle.polygon_overlay.specs.Tiles.{AreRectilinear}
use Rattle.polygon_overlay.proofs.Answering.ArrangementLaws.{redrawn_arrangement}
use Rattle.polygon_overlay.proofs.Tiles.Regions.{answer_winds}
use Rattle.polygon_overlay.proofs.Tiles.Straight.{keys_straight, held_meets_whole, answers_stay_rectilinear}
use Rattle.polygon_overlay.proofs.Sized.Across.{across_has_places}
use Rattle.polygon_overlay.proofs.Sized.Answers.{answers_pass_across, answers_pass_up}
use Rattle.polygon_overlay.proofs.Sized.Denominators.{winds_alike_over}
use Rattle.polygon_overlay.proofs.Sized.Flat.{flat_holds, flat_winds, flat_steps}
use Rattle.polygon_overlay.proofs.Sized.Terms.{HasPlaces, PassOneByOne, PassOneByOneUp, just_at, column_of, row_over, falls_past, climbs_past, right_past, left_past}
use Rattle.polygon_overlay.proofs.Sized.Up.{up_has_places}
use Rattle.polygon_overlay.proofs.Sized.Windows.{windows_tell}

-- ---- what is sized alike

pub sized_alike : (left right : ℤ) (F G : RationalPoint → Type 0) (p : RationalPoint) → ((m : RationalPoint) → IsRational m → F m → G m)
    → IsSizedAcross left right F p
    → IsSizedAcross left right G p
sized_alike left right F G p goes h = record {
  grown = λ l. let (m, row, here) = h.grown l in (m, row, goes m row.rational here);
  shrunk = λ l m row. goes m row.rational (h.shrunk l m row);
}

none_straight : AreRectilinear []
none_straight = All-nil (λ c. AllRectilinear (contour_steps c))

-- ---- an answer, moved

module _ (rearranges : (precision : Precision) → Rearranges boolean (redrawn boolean precision)) (ends : (precision : Precision)
    → RedrawsToTheEnd boolean precision)
    (balanced : (precision : Precision) (es : List (Entry Count)) → IsBalancedMap es → IsBalancedMap (redrawn boolean precision es))
    (bounded : FilledIsBounded) (orderly : AnswersAreOrderly) (wind : AnswersWind) (corners : CornersStay) (keep : WholeMeetingsKeepWindings)
    (winds : HeldWindsAsGiven)
    (whole : HorizontalAndVerticalMeetWhole boolean) (lines : (precision : Precision) → RedrawsByLines boolean precision) (all : AnswerHasAllWalks)
    (zero_keeps : ZeroKeepsAll) where
  -- what is answered for horizontal and vertical contours that are held alone
  module _ (least greatest : ℤ) (keep_all : Bool) (contours : List (List Point)) (straight : AreRectilinear contours) (held : List (Entry Count))
      (alone : HoldsAlone least greatest keep_all contours held) where
    keys : AllRectilinear (edges_of (normal boolean held))
    keys = keys_straight keep_all contours [] held alone.holds straight none_straight

    answers_straight : (o : Answering) (fill : FillRule) (precision : Precision) → o.least ≡ 0
        → AreRectilinear (all_contours (overlay_of o fill Subject precision held))
    answers_straight o fill precision none =
        answers_stay_rectilinear rearranges ends balanced orderly corners whole lines least greatest o fill Subject precision held alone.is_held none keys

    answers_wind : (o : Answering) (fill : FillRule) (precision : Precision) → o.least ≡ 0 → (p : RationalPoint) → IsRational p
        → contour_winding (all_contours (overlay_of o fill Subject precision held)) p ≡ turns_of o.clockwise (is_filled fill (contour_winding contours p))
    answers_wind o fill precision none p some =
        answer_winds rearranges ends balanced bounded orderly wind keep winds whole least greatest keep_all contours [] held o fill Subject precision p straight
        none_straight alone.holds alone.is_held none some

  -- ---- their region

  module _ (least greatest : ℤ) (fill : FillRule) (precision : Precision) (contours region : List (List Point)) (straight : AreRectilinear contours)
      (of : IsRegionOf least greatest fill precision contours region) where
    arranged : IsArrangement (redrawn_of precision of.held)
    arranged = redrawn_arrangement least greatest precision (rearranges precision) (ends precision) (balanced precision) of.held of.alone.is_held

    abbrev filled : RationalPoint → Bool
    filled p = is_filled fill (contour_winding contours p)

    wound : (p : RationalPoint) → IsRational p → contour_winding region p ≡ cond (filled p) (pos 1) (pos 0)
    wound p some =
        ap (λ cs. contour_winding cs p) of.is
        ∙ (flat_winds all zero_keeps fill precision of.held arranged p
        ∙ answers_wind least greatest false contours straight of.held of.alone (answering_of default_options) fill precision refl p some)

    zero_or_one : (p : RationalPoint) → IsRational p → (contour_winding region p ≡ pos 0) ⊎ (contour_winding region p ≡ pos 1)
    zero_or_one p some = by (filled p) (wound p some)
      where
        by : (b : Bool) → contour_winding region p ≡ cond b (pos 1) (pos 0) → (contour_winding region p ≡ pos 0) ⊎ (contour_winding region p ≡ pos 1)
        by true e = inr e
        by false e = inl e

    fills : (p : RationalPoint) → IsRational p → contour_winding region p ≡ pos 1 → filled p ≡ true
    fills p some e = by (filled p) (sym (wound p some) ∙ e)
      where
        by : (b : Bool) → cond b (pos 1) (pos 0) ≡ pos 1 → b ≡ true
        by true e = refl
        by false e = absurd (omega (arith, ints, e))

    filled_winds : (p : RationalPoint) → IsRational p → filled p ≡ true → contour_winding region p ≡ pos 1
    filled_winds p some e = wound p some ∙ ap (λ b. cond b (pos 1) (pos 0)) e

    region_straight : AreRectilinear region
    region_straight =
        subst AreRectilinear (sym of.is)
        (flat_holds all zero_keeps fill precision of.held arranged (λ c. AllRectilinear (contour_steps c))
        (answers_straight least greatest false contours straight of.held of.alone (answering_of default_options) fill precision refl))

    pass_across : (p : RationalPoint) → IsRational p → PassOneByOne region p
    pass_across p some =
        subst (λ cs. PassOneByOne cs p) (sym of.is)
        (λ k. flat_steps all zero_keeps fill precision of.held arranged (just_at (column_of p) (falls_past p) (climbs_past p) k)
        (answers_pass_across rearranges ends balanced orderly corners whole lines least greatest (answering_of default_options) fill Subject precision of.held
        of.alone.is_held
        refl (keys least greatest false contours straight of.held of.alone) p some k))

    pass_up : (v : RationalPoint) → IsRational v → PassOneByOneUp region v
    pass_up v some =
        subst (λ cs. PassOneByOneUp cs v) (sym of.is)
        (λ k. flat_steps all zero_keeps fill precision of.held arranged (just_at (row_over v) (right_past v) (left_past v) k)
        (answers_pass_up rearranges ends balanced orderly corners whole lines least greatest (answering_of default_options) fill Subject precision of.held
        of.alone.is_held refl
        (keys least greatest false contours straight of.held of.alone) v some k))

    -- ---- in x

    module _ (left right : ℤ) where
      abbrev wide : List (List Point)
      wide = map (moved (moved_across left right)) region

      places_across : (p : RationalPoint) → IsRational p → HasPlaces (contour_winding region) (contour_winding wide) left right p × AreRectilinear wide
      places_across p some =
          across_has_places region left right p region_straight (pass_across p some)

      wide_straight : AreRectilinear wide
      wide_straight = (places_across (record { x = pos 0; y = pos 0; q = 1 }) (omega arith)).1

      tells_across : (p : RationalPoint) → IsRational p
          → (IsSizedAcross left right (λ m. filled m ≡ true) p → pos 0 <ℤ contour_winding wide p)
          × (pos 0 <ℤ contour_winding wide p → IsSizedAcross left right (λ m. filled m ≡ true) p)
      tells_across p some =
          let tells =
          windows_tell (contour_winding region) (contour_winding wide) left right (λ r h. (places_across r h).0) zero_or_one
          (λ m r h. winds_alike_over m r region h)
          (λ m r h. winds_alike_over m r wide h) p some in (
            λ h. tells.0 (sized_alike left right (λ m. filled m ≡ true) (λ m. contour_winding region m ≡ pos 1) p filled_winds h),
            λ l. sized_alike left right (λ m. contour_winding region m ≡ pos 1) (λ m. filled m ≡ true) p fills (tells.1 l),
          )

    -- ---- in y

    module _ (bottom top : ℤ) where
      abbrev tall : List (List Point)
      tall = map (moved (moved_up bottom top)) region

      places_up : (v : RationalPoint) → IsRational v
          → HasPlaces (λ r. contour_winding region (exchanged r)) (λ r. contour_winding tall (exchanged r)) bottom top v × AreRectilinear tall
      places_up v some =
          up_has_places region bottom top v region_straight (pass_up v some)

      tall_straight : AreRectilinear tall
      tall_straight = (places_up (record { x = pos 0; y = pos 0; q = 1 }) (omega arith)).1

      tells_up : (p : RationalPoint) → IsRational p
          → (IsSizedUp bottom top (λ m. filled m ≡ true) p → pos 0 <ℤ contour_winding tall p)
          × (pos 0 <ℤ contour_winding tall p → IsSizedUp bottom top (λ m. filled m ≡ true) p)
      tells_up p some =
          let tells =
          windows_tell (λ v. contour_winding region (exchanged v)) (λ v. contour_winding tall (exchanged v)) bottom top (λ v h. (places_up v h).0)
          (λ v h. zero_or_one (exchanged v) h) (λ m v h. winds_alike_over m (exchanged v) region h) (λ m v h. winds_alike_over m (exchanged v) tall h)
          (exchanged p) some in (
            λ h. tells.0
                (sized_alike bottom top (λ v. filled (exchanged v) ≡ true) (λ v. contour_winding region (exchanged v) ≡ pos 1) (exchanged p)
                (λ v k. filled_winds (exchanged v) k) h),
            λ l. sized_alike bottom top (λ v. contour_winding region (exchanged v) ≡ pos 1) (λ v. filled (exchanged v) ≡ true) (exchanged p)
                (λ v k. fills (exchanged v) k) (tells.1 l),
          )

  -- ---- both

  regions_fill : (least greatest : ℤ) (fill : FillRule) (precision : Precision) (contours region : List (List Point)) →
      AreRectilinear contours → IsRegionOf least greatest fill precision contours region → FillJust (IsFilledBy fill contours) region
  regions_fill least greatest fill precision contours region straight of = record {
    fills = λ p some. by (is_filled fill (contour_winding contours p)) (contour_winding region p)
        (wound least greatest fill precision contours region straight of p some);
    straight = region_straight least greatest fill precision contours region straight of;
  }
    where
      by : (b : Bool) (w : ℤ) → w ≡ cond b (pos 1) (pos 0) → (b ≡ true → int_lt (pos 0) w ≡ true) × (int_lt (pos 0) w ≡ true → b ≡ true)
      by true w e = (λ h. ap (int_lt (pos 0)) e, λ h. refl)
      by false w e = (λ h. absurd (false≢true h), λ h. absurd (false≢true (sym (ap (int_lt (pos 0)) e) ∙ h)))

  moved_fill : (least greatest : ℤ) (by : Amounts) (fill : FillRule) (precision : Precision) (contours shifted : List (List Point)) →
      AreRectilinear contours → AreMoved least greatest by fill precision contours shifted → FillJust (IsSized by (IsFilledBy fill contours)) shifted
  moved_fill least greatest by fill precision contours shifted straight are = record {
    fills = λ p some. subst (λ cs. (Inside p → IsFilledBy Positive cs p) × (IsFilledBy Positive cs p → Inside p)) (sym are.moves.up) (sized p some);
    straight = subst AreRectilinear (sym are.moves.up) (tall_straight least greatest Positive precision sides wide sides_straight are.moves.across
        by.bottom by.top);
  }
    where
      sides : List (List Point)
      sides = map (moved (moved_across by.left by.right)) are.region

      sides_straight : AreRectilinear sides
      sides_straight = wide_straight least greatest fill precision contours are.region straight are.of_region by.left by.right

      wide : List (List Point)
      wide = are.moves.wide

      tall : List (List Point)
      tall = map (moved (moved_up by.bottom by.top)) wide

      Inside : RationalPoint → Type 0
      Inside p = IsSized by (IsFilledBy fill contours) p

      across_tells : (m : RationalPoint) → IsRational m
          → (IsSizedAcross by.left by.right (IsFilledBy fill contours) m → int_lt (pos 0) (contour_winding sides m) ≡ true)
          × (int_lt (pos 0) (contour_winding sides m) ≡ true → IsSizedAcross by.left by.right (IsFilledBy fill contours) m)
      across_tells m some =
          let tells = tells_across least greatest fill precision contours are.region straight are.of_region by.left by.right m some in (
            λ h. lt_holds (pos 0) (contour_winding sides m) (tells.0 h),
            λ e. tells.1 (lt_tells (pos 0) (contour_winding sides m) e),
          )

      sized : (p : RationalPoint) → IsRational p
          → (Inside p → int_lt (pos 0) (contour_winding tall p) ≡ true) × (int_lt (pos 0) (contour_winding tall p) ≡ true → Inside p)
      sized p some =
          let tells = tells_up least greatest Positive precision sides wide sides_straight are.moves.across by.bottom by.top p some in (
            λ h. lt_holds (pos 0) (contour_winding tall p)
                (tells.0
                (sized_alike by.bottom by.top (λ v. IsSizedAcross by.left by.right (IsFilledBy fill contours) (exchanged v))
                (λ v. int_lt (pos 0) (contour_winding sides (exchanged v)) ≡ true) (exchanged p) (λ v k. (across_tells (exchanged v) k).0) h)),
            λ e. sized_alike by.bottom by.top (λ v. int_lt (pos 0) (contour_winding sides (exchanged v)) ≡ true)
                (λ v. IsSizedAcross by.left by.right (IsFilledBy fill contours) (exchanged v)) (exchanged p) (λ v k. (across_tells (exchanged v) k).1)
                (tells.1 (lt_tells (pos 0) (contour_winding tall p) e)),
          )

  pub moved_fill_the_sized : MovedFillTheSized
  moved_fill_the_sized = record { region = regions_fill; moved = moved_fill }

  pub sized_is_the_neighbourhood : SizedIsTheNeighbourhood
  sized_is_the_neighbourhood least greatest keep_all by fill precision contours held straight moves = record {
    region = λ p some. tests p (is.fills p some) (int_lt (pos 0) (contour_winding moves.shifted p)) refl (holds_moved p);
    whole = held_meets_whole keep_all moves.shifted [] held moves.alone.holds is.straight none_straight whole least greatest moves.alone.is_held;
    winds = λ o other none p some.
        turns o.clockwise p (is.fills p some) (int_lt (pos 0) (contour_winding moves.shifted p)) refl
        (contour_winding (all_contours (overlay_of o Positive Subject other held)) p)
        (answers_wind least greatest keep_all moves.shifted is.straight held moves.alone o Positive other none p some);
    straight = λ o other none. answers_straight least greatest keep_all moves.shifted is.straight held moves.alone o Positive other none;
  }
    where
      is : FillJust (IsSized by (IsFilledBy fill contours)) moves.shifted
      is = moved_fill least greatest by fill precision contours moves.shifted straight moves.are

      holds_moved : (p : RationalPoint) → region Positive Subject (winding held p) ≡ int_lt (pos 0) (contour_winding moves.shifted p)
      holds_moved p = ap (region Positive Subject) (winds keep_all moves.shifted [] held p moves.alone.holds)

      Inside : RationalPoint → Type 0
      Inside p = IsSized by (IsFilledBy fill contours) p

      tests : (p : RationalPoint) → (Inside p
          → int_lt (pos 0) (contour_winding moves.shifted p) ≡ true) × (int_lt (pos 0) (contour_winding moves.shifted p) ≡ true → Inside p)
          → (b : Bool) → int_lt (pos 0) (contour_winding moves.shifted p) ≡ b
          → region Positive Subject (winding held p) ≡ int_lt (pos 0) (contour_winding moves.shifted p)
          → Tells (Inside p) (region Positive Subject (winding held p))
      tests p both true e same = inl (both.1 e, same ∙ e)
      tests p both false e same = inr (λ h. false≢true (sym e ∙ both.0 h), same ∙ e)

      turns : (output : Bool) (p : RationalPoint)
          → (Inside p → int_lt (pos 0) (contour_winding moves.shifted p) ≡ true) × (int_lt (pos 0) (contour_winding moves.shifted p) ≡ true → Inside p)
          → (b : Bool) → int_lt (pos 0) (contour_winding moves.shifted p) ≡ b → (w : ℤ) → w ≡ turns_of output (int_lt (pos 0) (contour_winding moves.shifted p))
          → (Inside p × (w ≡ once output)) ⊎ ((Inside p → ⊥) × (w ≡ pos 0))
      turns output p both true e w is = inl (both.1 e, is ∙ (ap (turns_of output) e ∙ all_once output))
        where
          all_once : (output : Bool) → turns_of output true ≡ once output
          all_once true = refl
          all_once false = refl
      turns output p both false e w is = inr (λ h. false≢true (sym e ∙ both.0 h), is ∙ (ap (turns_of output) e ∙ none_at_all output))
        where
          none_at_all : (output : Bool) → turns_of output false ≡ pos 0
          none_at_all true = refl
          none_at_all false = refl
