-- The answers of tiles go together: at each point one tile answers for the region, and all others answer nothing.
use Rattle.std.proofs.Common.{◌≡◌, ◌⊎◌, inl, inr, Bool, true, false, ◌&&◌, List, [], ◌∷◌, ◌++◌, map, All, AllPairs, Any, ℤ, pos, ◌+ℤ◌, refl, sym, ap, ap₂, ◌∙◌, subst, arith}
use Rattle.std.proofs.lemmas.Int.{ints}
use Rattle.std.proofs.lemmas.Bool.{false≢true}
use Rattle.std.proofs.lemmas.List.Elements.{All-nil, All-head, All-tail, All-append, All-weaker}
use Rattle.plane_base.specs.Plane.{Point, RationalPoint, IsRational}
use Rattle.plane_base.specs.Balance.{IsBalancedMap}
use Rattle.plane_base.specs.Counts.{Count, Entry, boolean}
use Rattle.plane_base.specs.Regions.{FillRule, NonZero, OverlayRule, Subject, is_filled, region}
use Rattle.plane_base.specs.Totals.{total}
use Rattle.plane_base.specs.Windings.{contour_winding, cycle_winding}
use Rattle.plane_base.proofs.Facts.Lists.Cycles.{All-front, All-back}
use Rattle.plane_base.proofs.Facts.Lists.Totals.{total_zero_on}
use Rattle.plane_base.proofs.Facts.Maps.Normal.{AllPairs-head, AllPairs-tail}
use Rattle.plane_base.proofs.Facts.Windings.Sums.{contour_winding_append, contour_winding_is, region_of_nothing}
use Rattle.segment_split.specs.Groups.{Bounds, LiesWithin}
use Rattle.segment_split.specs.LineLaws.{AllRectilinear, HorizontalAndVerticalMeetWhole, RedrawsByLines}
use Rattle.segment_split.specs.Redrawing.{redrawn}
use Rattle.segment_split.specs.RedrawLaws.{Rearranges, RedrawsToTheEnd}
use Rattle.segment_split.specs.WholeLaws.{WholeMeetingsKeepWindings}
use Rattle.segment_split.specs.declared.solver.Precision.{Precision}
use Rattle.segment_arrangement.specs.SideLaws.{FilledIsBounded}
use Rattle.contour_walk.specs.Answering.{Answering}
use Rattle.contour_walk.specs.AnswerLaws.{AnswersWind}
use Rattle.contour_walk.specs.BindingLaws.{all_contours, CornersStay}
use Rattle.contour_walk.specs.Orderly.{AnswersAreOrderly}
use Rattle.contour_walk.specs.WalkLaws.{contour_steps, turns_of}
use Rattle.polygon_overlay.specs.GivenLaws.{HeldWindsAsGiven}
use Rattle.polygon_overlay.specs.OverlayLaws.{overlay_of}
use Rattle.polygon_overlay.specs.TileGrids.{AreTilesOf}
use Rattle.polygon_overlay.specs.Tiles.{in_tile, IsTile, clamped, AreRectilinear}
use Rattle.polygon_overlay.specs.TileLaws.{HoldTiles, answers_of, TilesUnite, TilesAnswerTheirRegion, AnswersStayRectilinear}
use Rattle.polygon_overlay.proofs.Returning.ReturnLaws.{once_is_filled}
use Rattle.polygon_overlay.proofs.Tiles.Contours.{off_tile}
use Rattle.polygon_overlay.proofs.Tiles.Grids.{Any-cases}
use Rattle.polygon_overlay.proofs.Tiles.Regions.{region_alike, answer_winds, tiles_answer_their_region}
use Rattle.polygon_overlay.proofs.Tiles.Straight.{contours_clamped, keys_straight, both_straight, answers_stay_rectilinear}

-- ---- at each point one tile

no_turns : (output : Bool) → turns_of output false ≡ pos 0
no_turns true = refl
no_turns false = refl

other_is_not : (b : Bool) → true && b ≡ false → b ≡ false
other_is_not true e = e
other_is_not false e = refl

only_one : (x y : ℤ) → y ≡ pos 0 → x +ℤ y ≡ x
only_one x y e = omega (arith, ints)

only_rest : (x y z : ℤ) → x ≡ pos 0 → y ≡ z → x +ℤ y ≡ z
only_rest x y z e f = omega (arith, ints)

module _ (output filled : Bool) (p : RationalPoint) where
  abbrev turns_in : Bounds → ℤ
  turns_in t = turns_of output (in_tile t p && filled)

  none_off : (t : Bounds) → in_tile t p ≡ false → turns_in t ≡ pos 0
  none_off t e = ap (λ b. turns_of output (b && filled)) e ∙ no_turns output

  -- tiles that share no point have the turns of the one that p is in, or none where nothing is filled
  turns_once : (tiles : List Bounds) → AllPairs (λ s t. (p : RationalPoint) → in_tile s p && in_tile t p ≡ false) tiles
      → Any (λ t. in_tile t p ≡ true) tiles ⊎ (filled ≡ false) → total turns_in tiles ≡ turns_of output filled
  turns_once [] apart (inl some) = absurd (omega (arith, some.2))
  turns_once [] apart (inr none) = sym (ap (turns_of output) none ∙ no_turns output)
  turns_once (t ∷ tiles) apart found =
      by (in_tile t p) refl found (λ more. turns_once tiles (AllPairs-tail (λ (s t : Bounds). (p : RationalPoint) → in_tile s p && in_tile t p ≡ false) t tiles apart) more)
    where
      others : in_tile t p ≡ true → total turns_in tiles ≡ pos 0
      others e =
          total_zero_on turns_in tiles
          (All-weaker (λ (s : Bounds). (p : RationalPoint) → in_tile t p && in_tile s p ≡ false) (λ (s : Bounds). turns_in s ≡ pos 0)
          (λ s h. none_off s (other_is_not (in_tile s p) (subst (λ b. b && in_tile s p ≡ false) e (h p)))) tiles
          (AllPairs-head (λ (s t : Bounds). (p : RationalPoint) → in_tile s p && in_tile t p ≡ false) t tiles apart))

      left : in_tile t p ≡ false → Any (λ t. in_tile t p ≡ true) (t ∷ tiles) ⊎ (filled ≡ false) → Any (λ t. in_tile t p ≡ true) tiles ⊎ (filled ≡ false)
      left e (inr none) = inr none
      left e (inl some) = later (Any-cases (λ (t : Bounds). in_tile t p ≡ true) t tiles some)
        where
          later : (in_tile t p ≡ true) ⊎ Any (λ t. in_tile t p ≡ true) tiles → Any (λ t. in_tile t p ≡ true) tiles ⊎ (filled ≡ false)
          later (inl here) = absurd (false≢true (sym e ∙ here))
          later (inr some) = inl some

      by : (b : Bool) → in_tile t p ≡ b → Any (λ t. in_tile t p ≡ true) (t ∷ tiles) ⊎ (filled ≡ false)
          → (Any (λ t. in_tile t p ≡ true) tiles ⊎ (filled ≡ false) → total turns_in tiles ≡ turns_of output filled)
          → turns_in t +ℤ total turns_in tiles ≡ turns_of output filled
      by true e found rest = only_one (turns_in t) (total turns_in tiles) (others e) ∙ ap (λ b. turns_of output (b && filled)) e
      by false e found rest = only_rest (turns_in t) (total turns_in tiles) (turns_of output filled) (none_off t e) (rest (left e found))

-- ---- off the box

contours_off : (box : Bounds) (p : RationalPoint) (cs : List (List Point)) → All (All (LiesWithin box)) cs → in_tile box p ≡ false → contour_winding cs p ≡ pos 0
contours_off box p cs all e =
    contour_winding_is cs p
    ∙ total_zero_on (λ c. cycle_winding c p) cs (All-weaker (All (LiesWithin box)) (λ (c : List Point). cycle_winding c p ≡ pos 0) (λ c within. off_tile box p c within e) cs all)

-- ---- answers

module _ (rearranges : (precision : Precision) → Rearranges boolean (redrawn boolean precision)) (ends : (precision : Precision) → RedrawsToTheEnd boolean precision)
    (balanced : (precision : Precision) (es : List (Entry Count)) → IsBalancedMap es → IsBalancedMap (redrawn boolean precision es))
    (bounded : FilledIsBounded) (orderly : AnswersAreOrderly) (wind : AnswersWind) (corners : CornersStay) (keep : WholeMeetingsKeepWindings) (winds : HeldWindsAsGiven)
    (whole : HorizontalAndVerticalMeetWhole boolean) (lines : (precision : Precision) → RedrawsByLines boolean precision) where
  answers_straight : AnswersStayRectilinear
  answers_straight = answers_stay_rectilinear rearranges ends balanced orderly corners whole lines

  answers_in_tiles : TilesAnswerTheirRegion
  answers_in_tiles = tiles_answer_their_region rearranges ends balanced bounded orderly wind keep winds whole

  module _ (least greatest : ℤ) (keep_all : Bool) (subjects clips : List (List Point)) (all : AreRectilinear (subjects ++ clips)) (o : Answering) (none : o.least ≡ 0)
      (fill : FillRule) (rule : OverlayRule) (precision : Precision) where
    -- what tiles answer is horizontal and vertical
    parts_straight : (tiles : List Bounds) (parts : List (List (Entry Count))) → HoldTiles least greatest keep_all subjects clips tiles parts
        → AreRectilinear (answers_of o fill rule precision parts)
    parts_straight [] [] zip = All-nil (λ c. AllRectilinear (contour_steps c))
    parts_straight [] (part ∷ parts) zip = absurd zip
    parts_straight (t ∷ tiles) [] zip = absurd zip
    parts_straight (t ∷ tiles) (part ∷ parts) zip =
        All-append (λ c. AllRectilinear (contour_steps c)) (all_contours (overlay_of o fill rule precision part)) (answers_of o fill rule precision parts)
        (answers_straight least greatest o fill rule precision part zip.0.1 none
        (keys_straight keep_all (map (clamped t) subjects) (map (clamped t) clips) part zip.0.0
        (contours_clamped t subjects (both_straight subjects clips all).0) (contours_clamped t clips (both_straight subjects clips all).1)))
        (parts_straight tiles parts zip.1)

    module _ (p : RationalPoint) (some : IsRational p) where
      abbrev filled : Bool
      filled = region fill rule (record { subject = contour_winding subjects p; clip = contour_winding clips p })

      -- together they have the turns of all tiles
      parts_wind : (tiles : List Bounds) (parts : List (List (Entry Count))) → All IsTile tiles → HoldTiles least greatest keep_all subjects clips tiles parts
          → contour_winding (answers_of o fill rule precision parts) p ≡ total (turns_in o.clockwise filled p) tiles
      parts_wind [] [] are zip = refl
      parts_wind [] (part ∷ parts) are zip = absurd zip
      parts_wind (t ∷ tiles) [] are zip = absurd zip
      parts_wind (t ∷ tiles) (part ∷ parts) are zip =
          contour_winding_append (all_contours (overlay_of o fill rule precision part)) (answers_of o fill rule precision parts) p
          ∙ ap₂ (λ m n. m +ℤ n)
          (answers_in_tiles least greatest keep_all t subjects clips part o fill rule precision p (All-head IsTile t tiles are) all zip.0.0 zip.0.1 none some)
          (parts_wind tiles parts (All-tail IsTile t tiles are) zip.1)

      found_or_empty : (box : Bounds) (tiles : List Bounds) → AreTilesOf box tiles → All (All (LiesWithin box)) (subjects ++ clips)
          → Any (λ t. in_tile t p ≡ true) tiles ⊎ (filled ≡ false)
      found_or_empty box tiles are within = by (in_tile box p) refl
        where
          by : (b : Bool) → in_tile box p ≡ b → Any (λ t. in_tile t p ≡ true) tiles ⊎ (filled ≡ false)
          by true e = inl (are.cover p some e)
          by false e =
              inr (region_alike fill rule (contours_off box p subjects (All-front (All (LiesWithin box)) subjects clips within) e)
              (contours_off box p clips (All-back (All (LiesWithin box)) subjects clips within) e)
              ∙ region_of_nothing fill rule)

  pub tiles_unite : TilesUnite
  tiles_unite least greatest keep_all other_keeps box tiles subjects clips parts held again o other fill rule precision another_precision other_precision p are within all holds is_held zip back again_held none other_none alike some =
      answer_winds rearranges ends balanced bounded orderly wind keep winds whole least greatest other_keeps joined [] again other NonZero Subject other_precision p
      (parts_straight least greatest keep_all subjects clips all o none fill rule precision tiles parts zip) (All-nil (λ c. AllRectilinear (contour_steps c))) back again_held other_none some
      ∙ (ap (λ c. turns_of c (is_filled NonZero (contour_winding joined p))) alike
      ∙ (ap (λ n. turns_of o.clockwise (is_filled NonZero n)) together
      ∙ (ap (turns_of o.clockwise) (once_is_filled o.clockwise inside)
      ∙ sym (answer_winds rearranges ends balanced bounded orderly wind keep winds whole least greatest keep_all subjects clips held o fill rule another_precision p
      (both_straight subjects clips all).0 (both_straight subjects clips all).1 holds is_held none some))))
    where
      joined : List (List Point)
      joined = answers_of o fill rule precision parts

      inside : Bool
      inside = region fill rule (record { subject = contour_winding subjects p; clip = contour_winding clips p })

      together : contour_winding joined p ≡ turns_of o.clockwise inside
      together =
          parts_wind least greatest keep_all subjects clips all o none fill rule precision p some tiles parts are.each zip
          ∙ turns_once o.clockwise inside p tiles are.apart
          (found_or_empty least greatest keep_all subjects clips all o none fill rule precision p some box tiles are within)
