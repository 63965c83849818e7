-- Why a query is refused.
use Rattle.std.specs.Prelude.{◌≡◌, ◌⊎◌, ◌↔◌, ◌==◌, ◌<◌, ◌≤◌, ◌^◌, ℕ, ℤ, IsTrue, pos, neg_ℤ, Bool, true, false, cond, List, [], ◌∷◌, map, filter, length, All}
use Rattle.std.proofs.Common.{inl, inr, refl, sym, ap, ◌∙◌, subst, arith}
use Rattle.std.proofs.Math.Dec.{eqb-suc-zero}
use Rattle.std.proofs.lemmas.List.{length-map}
use Rattle.std.proofs.lemmas.List.Elements.{All-weaker, All-contains}
use Rattle.plane_base.specs.Segments.{IsEdgeWithin}
use Rattle.plane_base.specs.Plane.{Point, RationalPoint, IsWithin}
use Rattle.plane_base.specs.Windings.{winding, contour_winding}
use Rattle.plane_base.specs.Regions.{FillRule, OverlayRule, region}
use Rattle.plane_base.specs.Counts.{Count as Windings, Entry, boolean, normal, IsNormal}
use Rattle.plane_base.specs.Balance.{IsBalancedMap}
use Rattle.plane_base.proofs.Facts.Maps.Normal.{normal_is_normal}
use Rattle.plane_base.proofs.Facts.Windings.Sums.{winding_normal}
use Rattle.segment_split.specs.Redrawing.{redrawn}
use Rattle.segment_split.specs.RedrawLaws.{Rearranges, RedrawsToTheEnd}
use Rattle.segment_split.specs.WholeLaws.{WholeMeetingsKeepWindings}
use Rattle.plane_base.specs.declared.fault.Fault.{Fault}
use Rattle.plane_base.specs.declared.fault.Fault.TheVariants.{Memory, Count, Edges, Failed}
use Rattle.segment_split.specs.Kinds.{count_fits}
use Rattle.segment_split.specs.Refusals.{CountsTooMuch, LaysTooMany, IsRefusal}
use Rattle.segment_split.specs.SegmentViews.{AreWithin}
use Rattle.segment_split.specs.declared.solver.Precision.{Precision}
use Rattle.segment_arrangement.specs.EdgeSides.{is_boundary, boundary, indicator}
use Rattle.segment_arrangement.specs.SideLaws.{IsArrangement}
use Rattle.contour_walk.specs.Answering.{Answering, answer_with, AnswersThoseLeft, AnswersReachLeast}
use Rattle.contour_walk.specs.Orderly.{AreOrderly, AnswersAreOrderly}
use Rattle.contour_walk.specs.WalkLaws.{border_of, borders}
use Rattle.contour_walk.specs.BindingLaws.{all_contours, WindRound}
use Rattle.contour_walk.specs.AnswerLaws.{IsEndIn, AnswersStandOnEnds, all_points, AnswersAreShort, AnswersWind}
use Rattle.polygon_overlay.specs.Builders.{IsHeld}
use Rattle.polygon_overlay.specs.Overlays.{redrawn_of, once, WindsOnce, WindsAsHeld, MeetsWhole, IsOverlay, IsSweepRefused, IsQueryRefused}
use Rattle.polygon_overlay.proofs.Answering.ArrangementLaws.{redrawn_arrangement, redrawn_within}

module _ (precision : Precision) (held : List (Entry Windings)) where
  -- since it could not be redrawn
  pub not_redrawn : (f : Fault) → IsRefusal (CountsTooMuch boolean count_fits precision held) (LaysTooMany boolean precision (normal boolean held)) f → IsQueryRefused precision held f
  not_redrawn Memory h = tt
  not_redrawn Count h = inl h
  not_redrawn Edges h = h
  not_redrawn Failed h = absurd h

  -- since its windings leave their range, or for want of memory
  pub not_swept : (f : Fault) → IsSweepRefused (redrawn_of precision held) f → IsQueryRefused precision held f
  not_swept f (inl memory) = rw memory tt
  not_swept f (inr count) = rw count.0 (inr count.1)

-- ---- graphs

-- No segment is left just where the map that they give has no edge.
pub none_left : {X Y : Type 0} (f : X → Y) (xs : List X) (ys : List Y) (n : ℕ) (b : Bool) → b ≡ (n == 0) → n ≡ length xs → map f xs ≡ ys → IsTrue b ↔ (ys ≡ [])
none_left f [] ys n b is long same = (λ _. sym same, λ _. is ∙ ap (λ m. m == 0) long)
none_left f (x ∷ xs) ys n b is long same =
    let some : b ≡ false = is ∙ (ap (λ m. m == 0) long ∙ eqb-suc-zero (length xs)) in (λ t. absurd (cc), λ nil. absurd (cc))

-- ---- windings

inside_once : (output : Bool) → cond output (neg_ℤ (indicator true)) (indicator true) ≡ once output
inside_once true = refl
inside_once false = refl

outside_none : (output : Bool) → cond output (neg_ℤ (indicator false)) (indicator false) ≡ pos 0
outside_none true = refl
outside_none false = refl

-- what winds round a region winds once round it
pub wind_once : (fill : FillRule) (rule : OverlayRule) (es : List (Entry Windings)) (output : Bool) (contours : List (List Point)) →
    WindRound fill rule es output contours → WindsOnce output fill rule es contours
wind_once fill rule es output contours told = record {
  inside = λ p rational off here. told p rational off ∙ ap (λ b. cond output (neg_ℤ (indicator b)) (indicator b)) here ∙ inside_once output;
  outside = λ p rational off here. told p rational off ∙ ap (λ b. cond output (neg_ℤ (indicator b)) (indicator b)) here ∙ outside_none output;
}

-- without a least area the answer winds once round its region
pub answer_winds_once :
    AnswersWind → (o : Answering) (fill : FillRule) (rule : OverlayRule) (es : List (Entry Windings)) (shapes : List (List (List Point))) →
    IsArrangement es → o.least ≡ 0 → shapes ≡ answer_with o (borders fill rule es) → WindsOnce o.clockwise fill rule es (all_contours shapes)
answer_winds_once law o fill rule es shapes arranged none is =
    wind_once fill rule es o.clockwise (all_contours shapes)
    (λ p rational off. ap (λ s. contour_winding (all_contours s) p) is ∙ law o fill rule es arranged none p rational)

-- ---- points of the answer

-- an end of an edge in range is in range
end_within : (least greatest : ℤ) (es : List (Entry Windings)) (p : Point) → AreWithin least greatest es → IsEndIn es p → IsWithin least greatest p
end_within least greatest es p within (e, here, at) = by at
  where
    ends : IsEdgeWithin least greatest e.edge
    ends = All-contains (λ e. IsEdgeWithin least greatest e.edge) es e within here

    by : (e.edge.a ≡ p) ⊎ (e.edge.b ≡ p) → IsWithin least greatest p
    by (inl is) = subst (IsWithin least greatest) is ends.0
    by (inr is) = subst (IsWithin least greatest) is ends.1

no_more : {A : Type 0} (test : A → Bool) (xs : List A) → length (filter test xs) ≤ length xs
no_more test [] = omega arith
no_more test (x ∷ xs) = by (test x) (no_more test xs)
  where
    by : (b : Bool) → length (filter test xs) ≤ length xs → length (cond b (x ∷ filter test xs) (filter test xs)) ≤ length (x ∷ xs)
    by true l = omega (arith, l)
    by false l = omega (arith, l)

module _ (o : Answering) (fill : FillRule) (rule : OverlayRule) (es : List (Entry Windings)) (shapes : List (List (List Point)))
    (arranged : IsArrangement es) (is : shapes ≡ answer_with o (borders fill rule es)) where
  pub answer_within : AnswersStandOnEnds → (least greatest : ℤ) → AreWithin least greatest es → All (All (IsWithin least greatest)) (all_contours shapes)
  answer_within law least greatest within =
      subst (λ s. All (All (IsWithin least greatest)) (all_contours s)) (sym is)
      (All-weaker (All (IsEndIn es)) (All (IsWithin least greatest))
      (λ contour ends. All-weaker (IsEndIn es) (IsWithin least greatest) (λ p end. end_within least greatest es p within end) contour ends)
      (all_contours (answer_with o (borders fill rule es))) (law o fill rule es arranged))

  pub answer_few : AnswersAreShort → length es < 2 ^ 31 → length (all_points (all_contours shapes)) < 2 ^ 31
  answer_few law few =
      subst (λ s. length (all_points (all_contours s)) < 2 ^ 31) (sym is)
      (omega (arith, law o fill rule es arranged, length-map (boundary fill rule es) (border_of fill rule es), no_more (is_boundary fill rule es) es, few))

-- where edges meet whole, redrawing keeps the windings of what was held
pub winds_as_held :
    WholeMeetingsKeepWindings → (precision : Precision) (held : List (Entry Windings)) (output : Bool) (fill : FillRule) (rule : OverlayRule) (contours : List (List Point)) →
    IsNormal boolean (normal boolean held) → MeetsWhole held → WindsOnce output fill rule (redrawn_of precision held) contours
    → WindsAsHeld output fill rule (redrawn_of precision held) held contours
winds_as_held law precision held output fill rule contours in_order whole winds = record {
  inside = λ p rational off here. winds.inside p rational off (kept p ∙ here);
  outside = λ p rational off here. winds.outside p rational off (kept p ∙ here);
}
  where
    kept : (p : RationalPoint) → region fill rule (winding (redrawn_of precision held) p) ≡ region fill rule (winding held p)
    kept p = ap (region fill rule) (law.redrawn_winds precision (normal boolean held) p in_order whole ∙ winding_normal held p)

-- ---- the whole answer

module _ (precision : Precision) (rearranges : Rearranges boolean (redrawn boolean precision)) (ends : RedrawsToTheEnd boolean precision)
    (balanced : (es : List (Entry Windings)) → IsBalancedMap es → IsBalancedMap (redrawn boolean precision es))
    (wind : AnswersWind) (keep : WholeMeetingsKeepWindings) (stand : AnswersStandOnEnds) (short : AnswersAreShort) (orderly : AnswersAreOrderly)
    (reach : AnswersReachLeast) where
  pub is_overlay :
      (least greatest : ℤ) (o : Answering) (fill : FillRule) (rule : OverlayRule) (held : List (Entry Windings)) (shapes : List (List (List Point))) →
      IsHeld least greatest held → length (redrawn_of precision held) < 2 ^ 31 → shapes ≡ answer_with o (borders fill rule (redrawn_of precision held))
      → IsOverlay least greatest o fill rule (redrawn_of precision held) held shapes
  is_overlay least greatest o fill rule held shapes is_held few is =
      let es = redrawn_of precision held in
      let links = borders fill rule es in
      let arranged : IsArrangement es = redrawn_arrangement least greatest precision rearranges ends balanced held is_held in
      let winds : o.least ≡ 0 → WindsOnce o.clockwise fill rule es (all_contours shapes) = λ none. answer_winds_once wind o fill rule es shapes arranged none is in record {
        winds = winds;
        given = λ none whole. winds_as_held keep precision held o.clockwise fill rule (all_contours shapes) (normal_is_normal boolean held is_held.directed) whole (winds none);
        orderly = λ none. subst (AreOrderly o.clockwise o.keep_all links) (sym is) (orderly o fill rule es arranged none);
        least = subst (AnswersThoseLeft o links) (sym is) (reach o links);
        canonical = is;
        in_range = answer_within o fill rule es shapes arranged is stand least greatest (redrawn_within least greatest precision rearranges ends balanced held is_held);
        few = answer_few o fill rule es shapes arranged is short few;
      }
