-- Queries by rules that fill alike.
use Rattle.std.proofs.Common.{◌≡◌, ℕ, ◌+◌, ◌*◌, pos, ◌+ℤ◌, Bool, cond, Some, None, reverse, List, [], ◌∷◌, map, filter, flat_map, refl, sym, ap, ap₂, ◌∙◌, subst}
use Rattle.plane_base.specs.Plane.{Point}
use Rattle.plane_base.specs.Counts.{Count, Entry}
use Rattle.plane_base.specs.Regions.{FillRule, AtLeast, Positive, OverlayRule, holds, region}
use Rattle.segment_split.specs.Data.{without_data}
use Rattle.segment_split.specs.Strings.{StringCount, mask_of}
use Rattle.segment_arrangement.specs.Clips.{keeps}
use Rattle.segment_arrangement.specs.EdgeSides.{bit, lower_side, upper_side, fill_of, differ, is_boundary, boundary}
use Rattle.segment_arrangement.specs.RuleLaws.{FillAlike, OnceIsPositive, AlikeRulesLinkAlike}
use Rattle.segment_arrangement.specs.Strings.{subject_of, string_fill}
use Rattle.segment_arrangement.specs.declared.clip_rule.ClipRule.{ClipRule}
use Rattle.contour_walk.specs.Answering.{answering_of, answer_with, flat_answer}
use Rattle.contour_walk.specs.Hierarchy.{answer_links}
use Rattle.contour_walk.specs.Vectors.{VectorEdge, vector_contour, with_all_points}
use Rattle.contour_walk.specs.Walks.{Border}
use Rattle.contour_walk.specs.WalkLaws.{border_of, borders}
use Rattle.polygon_strings.specs.KeptSteps.{line_steps, is_kept, kept_steps}
use Rattle.polygon_strings.specs.Slices.{halves_of_link, halves, AreSliceWalks, IsSlice}
use Rattle.polygon_overlay.specs.Overlays.{redrawn_of}
use Rattle.polygon_overlay.specs.RuleLaws.{AnswerAlike, AlikeRulesAnswerAlike}
use Rattle.polygon_overlay.specs.Simplified.{turned, runs_so}
use Rattle.polygon_overlay.specs.VectorAnswers.{bare, sided, boundary_vectors}

-- what slices along halves slices along the same halves of another rule
slice_along : (output : Bool) (least : ℕ) (fill other : FillRule) (es : List (Entry StringCount)) (shapes : List (List (List Point)))
    → halves fill es ≡ halves other es → IsSlice output least fill es shapes → IsSlice output least other es shapes
slice_along output least fill other es shapes same slice =
    record { walks = slice.walks; are = subst (λ hs. AreSliceWalks output hs slice.walks) same slice.are; is = slice.is }

module _ (fill other : FillRule) (alike : FillAlike fill other) where
  region_alike : (rule : OverlayRule) (w : Count) → region fill rule w ≡ region other rule w
  region_alike rule w = ap₂ (holds rule) (alike w.subject) (alike w.clip)

  -- ---- clips

  kept_alike : (clip : ClipRule) (es : List (Entry StringCount)) → kept_steps fill clip es ≡ kept_steps other clip es
  kept_alike clip es = ap (flat_map line_steps) (among es)
    where
      strings_alike : (lower : Count) (c : StringCount) → string_fill fill lower c ≡ string_fill other lower c
      strings_alike lower c =
          ap (λ b. b + 4 * mask_of c) (ap₂ (λ u l. bit u 1 + bit l 2) (alike (lower.subject +ℤ c.subject)) (alike lower.subject))

      among : (fs : List (Entry StringCount)) → filter (is_kept fill clip es) fs ≡ filter (is_kept other clip es) fs
      among [] = refl
      among (e ∷ fs) =
          ap₂ (λ (b : Bool) (gs : List (Entry StringCount)). cond b (e ∷ gs) gs)
          (ap (keeps clip) (strings_alike (lower_side (subject_of es) e.edge) e.count)) (among fs)

  -- ---- edges with data

  fill_alike : (es : List (Entry Count)) (e : Entry Count) → fill_of fill es e ≡ fill_of other es e
  fill_alike es e =
      let lower = lower_side es e.edge in
      let upper = upper_side es e in
      ap₂ (λ s c. s + c)
      (ap₂ (λ u l. bit u 1 + bit l 2) (alike upper.subject) (alike lower.subject))
      (ap₂ (λ u l. bit u 4 + bit l 8) (alike upper.clip) (alike lower.clip))

  bounds_alike : (rule : OverlayRule) (es : List (Entry Count)) (e : Entry Count) → is_boundary fill rule es e ≡ is_boundary other rule es e
  bounds_alike rule es e = ap₂ differ (region_alike rule (lower_side es e.edge)) (region_alike rule (upper_side es e))

  pub listed_alike : {D : Type 0} (rule : OverlayRule) (es : List (Entry (Count × D))) → boundary_vectors fill rule es ≡ boundary_vectors other rule es
  listed_alike {D} rule es =
      ap (map (sided fill (without_data es))) (bounds_among es)
      ∙ sides_among (filter (λ e. is_boundary other rule (without_data es) (bare e)) es)
    where
      bounds_among : (fs : List (Entry (Count × D)))
          → filter (λ e. is_boundary fill rule (without_data es) (bare e)) fs ≡ filter (λ e. is_boundary other rule (without_data es) (bare e)) fs
      bounds_among [] = refl
      bounds_among (e ∷ fs) =
          ap₂ (λ (b : Bool) (gs : List (Entry (Count × D))). cond b (e ∷ gs) gs) (bounds_alike rule (without_data es) (bare e)) (bounds_among fs)

      with_fill : Entry (Count × D) → ℕ → VectorEdge × D
      with_fill e f = (record { way = e.edge; fill = f }, e.count.1)

      sides_among : (fs : List (Entry (Count × D))) → map (sided fill (without_data es)) fs ≡ map (sided other (without_data es)) fs
      sides_among [] = refl
      sides_among (e ∷ fs) =
          ap₂ (λ (v : VectorEdge × D) (vs : List (VectorEdge × D)). v ∷ vs) (ap (with_fill e) (fill_alike (without_data es) (bare e))) (sides_among fs)

  -- ---- the boundary, and what is told by links

  module _ (link : AlikeRulesLinkAlike) where
    pub borders_alike : (rule : OverlayRule) (es : List (Entry Count)) → borders fill rule es ≡ borders other rule es
    borders_alike rule es = ap (map (border_of fill rule es)) (link.bounds fill other rule es alike) ∙ among (boundary other rule es)
      where
        above : (e : Entry Count) → region fill rule (upper_side es e) ≡ region other rule (upper_side es e)
        above e = region_alike rule (upper_side es e)

        among : (fs : List (Entry Count)) → map (border_of fill rule es) fs ≡ map (border_of other rule es) fs
        among [] = refl
        among (e ∷ fs) = ap₂ (λ (b : Border) (bs : List Border). b ∷ bs) (ap (λ a. record { edge = e.edge; above = a }) (above e)) (among fs)

    halves_alike : (es : List (Entry StringCount)) → halves fill es ≡ halves other es
    halves_alike es = ap (flat_map halves_of_link) (link.of_strings fill other es alike)

    pub answer_alike : AnswerAlike fill other
    answer_alike = record {
      links = λ es. link.all fill other es alike;
      overlays = λ o rule precision held. ap (answer_with o) (borders_alike rule (redrawn_of precision held));
      flat = λ options rule precision held. ap (flat_answer (answering_of options)) (borders_alike rule (redrawn_of precision held));
      nested = λ o rule precision held. ap (answer_links o) (borders_alike rule (redrawn_of precision held));
      vectors = λ o rule es.
          ap₂ (λ links bs. map (map (vector_contour links)) (answer_with (with_all_points o) bs)) (link.of_boundary fill other rule es alike) (borders_alike rule es);
      perfect = λ clockwise points.
          ap (λ filled. cond filled (cond (runs_so clockwise points) None (Some ((reverse points ∷ []) ∷ []))) (Some [])) (alike (turned points));
      kept = kept_alike;
      strings = λ es. link.of_strings fill other es alike;
      slices = λ output least es shapes.
          (slice_along output least fill other es shapes (halves_alike es), slice_along output least other fill es shapes (sym (halves_alike es)));
    }

pub alike_rules_answer_alike : OnceIsPositive → AlikeRulesLinkAlike → AlikeRulesAnswerAlike
alike_rules_answer_alike once link = record {
  all = λ fill other alike. answer_alike fill other alike link;
  once_is_positive = answer_alike (AtLeast (pos 1)) Positive once link;
}
