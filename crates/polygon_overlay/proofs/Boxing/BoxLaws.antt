-- Answers stay in each box of what is held: their points are ends of redrawn edges, for which no box has to grow.
use Rattle.std.proofs.Common.{◌≡◌, ◌⊎◌, inl, inr, ℤ, Bool, List, [], ◌∷◌, ◌++◌, flat_map, All, subst}
use Rattle.std.specs.List.{AllZip}
use Rattle.std.proofs.lemmas.List.Elements.{All-nil, All-head, All-tail, All-append, All-weaker, All-contains}
use Rattle.std.proofs.lemmas.List.Sorted.{All-permutation}
use Rattle.plane_base.specs.Plane.{Point, Edge}
use Rattle.plane_base.specs.Counts.{Count, Entry, boolean, one_subject, one_clip, normal}
use Rattle.plane_base.specs.Balance.{IsBalancedMap}
use Rattle.plane_base.specs.Given.{laid}
use Rattle.plane_base.specs.Regions.{FillRule, OverlayRule}
use Rattle.plane_base.proofs.Facts.Maps.Normal.{normal_edges}
use Rattle.segment_split.specs.Adding.{IsTaken}
use Rattle.segment_split.specs.Groups.{Bounds, LiesWithin, EndsLieWithin}
use Rattle.segment_split.specs.Redrawing.{redrawn}
use Rattle.segment_split.specs.RedrawLaws.{Rearranges, RedrawsToTheEnd}
use Rattle.segment_split.specs.declared.solver.Precision.{Precision}
use Rattle.segment_split.proofs.Facts.Adding.Held.{laid_holds, taken_all}
use Rattle.contour_walk.specs.Answering.{Answering, answer_with}
use Rattle.contour_walk.specs.AnswerLaws.{IsEndIn, AnswersStandOnEnds}
use Rattle.contour_walk.specs.BindingLaws.{all_contours}
use Rattle.contour_walk.specs.WalkLaws.{borders}
use Rattle.polygon_overlay.specs.Builders.{IsHeld}
use Rattle.polygon_overlay.specs.Overlays.{redrawn_of}
use Rattle.polygon_overlay.specs.OverlayLaws.{HoldsContours, overlay_of}
use Rattle.polygon_overlay.specs.BoxLaws.{AnswersStayInTheBox}
use Rattle.polygon_overlay.proofs.Answering.ArrangementLaws.{redrawn_arrangement}

module _ (box : Bounds) where
  abbrev IsInside : Edge → Type 0
  IsInside s = LiesWithin box s.a × LiesWithin box s.b

  -- an end of an edge in the box lies there
  end_inside : (es : List (Entry Count)) (p : Point) → EndsLieWithin box es → IsEndIn es p → LiesWithin box p
  end_inside es p within (e, here, at) = by at
    where
      ends : IsInside e.edge
      ends = All-contains (λ e. IsInside e.edge) es e within here

      by : (e.edge.a ≡ p) ⊎ (e.edge.b ≡ p) → LiesWithin box p
      by (inl is) = subst (LiesWithin box) is ends.0
      by (inr is) = subst (LiesWithin box) is ends.1

  -- all that contours in the box lay lies there, thinned or not
  laid_inside : (keep_all : Bool) (c : Count) (contours taken : List (List Point)) → AllZip (IsTaken keep_all) contours taken
      → All (All (LiesWithin box)) contours → EndsLieWithin box (flat_map (laid boolean c) taken)
  laid_inside keep_all c [] [] zip inside = All-nil (λ e. IsInside e.edge)
  laid_inside keep_all c [] (t ∷ ts) zip inside = absurd zip
  laid_inside keep_all c (x ∷ xs) [] zip inside = absurd zip
  laid_inside keep_all c (x ∷ xs) (t ∷ ts) zip inside =
      let first =
      taken_all boolean c keep_all (LiesWithin box) (λ es. Unit {0}) (λ es contour all held. tt) keep_all x t zip.0 (All-head (All (LiesWithin box)) x xs inside) in
      All-append (λ e. IsInside e.edge) (laid boolean c t) (flat_map (laid boolean c) ts)
      (All-weaker (λ e. IsInside e.edge × Unit {0}) (λ e. IsInside e.edge) (λ e h. h.0) (laid boolean c t)
      (laid_holds boolean (LiesWithin box) (λ count. Unit {0}) c tt tt t first))
      (laid_inside keep_all c xs ts zip.1 (All-tail (All (LiesWithin box)) x xs inside))

  held_inside : (keep_all : Bool) (subjects clips : List (List Point)) (held : List (Entry Count)) → HoldsContours keep_all subjects clips held
      → All (All (LiesWithin box)) subjects → All (All (LiesWithin box)) clips → EndsLieWithin box held
  held_inside keep_all subjects clips held holds of_subjects of_clips =
      let subject_edges = flat_map (laid boolean one_subject) holds.taken_subjects in
      let clip_edges = flat_map (laid boolean one_clip) holds.taken_clips in
      All-permutation (λ e. IsInside e.edge) (subject_edges ++ clip_edges) held holds.is
      (All-append (λ e. IsInside e.edge) subject_edges clip_edges
      (laid_inside keep_all one_subject subjects holds.taken_subjects holds.are_subjects of_subjects)
      (laid_inside keep_all one_clip clips holds.taken_clips holds.are_clips of_clips))

module _ (rearranges : (precision : Precision) → Rearranges boolean (redrawn boolean precision)) (ends : (precision : Precision) → RedrawsToTheEnd boolean precision)
    (balanced : (precision : Precision) (es : List (Entry Count)) → IsBalancedMap es → IsBalancedMap (redrawn boolean precision es))
    (stand : AnswersStandOnEnds) where
  pub of_held :
      (least greatest : ℤ) (box : Bounds) (o : Answering) (fill : FillRule) (rule : OverlayRule) (precision : Precision) (held : List (Entry Count)) →
      IsHeld least greatest held → EndsLieWithin box held → All (All (LiesWithin box)) (all_contours (overlay_of o fill rule precision held))
  of_held least greatest box o fill rule precision held is_held inside =
      let es = redrawn_of precision held in
      let within = (rearranges precision).bounded box (normal boolean held) (normal_edges boolean (IsInside box) held inside) in
      All-weaker (All (IsEndIn es)) (All (LiesWithin box))
      (λ contour ends. All-weaker (IsEndIn es) (LiesWithin box) (λ p end. end_inside box es p within end) contour ends)
      (all_contours (answer_with o (borders fill rule es)))
      (stand o fill rule es (redrawn_arrangement least greatest precision (rearranges precision) (ends precision) (balanced precision) held is_held))

  pub answers_stay_in_the_box : AnswersStayInTheBox
  answers_stay_in_the_box = record {
    of_held = of_held;
    of_contours = λ least greatest box keep_all subjects clips o fill rule precision held holds is_held of_subjects of_clips.
        of_held least greatest box o fill rule precision held is_held (held_inside box keep_all subjects clips held holds of_subjects of_clips);
  }
