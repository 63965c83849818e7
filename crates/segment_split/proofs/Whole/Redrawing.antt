-- Where edges cross at whole points alone, redrawing keeps windings, at every precision alike.
use Rattle.std.proofs.Common.{◌≡◌, ℕ, zero, suc, ◌+◌, true, List, get_or, flat_map, All, refl, sym, ap, subst, ◌∙◌}
use Rattle.plane_base.specs.Plane.{Edge, RationalPoint, is_before}
use Rattle.plane_base.specs.Counts.{Count, Counting, Entry, boolean, IsNormal}
use Rattle.plane_base.specs.Given.{given}
use Rattle.plane_base.specs.Crossing.{Marks}
use Rattle.plane_base.specs.Windings.{winding}
use Rattle.plane_base.proofs.Facts.Maps.Laying.{laid_path_directed, given_is_normal}
use Rattle.plane_base.proofs.Facts.Maps.Normal.{normal_is_normal}
use Rattle.plane_base.proofs.Facts.Windings.Sums.{winding_given_by_contours}
use Rattle.segment_split.specs.Paths.{path}
use Rattle.segment_split.specs.Passes.{early_passes, edges_of, marks_in, marks_on, cut, pass}
use Rattle.segment_split.specs.Redrawing.{iterate, spread, redrawn}
use Rattle.segment_split.specs.WholeLaws.{AllMeetWhole, WholeMeetingsStay, WholeMeetingsKeepWindings}
use Rattle.segment_split.specs.declared.solver.Precision.{Precision}
use Rattle.segment_split.proofs.Spread.Lists.{all_flat_map}
use Rattle.segment_split.proofs.Whole.Marks.{whole_pass}
use Rattle.segment_split.proofs.Whole.Pieces.{pieces_meet_whole}
use Rattle.segment_split.proofs.Whole.Windings.{winding_pass}

module _ {C : Type 0} (kind : Counting C) where
  after_pass : (precision : Precision) (es : List (Entry C)) (k : ℕ) → IsNormal kind es → AllMeetWhole (edges_of es) → AllMeetWhole (edges_of (pass kind precision es k))
  after_pass precision es k h whole = subst (λ (fs : List (Entry C)). AllMeetWhole (edges_of fs)) (sym (whole_pass kind precision es k whole)) (pieces_meet_whole kind es h.directed whole)

  pass_alike : (precision other : Precision) (es : List (Entry C)) (k m : ℕ) → AllMeetWhole (edges_of es) → pass kind precision es k ≡ pass kind other es m
  pass_alike precision other es k m whole = whole_pass kind precision es k whole ∙ sym (whole_pass kind other es m whole)

  pub pass_is_normal : (precision : Precision) (es : List (Entry C)) (k : ℕ) → IsNormal kind (pass kind precision es k)
  pass_is_normal precision es k =
      normal_is_normal kind (flat_map (cut kind marks (edges_of es)) es)
      (all_flat_map (λ (e : Entry C). is_before e.edge.a e.edge.b ≡ true) (cut kind marks (edges_of es)) es (λ i d h. directed (get_or es i d)))
    where
      marks : Edge → Edge → Marks
      marks = marks_in precision k

      directed : (e : Entry C) → All (λ (f : Entry C). is_before f.edge.a f.edge.b ≡ true) (cut kind marks (edges_of es) e)
      directed e = laid_path_directed kind e.count (path e.edge (marks_on marks (edges_of es) e.edge))

  -- a map that meets whole
  record IsWholeMap (es : List (Entry C)) : Type 0 where
    normal : IsNormal kind es
    whole : AllMeetWhole (edges_of es)

  iterate_whole : (precision : Precision) (es : List (Entry C)) → IsWholeMap es → (n : ℕ) → IsWholeMap (iterate kind precision es n)
  iterate_whole precision es h zero = h
  iterate_whole precision es h (suc n) =
      let k = iterate_whole precision es h n in
      record { normal = pass_is_normal precision (iterate kind precision es n) n; whole = after_pass precision (iterate kind precision es n) n k.normal k.whole }

  iterate_alike : (precision other : Precision) (es : List (Entry C)) → IsWholeMap es → (n : ℕ) → iterate kind precision es n ≡ iterate kind other es n
  iterate_alike precision other es h zero = refl
  iterate_alike precision other es h (suc n) =
      pass_alike precision other (iterate kind precision es n) n n (iterate_whole precision es h n).whole
      ∙ ap (λ fs. pass kind other fs n) (iterate_alike precision other es h n)

  -- so many passes, and then as many as the spread
  abbrev after : Precision → List (Entry C) → ℕ → List (Entry C)
  after precision es early = iterate kind precision es (early + spread (edges_of (iterate kind precision es early)))

  after_alike : (precision other : Precision) (es : List (Entry C)) → IsWholeMap es → (early : ℕ) → after precision es early ≡ after other es early
  after_alike precision other es h early =
      ap (λ (fs : List (Entry C)). iterate kind precision es (early + spread (edges_of fs))) (iterate_alike precision other es h early)
      ∙ iterate_alike precision other es h (early + spread (edges_of (iterate kind other es early)))

  redrawn_alike : (precision other : Precision) (es : List (Entry C)) → IsNormal kind es → AllMeetWhole (edges_of es) → redrawn kind precision es ≡ redrawn kind other es
  redrawn_alike precision other es h whole = after_alike precision other es (record { normal = h; whole = whole }) early_passes

  pub whole_meetings_stay : WholeMeetingsStay kind
  whole_meetings_stay = record { after_pass = after_pass; pass_alike = pass_alike; redrawn_alike = redrawn_alike }

-- ---- windings

pass_winds : (precision : Precision) (es : List (Entry Count)) (k : ℕ) (p : RationalPoint) → IsNormal boolean es → AllMeetWhole (edges_of es) → winding (pass boolean precision es k) p ≡ winding es p
pass_winds precision es k p h whole = ap (λ fs. winding fs p) (whole_pass boolean precision es k whole) ∙ winding_pass es p h whole

iterate_winds : (precision : Precision) (es : List (Entry Count)) (p : RationalPoint) → IsWholeMap boolean es → (n : ℕ) → winding (iterate boolean precision es n) p ≡ winding es p
iterate_winds precision es p h zero = refl
iterate_winds precision es p h (suc n) =
    let k = iterate_whole boolean precision es h n in
    pass_winds precision (iterate boolean precision es n) n p k.normal k.whole ∙ iterate_winds precision es p h n

after_winds : (precision : Precision) (es : List (Entry Count)) (p : RationalPoint) → IsWholeMap boolean es → (early : ℕ) → winding (after boolean precision es early) p ≡ winding es p
after_winds precision es p h early = iterate_winds precision es p h (early + spread (edges_of (iterate boolean precision es early)))

redrawn_winds : (precision : Precision) (es : List (Entry Count)) (p : RationalPoint) → IsNormal boolean es → AllMeetWhole (edges_of es) → winding (redrawn boolean precision es) p ≡ winding es p
redrawn_winds precision es p h whole = after_winds precision es p (record { normal = h; whole = whole }) early_passes

pub whole_meetings_keep_windings : WholeMeetingsKeepWindings
whole_meetings_keep_windings = record {
  pass_winds = pass_winds;
  redrawn_winds = redrawn_winds;
  as_contours = λ precision subjects clips p whole. redrawn_winds precision (given subjects clips) p (given_is_normal subjects clips) whole ∙ winding_given_by_contours subjects clips p;
}
