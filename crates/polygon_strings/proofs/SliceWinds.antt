-- Walks that pass each half of a string map once wind as the walks along the boundary of the subject do.
use Rattle.std.proofs.Common.{◌≡◌, Bool, true, false, cond, if◌then◌else◌, ◌&&◌, ◌||◌, List, [], ◌∷◌, ◌++◌, map, All, ℤ, pos, negsuc, ◌+ℤ◌, refl, sym, ◌∙◌, subst, arith}
use Rattle.std.specs.List.{flat_map}
use Rattle.std.proofs.lemmas.Int.{ints}
use Rattle.std.proofs.lemmas.List.{get_or-map, length-map}
use Rattle.std.proofs.lemmas.List.Elements.{All-weaker}
use Rattle.plane_base.specs.Plane.{Point, Edge, RationalPoint, IsRational, is_before, is_below, step_winding}
use Rattle.plane_base.specs.Counts.{Count, Entry}
use Rattle.plane_base.specs.Windings.{winding, contour_winding, cycle_winding}
use Rattle.plane_base.specs.Regions.{FillRule, Subject, region}
use Rattle.plane_base.specs.Totals.{total}
use Rattle.plane_base.proofs.Facts.Lists.Totals.{total_append, total_map, total_flat_map, total_filter, total_pointwise_on, total_permutation}
use Rattle.plane_base.proofs.Facts.Points.Orders.{point_less_x, before_is_less}
use Rattle.plane_base.proofs.Facts.Windings.Sums.{contour_winding_is, is_below_back}
use Rattle.segment_split.specs.Strings.{StringCount}
use Rattle.segment_arrangement.specs.EdgeSides.{differ, is_boundary, boundary}
use Rattle.segment_arrangement.specs.SideLaws.{IsArrangement}
use Rattle.segment_arrangement.specs.Strings.{subject_of, string_link_of, all_string_links, has_line}
use Rattle.contour_walk.specs.Walks.{Border}
use Rattle.contour_walk.specs.WalkLaws.{border_of, borders, step_along, contour_steps, contours_of, turns_of, PassAll, AllAreWalked, AnswerWinds}
use Rattle.contour_walk.specs.Loops.{long_loops}
use Rattle.contour_walk.specs.LoopLaws.{LongLoopsWind}
use Rattle.contour_walk.proofs.Facts.Walks.Winds.{contours_by_steps}
use Rattle.polygon_strings.specs.Slices.{halves_of_link, halves}
use Rattle.polygon_strings.specs.SliceLaws.{SliceWalksWind}
use Rattle.polygon_strings.proofs.NextHalves.{seen, fill_at, is_on, fill_tells}

-- what a half's step adds to the winding at a point
abbrev added : Bool → RationalPoint → Border → ℤ
added output p b = step_winding (step_along output b).a (step_along output b).b p

abbrev half : Edge → Bool → Border
half s above = record { edge = s; above = above }

-- both halves of an edge add nothing together
opposite : (output : Bool) (p : RationalPoint) (s : Edge) → is_before s.a s.b ≡ true → added output p (half s true) +ℤ added output p (half s false) ≡ pos 0
opposite output p s directed = by output (is_below s.a s.b p) (is_below s.b s.a p) (is_below_back s.b s.a p (point_less_x s.a s.b (before_is_less s.a s.b directed)))
  where
    forth : (below back : Bool) → back ≡ false → cond below (pos 1) (cond back (negsuc 0) (pos 0)) +ℤ cond back (pos 1) (cond below (negsuc 0) (pos 0)) ≡ pos 0
    forth below true e = absurd (cc)
    forth true false e = refl
    forth false false e = refl

    back_forth : (below back : Bool) → back ≡ false → cond back (pos 1) (cond below (negsuc 0) (pos 0)) +ℤ cond below (pos 1) (cond back (negsuc 0) (pos 0)) ≡ pos 0
    back_forth below true e = absurd (cc)
    back_forth true false e = refl
    back_forth false false e = refl

    by : (o below back : Bool) → is_below s.b s.a p ≡ false → added o p (half s true) +ℤ added o p (half s false) ≡ pos 0
    by true below back e = back_forth (is_below s.a s.b p) (is_below s.b s.a p) e
    by false below back e = forth (is_below s.a s.b p) (is_below s.b s.a p) e

-- the halves of an edge, of those that it has, add what that along the boundary adds
sum_halves : (f : Border → ℤ) (s : Edge) (upper lower line : Bool) → f (half s true) +ℤ f (half s false) ≡ pos 0
    → total f (cond ((differ lower upper || line) && upper) (half s true ∷ []) [] ++ cond ((differ lower upper || line) && lower) (half s false ∷ []) [])
    ≡ (if differ lower upper then f (half s upper) else pos 0)
sum_halves f s true true true h = nothing (f (half s true)) (f (half s false)) h
  where
    nothing : (x y : ℤ) → x +ℤ y ≡ pos 0 → x +ℤ (y +ℤ pos 0) ≡ pos 0
    nothing x y e = omega (arith, ints)
sum_halves f s true true false h = refl
sum_halves f s true false line h = alone (f (half s true))
  where
    alone : (x : ℤ) → x +ℤ pos 0 ≡ x
    alone x = omega (arith, ints)
sum_halves f s false true line h = alone (f (half s false))
  where
    alone : (x : ℤ) → x +ℤ pos 0 ≡ x
    alone x = omega (arith, ints)
sum_halves f s false false true h = refl
sum_halves f s false false false h = refl

module _ (fill : FillRule) (es : List (Entry StringCount)) (output : Bool) (p : RationalPoint) (arranged : IsArrangement (subject_of es)) where
  abbrev seen_at : Entry StringCount → Entry Count
  seen_at e = seen fill es arranged e

  of_edge : (e : Entry StringCount) → is_before e.edge.a e.edge.b ≡ true
      → total (added output p) (halves_of_link (string_link_of fill es e)) ≡ (if is_boundary fill Subject (subject_of es) (seen_at e) then added output p (border_of fill Subject (subject_of es) (seen_at e)) else pos 0)
  of_edge e directed =
      (λ i. total (added output p) (cond ((differ (fill_tells fill es arranged false e i) (fill_tells fill es arranged true e i) || has_line (fill_at fill es arranged e)) && fill_tells fill es arranged true e i) (half e.edge true ∷ []) []
      ++ cond ((differ (fill_tells fill es arranged false e i) (fill_tells fill es arranged true e i) || has_line (fill_at fill es arranged e)) && fill_tells fill es arranged false e i) (half e.edge false ∷ []) []))
      ∙ sum_halves (added output p) e.edge (is_on fill es arranged true (seen_at e)) (is_on fill es arranged false (seen_at e)) (has_line (fill_at fill es arranged e)) (opposite output p e.edge directed)

  directed_entries : All (λ (e : Entry StringCount). is_before e.edge.a e.edge.b ≡ true) es
  directed_entries = all_of_map seen_at (λ (s : Entry Count). is_before s.edge.a s.edge.b ≡ true) es arranged.directed
    where
      all_of_map : {A B : Type 0} (f : A → B) (P : B → Type 0) (xs : List A) → All P (map f xs) → All (λ x. P (f x)) xs
      all_of_map f P xs h i d l = subst P (get_or-map f xs i d (f d) l) (h i (f d) (rw (length-map xs f) l))

  -- the steps of all halves add what those along the boundary add
  halves_add : total (added output p) (halves fill es) ≡ total (added output p) (borders fill Subject (subject_of es))
  halves_add =
      total_flat_map (added output p) halves_of_link (all_string_links fill es)
      ∙ (total_map (λ l. total (added output p) (halves_of_link l)) (string_link_of fill es) es
      ∙ (total_pointwise_on (λ e. total (added output p) (halves_of_link (string_link_of fill es e))) (λ e. (if is_boundary fill Subject (subject_of es) (seen_at e) then added output p (border_of fill Subject (subject_of es) (seen_at e)) else pos 0)) es
      (All-weaker (λ (e : Entry StringCount). is_before e.edge.a e.edge.b ≡ true) (λ e. total (added output p) (halves_of_link (string_link_of fill es e)) ≡ (if is_boundary fill Subject (subject_of es) (seen_at e) then added output p (border_of fill Subject (subject_of es) (seen_at e)) else pos 0)) of_edge es directed_entries)
      ∙ (sym (total_map (λ s. (if is_boundary fill Subject (subject_of es) s then added output p (border_of fill Subject (subject_of es) s) else pos 0)) seen_at es)
      ∙ (sym (total_filter (λ s. added output p (border_of fill Subject (subject_of es) s)) (is_boundary fill Subject (subject_of es)) (subject_of es))
      ∙ sym (total_map (added output p) (border_of fill Subject (subject_of es)) (boundary fill Subject (subject_of es)))))))

  -- contours that pass these links add what their steps add
  steps_add : (links : List Border) (contours : List (List Point)) → PassAll output links contours → contour_winding contours p ≡ total (added output p) links
  steps_add links contours pass =
      contours_by_steps contours p
      ∙ (total_permutation (λ (s : Edge). step_winding s.a s.b p) (map (step_along output) links) (flat_map contour_steps contours) pass
      ∙ total_map (λ (s : Edge). step_winding s.a s.b p) (step_along output) links)

  walks_wind : AllAreWalked → AnswerWinds → (walks : List (List Point)) → PassAll output (halves fill es) walks → IsRational p → contour_winding walks p ≡ turns_of output (region fill Subject (winding (subject_of es) p))
  walks_wind walked answers walks pass rational =
      steps_add (halves fill es) walks pass
      ∙ (halves_add
      ∙ (sym (steps_add (borders fill Subject (subject_of es)) (contours_of output (borders fill Subject (subject_of es))) (walked fill Subject (subject_of es) output arranged))
      ∙ answers fill Subject (subject_of es) output p arranged rational))

-- the loops of walks wind together as the walks
loops_wind : LongLoopsWind → (walks : List (List Point)) (p : RationalPoint) → contour_winding (flat_map (long_loops 0) walks) p ≡ contour_winding walks p
loops_wind long [] p = refl
loops_wind long (w ∷ walks) p =
    apart (long_loops 0 w) (flat_map (long_loops 0) walks)
    ∙ ((λ i. long w p i +ℤ loops_wind long walks p i) ∙ sym (apart (w ∷ []) walks))
  where
    apart : (xs ys : List (List Point)) → contour_winding (xs ++ ys) p ≡ contour_winding xs p +ℤ contour_winding ys p
    apart xs ys =
        contour_winding_is (xs ++ ys) p
        ∙ (total_append (λ c. cycle_winding c p) xs ys ∙ (λ i. sym (contour_winding_is xs p) i +ℤ sym (contour_winding_is ys p) i))

pub slice_walks_wind : AllAreWalked → AnswerWinds → LongLoopsWind → SliceWalksWind
slice_walks_wind walked answers long = record {
  walks = λ fill es output walks arranged pass p rational. walks_wind fill es output p arranged walked answers walks pass rational;
  loops = λ fill es output walks arranged pass p rational. loops_wind long walks p ∙ walks_wind fill es output p arranged walked answers walks pass rational;
}
