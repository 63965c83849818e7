-- The steps of an answer for horizontal and vertical edges pass each place of a row or column once at most.
use Rattle.std.proofs.Common.{◌≡◌, ◌≢◌, Bool, true, false, not, cond, ◌&&◌, List, map, flat_map, get_or, All, AllPairs, Contains, ℤ, pos, ◌+ℤ◌, ◌*ℤ◌, ◌≤ℤ◌, int_eq, refl, sym, ap, ◌∙◌, subst, arith}
use Rattle.std.specs.declared.cmp.Ordering.TheVariants.{Less}
use Rattle.std.proofs.lemmas.Int.{ints}
use Rattle.std.proofs.lemmas.List.Elements.{All-map, All-weaker, All-contains, All-contains_itself, All-filter}
use Rattle.std.proofs.lemmas.List.Kept.{AllPairs-filter}
use Rattle.plane_base.specs.Plane.{Point, Edge, RationalPoint, IsRational, is_before, edge_order}
use Rattle.plane_base.specs.Balance.{IsBalancedMap}
use Rattle.plane_base.specs.Counts.{Count, Entry, boolean, normal}
use Rattle.plane_base.specs.Regions.{FillRule, OverlayRule, region}
use Rattle.plane_base.specs.Segments.{parted}
use Rattle.plane_base.specs.Thinning.{IsThinned}
use Rattle.plane_base.specs.Totals.{total}
use Rattle.plane_base.proofs.Facts.Lists.Totals.{total_map, total_flat_map, total_pointwise, total_pointwise_on, total_monotone_on, total_permutation}
use Rattle.plane_base.proofs.Facts.Points.Orders.{edge_itself}
use Rattle.segment_split.specs.LineLaws.{is_rectilinear, AllRectilinear, HorizontalAndVerticalMeetWhole, RedrawsByLines}
use Rattle.segment_split.specs.Passes.{edges_of}
use Rattle.segment_split.specs.Redrawing.{redrawn}
use Rattle.segment_split.specs.RedrawLaws.{Rearranges, RedrawsToTheEnd}
use Rattle.segment_split.specs.declared.solver.Precision.{Precision}
use Rattle.segment_arrangement.specs.EdgeSides.{upper_side, is_boundary, boundary}
use Rattle.segment_arrangement.specs.SideLaws.{IsArrangement}
use Rattle.segment_arrangement.proofs.Facts.ConstantSides.{Contains-map}
use Rattle.contour_walk.specs.Answering.{Answering}
use Rattle.contour_walk.specs.BindingLaws.{all_contours, CornersStay}
use Rattle.contour_walk.specs.Orderly.{AnswersAreOrderly}
use Rattle.contour_walk.specs.Shapes.{without_straight, finished}
use Rattle.contour_walk.specs.Walks.{is_same}
use Rattle.contour_walk.specs.WalkLaws.{border_of, borders, step_along, contour_steps, PassAll}
use Rattle.polygon_overlay.specs.Builders.{IsHeld}
use Rattle.polygon_overlay.specs.OverlayLaws.{overlay_of}
use Rattle.polygon_overlay.proofs.Holding.TallyLaws.{AllPairs-map}
use Rattle.polygon_overlay.proofs.Tiles.Steps.{at_most}
use Rattle.polygon_overlay.proofs.Tiles.Straight.{arranged, told, are_finished, redrawn_straight, full_straight, is_thinned}
use Rattle.polygon_overlay.proofs.Sized.Terms.{just_at, crossing, is_under, has_begun, column_of, row_over, falls_past, climbs_past, right_past, left_past, PassOneByOne, PassOneByOneUp}
use Rattle.polygon_overlay.proofs.Sized.Once.{keeps_across, keeps_up, crosses_back, thinned_cross_less, parted_pass_once}

abbrev IsStraight : Edge → Type 0
IsStraight s = is_rectilinear s ≡ true

-- ---- what is summed over the links of a boundary, and over the steps that pass them

module _ (fill : FillRule) (rule : OverlayRule) (es : List (Entry Count)) (arranged : IsArrangement es) (all : All (λ e. IsStraight e.edge) es) where
  abbrev links : List Edge
  links = map (λ (e : Entry Count). e.edge) (boundary fill rule es)

  links_straight : AllRectilinear links
  links_straight =
      All-map IsStraight (λ (e : Entry Count). e.edge) (boundary fill rule es) (All-filter (is_boundary fill rule es) (λ (e : Entry Count). IsStraight e.edge) es all)

  links_forward : All (λ s. is_before s.a s.b ≡ true) links
  links_forward =
      All-map (λ (s : Edge). is_before s.a s.b ≡ true) (λ (e : Entry Count). e.edge) (boundary fill rule es)
      (All-filter (is_boundary fill rule es) (λ (e : Entry Count). is_before e.edge.a e.edge.b ≡ true) es arranged.directed)

  links_differ : AllPairs (λ s t. s ≢ t) links
  links_differ =
      AllPairs-map (λ (s t : Edge). s ≢ t) (λ (e : Entry Count). e.edge) (boundary fill rule es)
      (λ i j d h l. before_differs (get_or (boundary fill rule es) i d).edge (get_or (boundary fill rule es) j d).edge
      (AllPairs-filter (λ (e f : Entry Count). edge_order e.edge f.edge ≡ Less) (is_boundary fill rule es) es arranged.rising i j d h l))
    where
      before_differs : (s t : Edge) → edge_order s t ≡ Less → s ≢ t
      before_differs s t less same = let itself = edge_itself s in let e : edge_order s s ≡ Less = ap (edge_order s) same ∙ less in absurd (cc)

  link_is_key : (s : Edge) → Contains links s → Contains (map (λ (e : Entry Count). e.edge) es) s
  link_is_key s here =
      All-contains (Contains (map (λ (e : Entry Count). e.edge) es)) links s
      (All-map (Contains (map (λ (e : Entry Count). e.edge) es)) (λ (e : Entry Count). e.edge) (boundary fill rule es)
      (All-filter (is_boundary fill rule es) (λ (e : Entry Count). Contains (map (λ (e : Entry Count). e.edge) es) e.edge) es
      (All-weaker (Contains es) (λ (e : Entry Count). Contains (map (λ (e : Entry Count). e.edge) es) e.edge) (λ e at. Contains-map (λ (e : Entry Count). e.edge) es e at) es
      (All-contains_itself es))))
      here

  links_parted : AllPairs (λ s t. parted s t ≡ true) links
  links_parted i j d h l =
      arranged.in_ends (get_or links i d) (get_or links j d) (link_is_key (get_or links i d) (All-contains_itself links i d (omega (arith, h, l))))
      (link_is_key (get_or links j d) (All-contains_itself links j d l)) (links_differ i j d h l)

  module _ (g : Edge → ℤ) (back : (u v : Point) → IsStraight (record { a = u; b = v }) → g (record { a = v; b = u }) ≡ g (record { a = u; b = v })) (output : Bool) where
    passed_alike : total g (map (step_along output) (borders fill rule es)) ≡ total g links
    passed_alike =
        total_map g (step_along output) (borders fill rule es)
        ∙ (total_map (λ l. g (step_along output l)) (border_of fill rule es) (boundary fill rule es)
        ∙ (total_pointwise_on (λ e. g (step_along output (border_of fill rule es e))) (λ e. g e.edge) (boundary fill rule es)
        (All-weaker (λ (e : Entry Count). IsStraight e.edge) (λ e. g (step_along output (border_of fill rule es e)) ≡ g e.edge)
        (λ e h. by e h (is_same (region fill rule (upper_side es e)) output)) (boundary fill rule es)
        (All-filter (is_boundary fill rule es) (λ (e : Entry Count). IsStraight e.edge) es all))
        ∙ sym (total_map g (λ (e : Entry Count). e.edge) (boundary fill rule es))))
      where
        by : (e : Entry Count) → IsStraight e.edge → (b : Bool) → g (cond b (record { a = e.edge.b; b = e.edge.a }) e.edge) ≡ g e.edge
        by e h true = back e.edge.a e.edge.b h
        by e h false = refl

-- ---- answers

module _ (rearranges : (precision : Precision) → Rearranges boolean (redrawn boolean precision)) (ends : (precision : Precision) → RedrawsToTheEnd boolean precision)
    (balanced : (precision : Precision) (es : List (Entry Count)) → IsBalancedMap es → IsBalancedMap (redrawn boolean precision es))
    (orderly : AnswersAreOrderly) (corners : CornersStay) (whole : HorizontalAndVerticalMeetWhole boolean) (lines : (precision : Precision) → RedrawsByLines boolean precision)
    (least greatest : ℤ) (o : Answering) (fill : FillRule) (rule : OverlayRule) (precision : Precision) (held : List (Entry Count))
    (is_held : IsHeld least greatest held) (none : o.least ≡ 0) (all : AllRectilinear (edges_of (normal boolean held))) where
  abbrev es : List (Entry Count)
  es = redrawn boolean precision (normal boolean held)

  is_arranged : IsArrangement es
  is_arranged = arranged rearranges ends balanced orderly corners whole lines least greatest o fill rule precision held is_held none all

  es_straight : All (λ e. IsStraight e.edge) es
  es_straight = redrawn_straight rearranges ends balanced orderly corners whole lines least greatest o fill rule precision held is_held none all

  abbrev full : List (List Point)
  full = all_contours (told rearranges ends balanced orderly corners whole lines least greatest o fill rule precision held is_held none all).full

  full_pass : PassAll o.clockwise (borders fill rule es) full
  full_pass = (told rearranges ends balanced orderly corners whole lines least greatest o fill rule precision held is_held none all).passed

  module _ (g : Edge → ℤ) (back : (u v : Point) → IsStraight (record { a = u; b = v }) → g (record { a = v; b = u }) ≡ g (record { a = u; b = v }))
      (less : (c d : List Point) → AllRectilinear (contour_steps c) → IsThinned c d → total g (contour_steps d) ≤ℤ total g (contour_steps c))
      (few : total g (links fill rule es is_arranged es_straight) ≤ℤ pos 1) where
    finished_less : total g (flat_map contour_steps (map (finished o.keep_all) full)) ≤ℤ total g (flat_map contour_steps full)
    finished_less =
        subst (λ n. n ≤ℤ total g (flat_map contour_steps full))
        (sym (total_flat_map g contour_steps (map (finished o.keep_all) full) ∙ total_map (λ c. total g (contour_steps c)) (finished o.keep_all) full))
        (subst (λ n. total (λ c. total g (contour_steps (finished o.keep_all c))) full ≤ℤ n) (sym (total_flat_map g contour_steps full))
        (total_monotone_on (λ c. total g (contour_steps (finished o.keep_all c))) (λ c. total g (contour_steps c)) full
        (λ i d l. one o.keep_all (get_or full i d) (All-contains_itself full i d l)
        (full_straight rearranges ends balanced orderly corners whole lines least greatest o fill rule precision held is_held none all i d l))))
      where
        level : (x : ℤ) → x ≤ℤ x
        level x = omega (arith, ints)

        one : (keep_all : Bool) (c : List Point) → Contains full c → AllRectilinear (contour_steps c)
            → total g (contour_steps (finished keep_all c)) ≤ℤ total g (contour_steps c)
        one true c here h = level (total g (contour_steps c))
        one false c here h =
            less c (without_straight c) h (is_thinned rearranges ends balanced orderly corners whole lines least greatest o fill rule precision held is_held none all c here)

    one_at_most : total g (flat_map contour_steps (all_contours (overlay_of o fill rule precision held))) ≤ℤ pos 1
    one_at_most =
        subst (λ cs. total g (flat_map contour_steps cs) ≤ℤ pos 1)
        (sym (are_finished rearranges ends balanced orderly corners whole lines least greatest o fill rule precision held is_held none all))
        (at_most (total g (flat_map contour_steps (map (finished o.keep_all) full))) (total g (flat_map contour_steps full)) (pos 1) finished_less
        (subst (λ n. n ≤ℤ pos 1)
        (sym (total_permutation g (map (step_along o.clockwise) (borders fill rule es)) (flat_map contour_steps full) full_pass
        ∙ passed_alike fill rule es is_arranged es_straight g back o.clockwise))
        few))

  module _ (p : RationalPoint) (some : IsRational p) where
    pub answers_pass_across : PassOneByOne (all_contours (overlay_of o fill rule precision held)) p
    answers_pass_across k =
        subst (λ n. n ≤ℤ pos 1)
        (total_pointwise (crossing (λ u. pos p.q *ℤ u.x) (is_under p) k) (just_at (column_of p) (falls_past p) (climbs_past p) k)
        (flat_map contour_steps (all_contours (overlay_of o fill rule precision held))) (λ s. by (int_eq (pos p.q *ℤ s.a.x) k) (is_under p s.a) (is_under p s.b)))
        (one_at_most (crossing (λ u. pos p.q *ℤ u.x) (is_under p) k)
        (λ u v h. crosses_back (λ u. pos p.q *ℤ u.x) (is_under p) k u v (keeps_across p k u v h))
        (λ c d h is. (thinned_cross_less p k c d h is).0)
        (parted_pass_once p k (links fill rule es is_arranged es_straight) some (links_straight fill rule es is_arranged es_straight) (links_forward fill rule es is_arranged es_straight)
        (links_differ fill rule es is_arranged es_straight) (links_parted fill rule es is_arranged es_straight)).0)
      where
        by : (e a b : Bool) → cond e (cond a (cond b (pos 0) (pos 1)) (cond b (pos 1) (pos 0))) (pos 0)
            ≡ cond e (cond (not a && b) (pos 1) (pos 0) +ℤ cond (a && not b) (pos 1) (pos 0)) (pos 0)
        by false a b = refl
        by true true true = refl
        by true true false = refl
        by true false true = refl
        by true false false = refl

    pub answers_pass_up : PassOneByOneUp (all_contours (overlay_of o fill rule precision held)) p
    answers_pass_up k =
        subst (λ n. n ≤ℤ pos 1)
        (total_pointwise (crossing (λ u. (pos p.q *ℤ u.y) +ℤ pos 1) (has_begun p) k) (just_at (row_over p) (right_past p) (left_past p) k)
        (flat_map contour_steps (all_contours (overlay_of o fill rule precision held))) (λ s. by (int_eq ((pos p.q *ℤ s.a.y) +ℤ pos 1) k) (has_begun p s.a) (has_begun p s.b)))
        (one_at_most (crossing (λ u. (pos p.q *ℤ u.y) +ℤ pos 1) (has_begun p) k)
        (λ u v h. crosses_back (λ u. (pos p.q *ℤ u.y) +ℤ pos 1) (has_begun p) k u v (keeps_up p k u v h))
        (λ c d h is. (thinned_cross_less p k c d h is).1)
        (parted_pass_once p k (links fill rule es is_arranged es_straight) some (links_straight fill rule es is_arranged es_straight) (links_forward fill rule es is_arranged es_straight)
        (links_differ fill rule es is_arranged es_straight) (links_parted fill rule es is_arranged es_straight)).1)
      where
        by : (e a b : Bool) → cond e (cond a (cond b (pos 0) (pos 1)) (cond b (pos 1) (pos 0))) (pos 0)
            ≡ cond e (cond (a && not b) (pos 1) (pos 0) +ℤ cond (not a && b) (pos 1) (pos 0)) (pos 0)
        by false a b = refl
        by true true true = refl
        by true true false = refl
        by true false true = refl
        by true false false = refl
