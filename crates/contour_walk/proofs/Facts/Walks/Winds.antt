-- Contours that pass each link of the boundary once, with the region on one hand, wind once round the region.
use Rattle.std.proofs.Common.{◌≡◌, Bool, true, false, cond, if◌then◌else◌, List, [], ◌∷◌, ◌++◌, map, flat_map, All, ℤ, pos, negsuc, ◌+ℤ◌, neg_ℤ, refl, sym, ap, ◌∙◌}
use Rattle.std.proofs.lemmas.List.Elements.{All-weaker}
use Rattle.plane_base.specs.Plane.{Point, Edge, RationalPoint, is_before, is_below, step_winding}
use Rattle.plane_base.specs.Counts.{Count, Entry}
use Rattle.plane_base.specs.Windings.{contour_winding, path_winding, cycle_winding}
use Rattle.plane_base.specs.Regions.{FillRule, OverlayRule, region}
use Rattle.plane_base.specs.Totals.{total}
use Rattle.plane_base.proofs.Facts.Lists.Totals.{total_map, total_flat_map, total_filter, total_pointwise, total_pointwise_on, total_permutation, total_negated}
use Rattle.plane_base.proofs.Facts.Points.Orders.{point_less_x, before_is_less}
use Rattle.plane_base.proofs.Facts.Windings.Sums.{contour_winding_is, is_below_back}
use Rattle.segment_arrangement.specs.EdgeSides.{lower_side, upper_side, differ, is_boundary, boundary, sign}
use Rattle.segment_arrangement.specs.SideLaws.{SignsSumToRegion}
use Rattle.contour_walk.specs.Walks.{is_same}
use Rattle.contour_walk.specs.WalkLaws.{border_of, borders, step_along, steps_to, contour_steps, contours_of, AllAreWalked, PassingWinds, AnswerWinds}

-- what a step adds to the winding at a point
abbrev added : RationalPoint → Edge → ℤ
added p s = step_winding s.a s.b p

-- a contour winds as its steps do
path_by_steps : (first u : Point) (rest : List Point) (p : RationalPoint) → path_winding (u ∷ rest ++ first ∷ []) p ≡ total (added p) (steps_to first (u ∷ rest))
path_by_steps first u [] p = refl
path_by_steps first u (r ∷ rest) p = ap (λ t. step_winding u r p +ℤ t) (path_by_steps first r rest p)

cycle_by_steps : (c : List Point) (p : RationalPoint) → cycle_winding c p ≡ total (added p) (contour_steps c)
cycle_by_steps [] p = refl
cycle_by_steps (u ∷ rest) p = path_by_steps u u rest p

pub contours_by_steps : (cs : List (List Point)) (p : RationalPoint) → contour_winding cs p ≡ total (added p) (flat_map contour_steps cs)
contours_by_steps cs p =
    contour_winding_is cs p
    ∙ (total_pointwise (λ c. cycle_winding c p) (λ c. total (added p) (contour_steps c)) cs (λ c. cycle_by_steps c p)
    ∙ sym (total_flat_map (added p) contour_steps cs))

abbrev turned_if : Bool → ℤ → ℤ
turned_if output z = cond output (neg_ℤ z) z

pub total_turned_if : {A : Type 0} (output : Bool) (f : A → ℤ) (xs : List A) → total (λ x. turned_if output (f x)) xs ≡ turned_if output (total f xs)
total_turned_if true f xs = total_negated f xs
total_turned_if false f xs = refl

module _ (fill : FillRule) (rule : OverlayRule) (es : List (Entry Count)) (output : Bool) (p : RationalPoint) where
  -- what a link's step adds is its sign where it lies below the point
  step_of_link : (e : Entry Count) → is_before e.edge.a e.edge.b ≡ true
      → (if is_boundary fill rule es e then added p (step_along output (border_of fill rule es e)) else pos 0) ≡ turned_if output (cond (is_below e.edge.a e.edge.b p) (sign fill rule es e) (pos 0))
  step_of_link e directed =
      ap (λ z. (if is_boundary fill rule es e then z else pos 0)) (either (is_same (region fill rule (upper_side es e)) output))
      ∙ by output (region fill rule (upper_side es e)) (region fill rule (lower_side es e.edge)) (is_below e.edge.a e.edge.b p) (is_below e.edge.b e.edge.a p) (is_below_back e.edge.b e.edge.a p (point_less_x e.edge.a e.edge.b (before_is_less e.edge.a e.edge.b directed)))
    where
      either : (t : Bool) → added p (cond t (record { a = e.edge.b; b = e.edge.a }) e.edge) ≡ cond t (step_winding e.edge.b e.edge.a p) (step_winding e.edge.a e.edge.b p)
      either true = refl
      either false = refl

      by : (o u l below back : Bool) → back ≡ false
          → (if differ l u then cond (is_same u o) (cond back (pos 1) (cond below (negsuc 0) (pos 0))) (cond below (pos 1) (cond back (negsuc 0) (pos 0))) else pos 0)
          ≡ turned_if o (cond below (cond u (cond l (pos 0) (pos 1)) (cond l (negsuc 0) (pos 0))) (pos 0))
      by o u l below true h = absurd (cc)
      by true true true true false h = refl
      by true true true false false h = refl
      by true true false true false h = refl
      by true true false false false h = refl
      by true false true true false h = refl
      by true false true false false h = refl
      by true false false true false h = refl
      by true false false false false h = refl
      by false true true true false h = refl
      by false true true false false h = refl
      by false true false true false h = refl
      by false true false false false h = refl
      by false false true true false h = refl
      by false false true false false h = refl
      by false false false true false h = refl
      by false false false false false h = refl

  steps_by_signs : All (λ e. is_before e.edge.a e.edge.b ≡ true) es
      → total (added p) (map (step_along output) (borders fill rule es)) ≡ turned_if output (total (λ e. cond (is_below e.edge.a e.edge.b p) (sign fill rule es e) (pos 0)) es)
  steps_by_signs directed =
      total_map (added p) (step_along output) (borders fill rule es)
      ∙ (total_map (λ l. added p (step_along output l)) (border_of fill rule es) (boundary fill rule es)
      ∙ (total_filter (λ e. added p (step_along output (border_of fill rule es e))) (is_boundary fill rule es) es
      ∙ (total_pointwise_on (λ e. (if is_boundary fill rule es e then added p (step_along output (border_of fill rule es e)) else pos 0)) (λ e. turned_if output (cond (is_below e.edge.a e.edge.b p) (sign fill rule es e) (pos 0))) es
      (All-weaker (λ e. is_before e.edge.a e.edge.b ≡ true) (λ e. (if is_boundary fill rule es e then added p (step_along output (border_of fill rule es e)) else pos 0) ≡ turned_if output (cond (is_below e.edge.a e.edge.b p) (sign fill rule es e) (pos 0))) step_of_link es directed)
      ∙ total_turned_if output (λ e. cond (is_below e.edge.a e.edge.b p) (sign fill rule es e) (pos 0)) es)))

pub passing_winds : SignsSumToRegion → PassingWinds
passing_winds signs fill rule es output contours p arranged pass some =
    contours_by_steps contours p
    ∙ (total_permutation (added p) (map (step_along output) (borders fill rule es)) (flat_map contour_steps contours) pass
    ∙ (steps_by_signs fill rule es output p arranged.directed
    ∙ ap (turned_if output) (signs fill rule es p arranged some)))

pub answer_winds : SignsSumToRegion → AllAreWalked → AnswerWinds
answer_winds signs walked fill rule es output p arranged =
    passing_winds signs fill rule es output (contours_of output (borders fill rule es)) p arranged (walked fill rule es output arranged)
