-- Walks pass each link of the boundary once, so their contours, straight points left out, and the shapes of the answer wind round the
-- region once.
use Rattle.std.proofs.Common.{◌≡◌, ℕ, zero, suc, ◌<◌, ◌≤◌, Bool, true, false, cond, not, List, [], ◌∷◌, ◌++◌, map, flat_map, length, All, IsPermutation, ℤ, pos, ◌+ℤ◌, ◌≤ℤ◌, get_or, refl, sym, ap, ◌∙◌, subst, arith}
use Rattle.std.specs.Prelude.{Option, Some, None}
use Rattle.std.specs.declared.cmp.Ordering.{Ordering}
use Rattle.std.specs.declared.cmp.Ordering.TheVariants.{Less, Equal, Greater}
use Rattle.std.specs.Ordering.{is_lt, is_eq}
use Rattle.std.proofs.lemmas.Int.{ints}
use Rattle.std.proofs.lemmas.List.{map-append}
use Rattle.std.proofs.lemmas.List.Elements.{All-contains, All-nil, All-cons, All-head, All-tail, All-contains_itself, All-filter, All-map}
use Rattle.std.proofs.lemmas.List.Sorted.{IsPermutation-map, All-permutation}
use Rattle.plane_base.specs.Plane.{Point, Edge, is_before, point_order, edge_order}
use Rattle.plane_base.specs.Counts.{Count, Entry}
use Rattle.plane_base.specs.Regions.{FillRule, OverlayRule}
use Rattle.plane_base.proofs.Facts.Points.Orders.{point_total, point_equal, edge_itself, greater_from_less, less_from_greater}
use Rattle.segment_arrangement.specs.EdgeSides.{is_boundary, boundary, indicator}
use Rattle.segment_arrangement.specs.SideLaws.{IsArrangement}
use Rattle.contour_walk.specs.Walks.{Border, Contour, between, path_edges, contour_edges, next_point, without, walked, walk_from, is_same, contour_from, top_link, left_by, walks_within, walks}
use Rattle.contour_walk.specs.WalkLaws.{border_of, borders, step_along, steps_to, contour_steps, contours_of, PassAll, AllAreWalked, AnchorsAreSided, PassingWinds}
use Rattle.contour_walk.specs.BindingLaws.{ContoursAreLong, ContoursHaveAnchors, WalksPassOnce, WalkAnchorsTell, WalkHolesAreOwned, all_contours, AnswerHasAllWalks, NeverStays, FinishedPassingWinds, FinishedWalksWind, ShapesWind, ShapesAreAnswer}
use Rattle.contour_walk.proofs.Straight.Laws.{steps_on}
use Rattle.contour_walk.proofs.Facts.Binding.Orders.{before_one_way}
use Rattle.contour_walk.proofs.Facts.Binding.Anchors.{times, IsClean}
use Rattle.contour_walk.specs.Binding.{is_above}
use Rattle.contour_walk.specs.Shapes.{finished, answer}
use Rattle.contour_walk.proofs.Binding.Passed.{clean, have_anchors}
use Rattle.contour_walk.proofs.Binding.Owners.{holes_have_outlines}
use Rattle.contour_walk.proofs.Facts.Binding.Lists.{flat_holds}
use Rattle.std.proofs.lemmas.List.Folds.{flat_map-map}
use Rattle.contour_walk.proofs.Binding.Answers.{same_contours, finished_contours_wind}
use Rattle.plane_base.proofs.Facts.Windings.Sums.{contour_winding_permutation}

-- ---- three points

between_either : (u v : Point) → between u v ≡ between v u
between_either u v = by (point_order u v) refl
  where
    forth : Edge
    forth = record { a = u; b = v }

    back : Edge
    back = record { a = v; b = u }

    by : (o : Ordering) → point_order u v ≡ o → between u v ≡ between v u
    by Less h = ap (λ o. cond (is_lt o) back forth) (greater_from_less point_total u v h) ∙ sym (ap (λ o. cond (is_lt o) forth back) h)
    by Equal h = let same = point_equal u v h in ap (λ w. between u w) (sym same) ∙ ap (λ w. between w u) same
    by Greater h = ap (λ o. cond (is_lt o) back forth) (less_from_greater point_total u v h) ∙ sym (ap (λ o. cond (is_lt o) forth back) h)

three_points : (points : List Point) → 0 < length points → IsClean (contour_edges points) → 3 ≤ length points
three_points [] l clean = absurd (omega (arith, l))
three_points (p ∷ []) l clean = absurd (steps_on p p (All-head (λ s. is_before s.a s.b ≡ true) (between p p) [] clean.directed) refl)
three_points (p ∷ r ∷ []) l clean =
    absurd (twice (times (between p r) (contour_edges (p ∷ r ∷ []))) (two (edge_itself (between p r)) (ap (λ s. edge_order s (between p r)) (between_either r p) ∙ edge_itself (between p r))) (clean.once (between p r) (0, omega arith, refl)))
  where
    twice : (t : ℤ) → t ≡ pos 2 → t ≤ℤ pos 1 → ⊥
    twice t e m = omega (arith, ints)

    two : {o q : Ordering} → o ≡ Equal → q ≡ Equal → cond (is_eq o) (pos 1) (pos 0) +ℤ (cond (is_eq q) (pos 1) (pos 0) +ℤ pos 0) ≡ pos 2
    two {o} {q} e f = ap (λ x. cond (is_eq x) (pos 1) (pos 0) +ℤ (cond (is_eq q) (pos 1) (pos 0) +ℤ pos 0)) e ∙ ap (λ x. pos 1 +ℤ (cond (is_eq x) (pos 1) (pos 0) +ℤ pos 0)) f
three_points (p ∷ r ∷ s ∷ rest) l clean = omega arith

pub contours_are_long : ContoursAreLong
contours_are_long fill rule es cs arranged passed i d l =
    three_points (get_or cs i d).points (passed.some i d l) (clean fill rule es arranged cs passed (get_or cs i d) (All-contains_itself cs i d l))

pub contours_have_anchors : ContoursHaveAnchors
contours_have_anchors fill rule es cs arranged passed = have_anchors fill rule es arranged cs passed

-- ---- steps and edges

abbrev pub edge_of : Edge → Edge
edge_of s = between s.a s.b

edges_by_steps_to : (first p : Point) (rest : List Point) → map edge_of (steps_to first (p ∷ rest)) ≡ path_edges first (p ∷ rest)
edges_by_steps_to first p [] = refl
edges_by_steps_to first p (r ∷ rest) = ap (λ ss. between p r ∷ ss) (edges_by_steps_to first r rest)

pub edges_by_steps : (points : List Point) → map edge_of (contour_steps points) ≡ contour_edges points
edges_by_steps [] = refl
edges_by_steps (p ∷ rest) = edges_by_steps_to p p rest

all_edges_by_steps : (contours : List (List Point)) → map edge_of (flat_map contour_steps contours) ≡ flat_map contour_edges contours
all_edges_by_steps [] = refl
all_edges_by_steps (c ∷ contours) =
    map-append edge_of (contour_steps c) (flat_map contour_steps contours)
    ∙ (ap (λ ss. ss ++ map edge_of (flat_map contour_steps contours)) (edges_by_steps c)
    ∙ ap (λ ss. contour_edges c ++ ss) (all_edges_by_steps contours))

pub edge_of_step : (output : Bool) (l : Border) → is_before l.edge.a l.edge.b ≡ true → edge_of (step_along output l) ≡ l.edge
edge_of_step output l directed = by (is_same l.above output)
  where
    forth : between l.edge.a l.edge.b ≡ l.edge
    forth = ap (λ b. cond b (record { a = l.edge.b; b = l.edge.a }) l.edge) (before_one_way l.edge.a l.edge.b directed)

    by : (b : Bool) → edge_of (cond b (record { a = l.edge.b; b = l.edge.a }) l.edge) ≡ l.edge
    by true = between_either l.edge.b l.edge.a ∙ forth
    by false = forth

edges_of_steps : (output : Bool) (ls : List Border) → All (λ l. is_before l.edge.a l.edge.b ≡ true) ls → map edge_of (map (step_along output) ls) ≡ map (λ l. l.edge) ls
edges_of_steps output [] all = refl
edges_of_steps output (l ∷ ls) all =
    ap (λ s. s ∷ map edge_of (map (step_along output) ls)) (edge_of_step output l (All-head (λ (l : Border). is_before l.edge.a l.edge.b ≡ true) l ls all))
    ∙ ap (λ ss. l.edge ∷ ss) (edges_of_steps output ls (All-tail (λ (l : Border). is_before l.edge.a l.edge.b ≡ true) l ls all))

-- ---- walks

walk_some : (clockwise : Bool) (links : List Border) (first second : Point) → 0 < length (walk_from clockwise links first second)
walk_some clockwise links first second = by (next_point (not clockwise) (without (between first second) links) first second)
  where
    by : (o : Option Point) → 0 < length {A = Point} (elim o [ None ↦ first ∷ second ∷ [] | Some end ↦ first ∷ walked clockwise (between end first) (length links) (without (between first second) links) second first ])
    by None = omega arith
    by (Some end) = omega arith

contour_some : (output : Bool) (links : List Border) (l : Border) → 0 < length (contour_from output links l).points
contour_some output links l = by (is_same l.above output)
  where
    by : (b : Bool) → 0 < length (cond b (walk_from b links l.edge.b l.edge.a) (walk_from b links l.edge.a l.edge.b))
    by true = walk_some true links l.edge.b l.edge.a
    by false = walk_some false links l.edge.a l.edge.b

within_some : (n : ℕ) (output : Bool) (links : List Border) → All (λ c. 0 < length c.points) (walks_within n output links)
within_some zero output links = All-nil (λ (c : Contour). 0 < length c.points)
within_some (suc n) output [] = All-nil (λ (c : Contour). 0 < length c.points)
within_some (suc n) output (l ∷ ls) = by (top_link l.edge.a (l ∷ ls)) (λ points. within_some n output (left_by points (l ∷ ls)))
  where
    by : (o : Option Border) → ((points : List Point) → All (λ c. 0 < length c.points) (walks_within n output (left_by points (l ∷ ls))))
        → All (λ c. 0 < length c.points) (elim o [ None ↦ [] | Some top ↦ let c = contour_from output (l ∷ ls) top in c ∷ walks_within n output (left_by c.points (l ∷ ls)) ])
    by None rest = All-nil (λ (c : Contour). 0 < length c.points)
    by (Some top) rest =
        let c = contour_from output (l ∷ ls) top in
        All-cons (λ (c : Contour). 0 < length c.points) c (walks_within n output (left_by c.points (l ∷ ls))) (contour_some output (l ∷ ls) top) (rest c.points)

-- ---- what passes each link

module _ (fill : FillRule) (rule : OverlayRule) (es : List (Entry Count)) (output : Bool) (contours : List (List Point)) (arranged : IsArrangement es) (passing : PassAll output (borders fill rule es) contours) where
  abbrev links : List Border
  links = borders fill rule es

  directed : All (λ l. is_before l.edge.a l.edge.b ≡ true) links
  directed =
      All-map (λ (l : Border). is_before l.edge.a l.edge.b ≡ true) (border_of fill rule es) (boundary fill rule es)
      (All-filter (is_boundary fill rule es) (λ (e : Entry Count). is_before e.edge.a e.edge.b ≡ true) es arranged.directed)

  pub edges_once : IsPermutation (map (λ l. l.edge) links) (flat_map contour_edges contours)
  edges_once =
      subst (λ ss. IsPermutation ss (flat_map contour_edges contours)) (edges_of_steps output links directed)
      (subst (IsPermutation (map edge_of (map (step_along output) links))) (all_edges_by_steps contours)
      (IsPermutation-map edge_of (map (step_along output) links) (flat_map contour_steps contours) passing))

  never_stay : All NeverStays contours
  never_stay i d l k t m =
      All-contains (λ (s : Edge). is_before s.a s.b ≡ true) (flat_map contour_edges contours) (get_or (contour_edges (get_or contours i d)) k t)
      (All-permutation (λ (s : Edge). is_before s.a s.b ≡ true) (map (λ (l : Border). l.edge) links) (flat_map contour_edges contours) edges_once
      (All-map (λ (s : Edge). is_before s.a s.b ≡ true) (λ (l : Border). l.edge) links directed))
      (flat_holds contour_edges contours (get_or contours i d) (get_or (contour_edges (get_or contours i d)) k t) (All-contains_itself contours i d l)
      (All-contains_itself (contour_edges (get_or contours i d)) k t m))

pub finished_passing_winds : PassingWinds → FinishedPassingWinds
finished_passing_winds passing_winds fill rule es output keep_all contours arranged passing p some =
    finished_contours_wind contours keep_all p (never_stay fill rule es output contours arranged passing)
    ∙ passing_winds fill rule es output contours p arranged passing some

module _ (walked : AllAreWalked) where
  pub walks_pass_once : WalksPassOnce
  walks_pass_once fill rule es output arranged = record {
    once =
        subst (IsPermutation (map (λ (l : Border). l.edge) (borders fill rule es))) (flat_map-map contour_edges (λ (c : Contour). c.points) (walks output (borders fill rule es)))
        (edges_once fill rule es output (contours_of output (borders fill rule es)) arranged (walked fill rule es output arranged));
    some = within_some (length (borders fill rule es)) output (borders fill rule es);
  }

  pub finished_walks_wind : FinishedPassingWinds → FinishedWalksWind
  finished_walks_wind winds fill rule es output keep_all arranged = winds fill rule es output keep_all (contours_of output (borders fill rule es)) arranged (walked fill rule es output arranged)

  module _ (sided : AnchorsAreSided) where
    pub walk_anchors_tell : WalkAnchorsTell
    walk_anchors_tell fill rule es output arranged i d l e found =
        let cs = walks output (borders fill rule es) in
        let k = sided fill rule es output (get_or cs i d) arranged (All-contains_itself cs i d l) in
        let same : k.0 ≡ e = inside k.0 e (sym k.1 ∙ found) in
        ap (is_above (borders fill rule es)) (sym same) ∙ k.2
      where
        inside : (s t : Edge) → Some s ≡ Some t → s ≡ t
        inside s t e = cc

    pub walk_holes_are_owned : WalkHolesAreOwned
    walk_holes_are_owned fill rule es output arranged =
        holes_have_outlines fill rule es (walks output (borders fill rule es)) arranged (walks_pass_once fill rule es output arranged) (walk_anchors_tell fill rule es output arranged)

    pub answer_has_all_walks : AnswerHasAllWalks
    answer_has_all_walks fill rule es output keep_all arranged =
        let links = borders fill rule es in
        same_contours links (walks output links) keep_all (walk_holes_are_owned fill rule es output arranged)

pub shapes_wind : AnswerHasAllWalks → FinishedWalksWind → ShapesWind
shapes_wind answer_has_all_walks finished_walks_wind fill rule es output keep_all arranged p some =
    let links = borders fill rule es in
    contour_winding_permutation (map (finished keep_all) (contours_of output links)) (all_contours (answer output keep_all links)) p
    (answer_has_all_walks fill rule es output keep_all arranged)
    ∙ finished_walks_wind fill rule es output keep_all arranged p some

pub shapes_are_answer : ShapesWind → ShapesAreAnswer
shapes_are_answer shapes_wind fill rule es keep_all arranged = record {
  inside = λ p some off filled. shapes_wind fill rule es false keep_all arranged p some ∙ ap indicator filled;
  outside = λ p some off empty. shapes_wind fill rule es false keep_all arranged p some ∙ ap indicator empty;
}
