-- Keys that run along one pair of neighbours, and whose counts leave their range when they are joined: the first pass lays them all on
-- this pair.
use Rattle.std.proofs.Common.{◌≡◌, ◌≢◌, Bool, true, false, cond, ◌&&◌, List, [], ◌∷◌, ◌++◌, map, filter, flat_map, All, Contains, IsPermutation, ◌⊎◌, inl, inr, ℤ, pos, ◌+ℤ◌, ◌<ℤ◌, ◌≤ℤ◌, int_lt, Less, is_eq, refl, sym, ap, ap₂, subst, ◌∙◌, arith}
use Rattle.std.proofs.lemmas.Int.{ints}
use Rattle.std.proofs.lemmas.Bool.{false≢true}
use Rattle.std.proofs.lemmas.List.Elements.{All-nil, All-cons, All-head, All-tail, All-weaker, All-contains}
use Rattle.plane_base.specs.Plane.{Point, Edge, is_before, point_order, edge_order}
use Rattle.plane_base.specs.Segments.{strictly_inside}
use Rattle.plane_base.specs.Counts.{Count, Counting, Entry, boolean}
use Rattle.plane_base.specs.Totals.{total}
use Rattle.plane_base.specs.Given.{laid_path}
use Rattle.plane_base.specs.Crossing.{late_marks}
use Rattle.plane_base.specs.WholeLaws.{IsPiece}
use Rattle.plane_base.proofs.Facts.Maps.Laying.{lay_by}
use Rattle.plane_base.proofs.Facts.Points.Orders.{point_less_x, edge_equal, edge_itself, is_equal, before_is_less}
use Rattle.segment_split.specs.Kinds.{number_fits, count_fits}
use Rattle.segment_split.specs.Paths.{along, path}
use Rattle.segment_split.specs.Sweeps.{AreInOrder}
use Rattle.segment_split.specs.Passes.{edges_of, marks_in, marks_on, cut}
use Rattle.segment_split.specs.WholeLaws.{AllMeetWhole, MeetsAllWhole}
use Rattle.segment_split.specs.LineLaws.{AllRectilinear, IsCutPoint, is_part, JoinsNeighbours}
use Rattle.segment_split.specs.Refusals.{steps_in, counts_on, all_joined, IsOverfull}
use Rattle.segment_split.specs.declared.solver.Precision.{Precision}
use Rattle.segment_split.proofs.Spread.Lists.{IsDirectedEdge, flat_map_same, edges_contain}
use Rattle.segment_split.proofs.Redrawing.Neighbours.{counts_append}
use Rattle.segment_split.proofs.Passes.Steps.{IsRisingPath, IsStep, path_rises, path_steps}
use Rattle.segment_split.proofs.Whole.Marks.{whole_marks_on}
use Rattle.segment_split.proofs.Whole.Pieces.{directed_edges}
use Rattle.segment_split.proofs.Whole.CutPoints.{marked_inside, step_is_piece, step_joins, joins_step}
use Rattle.segment_split.proofs.Whole.Coordinates.{less_by_x, less_by_y, vertical_inside, horizontal_inside, horizontal_line, vertical_line, cut_by_coordinates}
use Rattle.segment_split.proofs.Whole.Neighbours.{contained, contains_no, not_itself, behind_at, further, first_step, later_step, step_cases}
use Rattle.segment_split.proofs.Stops.Permuted.{flat_map_permuted, flat_map_parted}

-- ---- what a path lays on a pair

module _ {C : Type 0} (kind : Counting C) (u : Edge) (c : C) where
  none_on : (fs : List (Entry C)) → All (λ f. f.edge ≢ u) fs → counts_on u fs ≡ []
  none_on [] h = refl
  none_on (f ∷ fs) h = by (is_eq (edge_order f.edge u)) refl (none_on fs (All-tail (λ f. f.edge ≢ u) f fs h))
    where
      by : (b : Bool) → is_eq (edge_order f.edge u) ≡ b → counts_on u fs ≡ [] → map (λ (e : Entry C). e.count) (cond b (f ∷ filter (λ e. is_eq (edge_order e.edge u)) fs) (filter (λ e. is_eq (edge_order e.edge u)) fs)) ≡ []
      by true e rest = absurd (All-head (λ f. f.edge ≢ u) f fs h (edge_equal f.edge u (is_equal (edge_order f.edge u) e)))
      by false e rest = rest

  path_lays_none : (ps : List Point) → IsRisingPath ps → (IsStep ps u → ⊥) → counts_on u (laid_path kind c ps) ≡ []
  path_lays_none ps rising none = none_on (laid_path kind c ps) (All-weaker (λ (f : Entry C). IsStep ps f.edge) (λ f. f.edge ≢ u) (λ f step e. none (subst (IsStep ps) e step)) (laid_path kind c ps) (path_steps kind c ps rising))

  path_lays : (ps : List Point) → IsRisingPath ps → IsStep ps u → counts_on u (laid_path kind c ps) ≡ c ∷ []
  path_lays [] rising step = absurd (contains_no u.a step.first)
  path_lays (p ∷ []) rising step = absurd (alone (contained p [] u.a step.first) (contained p [] u.b step.second))
    where
      alone : (p ≡ u.a) ⊎ Contains [] u.a → (p ≡ u.b) ⊎ Contains [] u.b → ⊥
      alone (inl e) (inl f) = not_itself u.b (ap (λ z. point_order z u.b) (sym f ∙ e) ∙ step.forward)
      alone (inr k) f = contains_no u.a k
      alone (inl e) (inr k) = contains_no u.b k
  path_lays (p ∷ q ∷ ps) rising step =
      ap (λ l. counts_on u (l ++ laid_path kind c (q ∷ ps))) (ap (λ o. lay_by kind o p q c) (first_step p q ps rising).forward)
      ∙ (counts_append u (first ∷ []) (laid_path kind c (q ∷ ps)) ∙ by (step_cases p q ps rising u step) (path_lays (q ∷ ps) (further p q ps rising)))
    where
      first : Entry C
      first = record { edge = record { a = p; b = q }; count = c }

      by : (record { a = p; b = q } ≡ u) ⊎ IsStep (q ∷ ps) u → (IsStep (q ∷ ps) u → counts_on u (laid_path kind c (q ∷ ps)) ≡ c ∷ [])
          → counts_on u (first ∷ []) ++ counts_on u (laid_path kind c (q ∷ ps)) ≡ c ∷ []
      by (inl e) rest =
          let none : IsStep (q ∷ ps) u → ⊥ = λ h. not_itself p (behind_at p q ps rising p (subst (Contains (q ∷ ps)) (sym (ap (λ (s : Edge). s.a) e)) h.first)) in
          ap₂ (λ l m. l ++ m) (ap (λ b. map (λ (e : Entry C). e.count) (cond b (first ∷ []) [])) (ap is_eq (ap (λ s. edge_order s u) e ∙ edge_itself u))) (path_lays_none (q ∷ ps) (further p q ps rising) none)
      by (inr h) rest =
          let other : first.edge ≢ u = λ e. not_itself p (behind_at p q ps rising p (subst (Contains (q ∷ ps)) (sym (ap (λ (s : Edge). s.a) e)) h.first)) in
          ap₂ (λ l m. l ++ m) (none_on (first ∷ []) (All-cons (λ f. f.edge ≢ u) first [] other (All-nil (λ f. f.edge ≢ u)))) (rest h)

-- ---- the first and the last step of a path

step_from_first : (x : Point) (xs : List Point) (b : Point) → IsRisingPath (x ∷ (xs ++ b ∷ [])) → (q : Point) × IsStep (x ∷ (xs ++ b ∷ [])) (record { a = x; b = q })
step_from_first x [] b rising = (b, first_step x b [] rising)
step_from_first x (y ∷ xs) b rising = (y, first_step x y (xs ++ b ∷ []) rising)

step_to_last : (x : Point) (xs : List Point) (b : Point) → IsRisingPath (x ∷ (xs ++ b ∷ [])) → (q : Point) × IsStep (x ∷ (xs ++ b ∷ [])) (record { a = q; b = b })
step_to_last x [] b rising = (x, first_step x b [] rising)
step_to_last x (y ∷ xs) b rising =
    let k = step_to_last y xs b (further x y (xs ++ b ∷ []) rising) in
    (k.0, later_step x y (xs ++ b ∷ []) rising (record { a = k.0; b = b }) k.1)

-- ---- sums of counts

joined_subject : (c : Count) (ds : List (Entry Count)) → (all_joined boolean c (map (λ d. d.count) ds)).subject ≡ c.subject +ℤ total (λ d. d.count.subject) ds
joined_subject c [] = omega (arith, ints)
joined_subject c (d ∷ ds) = regrouped c.subject d.count.subject (total (λ d. d.count.subject) ds) (joined_subject (boolean.join c d.count) ds)
  where
    regrouped : {n : ℤ} (c d t : ℤ) → n ≡ (c +ℤ d) +ℤ t → n ≡ c +ℤ (d +ℤ t)
    regrouped c d t e = omega (arith, ints, e)

joined_clip : (c : Count) (ds : List (Entry Count)) → (all_joined boolean c (map (λ d. d.count) ds)).clip ≡ c.clip +ℤ total (λ d. d.count.clip) ds
joined_clip c [] = omega (arith, ints)
joined_clip c (d ∷ ds) = regrouped c.clip d.count.clip (total (λ d. d.count.clip) ds) (joined_clip (boolean.join c d.count) ds)
  where
    regrouped : {n : ℤ} (c d t : ℤ) → n ≡ (c +ℤ d) +ℤ t → n ≡ c +ℤ (d +ℤ t)
    regrouped c d t e = omega (arith, ints, e)

same_fit : (c d : Count) → c.subject ≡ d.subject → c.clip ≡ d.clip → count_fits c ≡ count_fits d
same_fit c d e f = ap₂ (λ m n. number_fits m && number_fits n) e f

-- ---- keys along one pair

module _ (es : List (Entry Count)) (h : AreInOrder es) (whole : AllMeetWhole (edges_of es)) (precision : Precision) where
  directed : All IsDirectedEdge (edges_of es)
  directed = directed_edges boolean es h.directed whole

  abbrev cuts : Entry Count → List (Entry Count)
  cuts e = cut boolean late_marks (edges_of es) e

  pub steps_late : steps_in boolean precision es 0 ≡ flat_map cuts es
  steps_late =
      flat_map_same (cut boolean (marks_in precision 0) (edges_of es)) cuts es
      (All-weaker (λ (e : Entry Count). Contains (edges_of es) e.edge) (λ e. cut boolean (marks_in precision 0) (edges_of es) e ≡ cuts e)
      (λ e at. ap (λ ms. laid_path boolean e.count (path e.edge ms)) (whole_marks_on precision 0 (edges_of es) e.edge (λ t. whole e.edge t at))) es (edges_contain es))

  listed : (e : Entry Count) → Contains es e → Contains (edges_of es) e.edge
  listed e at = All-contains (λ e. Contains (edges_of es) e.edge) es e (edges_contain es) at

  meets : (e : Entry Count) → Contains es e → MeetsAllWhole (edges_of es) e.edge
  meets e at t = whole e.edge t (listed e at)

  forward : (e : Entry Count) → Contains es e → is_before e.edge.a e.edge.b ≡ true
  forward e at = All-contains (λ e. is_before e.edge.a e.edge.b ≡ true) es e h.directed at

  rises : (e : Entry Count) → Contains es e → IsRisingPath (path e.edge (marks_on late_marks (edges_of es) e.edge))
  rises e at = path_rises e.edge (forward e at) (marks_on late_marks (edges_of es) e.edge) (marked_inside (edges_of es) directed e.edge (listed e at) (meets e at))

  -- from the first end of a key to the next cut point, and from the last one before its second end
  pub first_pair : (e : Entry Count) → Contains es e → (q : Point) × JoinsNeighbours (edges_of es) (record { a = e.edge.a; b = q }) × IsPiece (record { a = e.edge.a; b = q }) e.edge
  first_pair e at =
      let k = step_from_first e.edge.a (along e.edge (marks_on late_marks (edges_of es) e.edge)) e.edge.b (rises e at) in
      (k.0, step_joins (edges_of es) directed e.edge (listed e at) (meets e at) (record { a = e.edge.a; b = k.0 }) k.1, step_is_piece (edges_of es) directed e.edge (listed e at) (meets e at) (record { a = e.edge.a; b = k.0 }) k.1)

  pub last_pair : (e : Entry Count) → Contains es e → (q : Point) × JoinsNeighbours (edges_of es) (record { a = q; b = e.edge.b }) × IsPiece (record { a = q; b = e.edge.b }) e.edge
  last_pair e at =
      let k = step_to_last e.edge.a (along e.edge (marks_on late_marks (edges_of es) e.edge)) e.edge.b (rises e at) in
      (k.0, step_joins (edges_of es) directed e.edge (listed e at) (meets e at) (record { a = k.0; b = e.edge.b }) k.1, step_is_piece (edges_of es) directed e.edge (listed e at) (meets e at) (record { a = k.0; b = e.edge.b }) k.1)

  module _ (u : Edge) (joins : JoinsNeighbours (edges_of es) u) where
    lays_one : (e : Entry Count) → Contains es e → is_part u e.edge ≡ true → counts_on u (cuts e) ≡ e.count ∷ []
    lays_one e at part = path_lays boolean u e.count (path e.edge (marks_on late_marks (edges_of es) e.edge)) (rises e at) (joins_step (edges_of es) directed e.edge (listed e at) (meets e at) u joins part)

    lay_all : (ss : List (Entry Count)) → All (Contains es) ss → All (λ e. is_part u e.edge ≡ true) ss → counts_on u (flat_map cuts ss) ≡ map (λ e. e.count) ss
    lay_all [] there parts = refl
    lay_all (e ∷ ss) there parts =
        counts_append u (cuts e) (flat_map cuts ss)
        ∙ ap₂ (λ l m. l ++ m) (lays_one e (All-head (Contains es) e ss there) (All-head (λ e. is_part u e.edge ≡ true) e ss parts))
        (lay_all ss (All-tail (Contains es) e ss there) (All-tail (λ e. is_part u e.edge ≡ true) e ss parts))

    pub overfull_along : (ss rest : List (Entry Count)) (c : Count) → IsPermutation es (ss ++ rest) → All (Contains es) ss → All (λ e. is_part u e.edge ≡ true) ss
        → c.subject ≡ total (λ e. e.count.subject) ss → c.clip ≡ total (λ e. e.count.clip) ss → count_fits c ≡ false → IsOverfull boolean count_fits (steps_in boolean precision es 0)
    overfull_along [] rest c same there parts subject clip over = absurd (false≢true (sym over ∙ same_fit c (record { subject = pos 0; clip = pos 0 }) subject clip))
    overfull_along (e ∷ ss) rest c same there parts subject clip over =
        subst (IsOverfull boolean count_fits) (sym steps_late)
        (record {
          edge = u;
          ordered = flat_map cuts ((e ∷ ss) ++ rest);
          reordered = flat_map_permuted cuts es ((e ∷ ss) ++ rest) same;
          before = [];
          first = e.count;
          others = map (λ e. e.count) ss;
          after = counts_on u (flat_map cuts rest);
          laid =
              ap (counts_on u) (flat_map_parted cuts (e ∷ ss) rest)
              ∙ (counts_append u (flat_map cuts (e ∷ ss)) (flat_map cuts rest) ∙ ap (λ l. l ++ counts_on u (flat_map cuts rest)) (lay_all (e ∷ ss) there parts));
          too_much =
              same_fit (all_joined boolean e.count (map (λ e. e.count) ss)) c (joined_subject e.count ss ∙ sym subject) (joined_clip e.count ss ∙ sym clip) ∙ over;
        })

-- ---- what runs past a pair of neighbours on their line runs along the whole of it

module _ (es : List (Entry Count)) (h : AreInOrder es) (all : AllRectilinear (edges_of es)) (u : Edge) (joins : JoinsNeighbours (edges_of es) u)
    (s : Edge) (at : Contains (edges_of es) s) (forward : is_before s.a s.b ≡ true) (begins : point_order s.a u.b ≡ Less) (ends : point_order u.a s.b ≡ Less) where
  next : point_order u.a u.b ≡ Less
  next = before_is_less u.a u.b joins.forward

  no_end : (p : Point) → IsCutPoint (edges_of es) u p → strictly_inside p u ≡ true → ⊥
  no_end p k e = false≢true (sym (joins.free p k) ∙ e)

  not_over : (x y : ℤ) → (y <ℤ x → ⊥) → x ≤ℤ y
  not_over x y none = by (int_lt y x) refl
    where
      by : (b : Bool) → int_lt y x ≡ b → x ≤ℤ y
      by true e = absurd (none (omega (arith, ints, e)))
      by false e = omega (arith, ints, e)

  pub past_horizontal : u.a.y ≡ u.b.y → s.a.y ≡ u.a.y → s.b.y ≡ u.a.y → is_part u s ≡ true
  past_horizontal v first second =
      ((cut_by_coordinates boolean).horizontal_part u s joins.forward forward v).1 (record {
        first = first;
        second = second;
        from = not_over s.a.x u.a.x (λ l. no_end s.a (cut_at s.a first (inl refl)) (inside s.a first l (less_by_x s.a u.b (first ∙ v) begins)));
        to = not_over u.b.x s.b.x (λ l. no_end s.b (cut_at s.b second (inr refl)) (inside s.b second (less_by_x u.a s.b (sym second) ends) l));
      })
    where
      cut_at : (p : Point) → p.y ≡ u.a.y → ((p ≡ s.a) ⊎ (p ≡ s.b)) → IsCutPoint (edges_of es) u p
      cut_at p e end = (horizontal_line es u p h.directed all joins.forward v).1 (e, (s, at, inl end))

      inside : (p : Point) → p.y ≡ u.a.y → u.a.x <ℤ p.x → p.x <ℤ u.b.x → strictly_inside p u ≡ true
      inside p e l m = horizontal_inside u p joins.forward (record { first = sym e; second = sym v ∙ sym e; left = l; right = m })

  pub past_vertical : u.a.x ≡ u.b.x → s.a.x ≡ s.b.x → is_part u s ≡ true
  past_vertical v w =
      ((cut_by_coordinates boolean).vertical_part u s joins.forward forward v).1 (record {
        first = first;
        second = second;
        from = not_over s.a.y u.a.y (λ l. no_end s.a (cut_at s.a first (inl refl)) (inside s.a first l (less_by_y s.a u.b (first ∙ v) begins)));
        to = not_over u.b.y s.b.y (λ l. no_end s.b (cut_at s.b second (inr refl)) (inside s.b second (less_by_y u.a s.b (sym second) ends) l));
      })
    where
      squeezed : (a b p q : ℤ) → a ≡ b → p ≡ q → a ≤ℤ q → p ≤ℤ b → a ≡ p
      squeezed a b p q e f k l = omega (arith, ints, e, f, k, l)

      first : s.a.x ≡ u.a.x
      first = squeezed s.a.x s.b.x u.a.x u.b.x w v (point_less_x s.a u.b begins) (point_less_x u.a s.b ends)

      second : s.b.x ≡ u.a.x
      second = sym w ∙ first

      cut_at : (p : Point) → p.x ≡ u.a.x → ((p ≡ s.a) ⊎ (p ≡ s.b)) → IsCutPoint (edges_of es) u p
      cut_at p e end = (vertical_line es u p h.directed all joins.forward v).1 (e, (s, at, inl end))

      inside : (p : Point) → p.x ≡ u.a.x → u.a.y <ℤ p.y → p.y <ℤ u.b.y → strictly_inside p u ≡ true
      inside p e l m = vertical_inside u p joins.forward (record { first = sym e; second = sym v ∙ sym e; below = l; above = m })
