-- Which edges of a horizontal and vertical map are marked: those that some point lies strictly inside.
use Rattle.std.proofs.Common.{◌≡◌, ◌↔◌, ℕ, suc, Bool, true, false, cond, List, [], ◌∷◌, map, Option, Some, None, All, AllPairs, Contains, ◌⊎◌, inl, inr, ⊎_elim, subst, ℤ, pos, ◌+ℤ◌, ◌<ℤ◌, ◌≤ℤ◌, Less, Equal, is_eq, refl, sym, ap, ◌∙◌, arith}
use Rattle.std.specs.List.{list_any}
use Rattle.std.proofs.lemmas.Int.{ints}
use Rattle.std.proofs.lemmas.Bool.{false≢true}
use Rattle.std.proofs.lemmas.List.Elements.{All-contains, All-map, All-head, All-tail, All-weaker, All-contains_itself, All-filter, filter_passes}
use Rattle.std.proofs.lemmas.List.Folds.{Any-from_list_any, list_any_at}
use Rattle.plane_base.specs.Plane.{Point, Edge, is_before, point_order, edge_order}
use Rattle.plane_base.specs.Segments.{strictly_inside}
use Rattle.plane_base.specs.Counts.{Counting, Entry, normal, count_at, IsNormal}
use Rattle.plane_base.specs.Crossing.{Marks}
use Rattle.plane_base.proofs.Facts.Maps.Normal.{AllPairs-head, unless_none, count_at_normal}
use Rattle.plane_base.proofs.Facts.Points.Orders.{point_equal, less_then, edge_itself}
use Rattle.segment_split.specs.Passes.{edges_of, marks_in, marks_on}
use Rattle.segment_split.specs.Redrawing.{MarksInPass}
use Rattle.segment_split.specs.WholeLaws.{AllMeetWhole}
use Rattle.segment_split.specs.Sweeps.{IsStop}
use Rattle.segment_split.specs.LineLaws.{is_rectilinear, AllRectilinear, IsCutPoint, is_part, entries_along, count_along, PassesUpThrough, PassesHorizontalThrough, IsMetAt, SpansHorizontal, SpansUp, right_of, above, ArePoints, has_inside}
use Rattle.segment_split.specs.declared.solver.Precision.{Precision}
use Rattle.segment_split.proofs.Spread.Lists.{IsDirectedEdge, edges_contain}
use Rattle.segment_split.proofs.Passes.Unmarked.{meets_unmarked}
use Rattle.segment_split.proofs.Passes.OldPairs.{marked_unless_parted}
use Rattle.segment_split.proofs.Passes.Parts.{filter_normal}
use Rattle.segment_split.proofs.Passes.Last.{joined_tells}
use Rattle.segment_split.proofs.Redrawing.Ends.{marks_from_the_first}
use Rattle.segment_split.proofs.Whole.RectilinearEdges.{IsHorizontal, IsVertical, rectilinear, horizontal_and_vertical_meet_whole}
use Rattle.segment_split.proofs.Whole.Coordinates.{cut_by_coordinates, less_by_x, less_by_y, inside_horizontal, inside_vertical, horizontal_inside, vertical_inside}
use Rattle.segment_split.proofs.Whole.Neighbours.{contained, contains_no, redraws_by_lines}
use Rattle.segment_split.proofs.Whole.StepLists.{some_not_none, directed_entry, an_end, way_of, horizontal_cut_is, vertical_cut_is, horizontal_parts, vertical_parts, short_horizontal_before, short_vertical_before, point_cuts_horizontal, point_cuts_vertical, up_to, weak}
use Rattle.segment_split.proofs.BucketTrees.Met.{contains_filtered}

-- an element that passes a test settles it
found_by : {X : Type 0} (p : X → Bool) (xs : List X) (x : X) → Contains xs x → p x ≡ true → list_any p xs ≡ true
found_by p xs x at e = list_any_at p xs at.0 x at.1 (ap p at.2 ∙ e)

pub inside_from_point : (es : List Edge) (ps : List Point) (s : Edge) (p : Point) → Contains es s → Contains ps p → strictly_inside p s ≡ true → has_inside es ps ≡ true
inside_from_point es ps s p at there e = found_by (λ s. list_any (λ p. strictly_inside p s) ps) es s at (found_by (λ p. strictly_inside p s) ps p there e)

-- a list with the element is not empty
not_empty : {X : Type 0} (xs : List X) (x : X) → Contains xs x → xs ≡ [] → ⊥
not_empty xs x h e = contains_no x (subst (λ l. Contains l x) e h)

-- ---- one entry alone counts as it does

alone_counts : {C : Type 0} (kind : Counting C) (u : Edge) (c : C) → kind.is_empty c ≡ false → count_at (normal kind (record { edge = u; count = c } ∷ [])) u ≡ Some c
alone_counts kind u c e =
    count_at_normal kind (record { edge = u; count = c } ∷ []) u
    ∙ ap (λ o. cond (is_eq o) (unless_none kind c) None) (edge_itself u)
    ∙ ap (λ b. cond b None (Some c)) e

entry_of_edge : {C : Type 0} (es : List (Entry C)) (s : Edge) → Contains (edges_of es) s → (e : Entry C) × Contains es e × (e.edge ≡ s)
entry_of_edge [] s h = absurd (contains_no s h)
entry_of_edge {C} (e ∷ es) s h =
    ⊎_elim (λ k. (e, (0, omega arith, refl), k)) (λ k. let m = entry_of_edge es s k in (m.0, (suc m.1.0, omega (arith, m.1.1), m.1.2), m.2)) (contained e.edge (edges_of es) s h)

module _ {C : Type 0} (kind : Counting C) (precision : Precision) (es : List (Entry C)) (h : IsNormal kind es) (all : AllRectilinear (edges_of es)) where
  -- ---- a cut point inside an edge is marked

  cut_is_marked : (s : Edge) → Contains (edges_of es) s → (p : Point) → IsCutPoint (edges_of es) s p → strictly_inside p s ≡ true → (k : ℕ) × MarksInPass kind precision es k
  cut_is_marked s at p cut e =
      let mark = ((redraws_by_lines kind precision).marks es 0 s p h (horizontal_and_vertical_meet_whole kind es h all) at).1 (cut, e) in
      let by = joined_tells (λ r. (marks_in precision 0 s r).first) (edges_of es) p mark in
      (0, (s, by.0, at, by.1, (λ none. not_empty (marks_in precision 0 s by.0).first p by.2 (ap (λ (m : Marks). m.first) none))))

  -- so is an end of an edge, or a crossing, inside an edge
  pub stop_is_marked : (s : Edge) → Contains (edges_of es) s → (p : Point) → IsStop (edges_of es) p → strictly_inside p s ≡ true → (k : ℕ) × MarksInPass kind precision es k
  stop_is_marked s at p stop e = cut_is_marked s at p (⊎_elim level vertical (rectilinear s (All-contains (λ s. is_rectilinear s ≡ true) (edges_of es) s all at))) e
    where
      forward : is_before s.a s.b ≡ true
      forward = All-contains IsDirectedEdge (edges_of es) s (All-map IsDirectedEdge (λ (e : Entry C). e.edge) es h.directed) at

      level : IsHorizontal s → IsCutPoint (edges_of es) s p
      level k =
          ((cut_by_coordinates kind).horizontal_line es s p h all forward k).1
          (sym (inside_horizontal s p forward k e).first, ⊎_elim (λ k. (k.0, k.1, inl k.2)) (λ k. (k.0.0, k.0.1, inr k.0.2)) stop)

      vertical : IsVertical s → IsCutPoint (edges_of es) s p
      vertical k =
          ((cut_by_coordinates kind).vertical_line es s p h all forward k).1
          (sym (inside_vertical s p forward k e).first, ⊎_elim (λ k. (k.0, k.1, inl k.2)) (λ k. (k.1.0, k.1.1, inr k.1.2)) stop)

module _ {C : Type 0} (kind : Counting C) (precision : Precision) (es : List (Entry C)) (h : IsNormal kind es) (all : AllRectilinear (edges_of es)) (ps : List Point) (points : ArePoints kind es ps) where
  whole : AllMeetWhole (edges_of es)
  whole = horizontal_and_vertical_meet_whole kind es h all

  forward : (s : Edge) → Contains (edges_of es) s → is_before s.a s.b ≡ true
  forward s at = directed_entry kind es h.directed all ps points s at

  -- ---- a point inside an edge is marked

  point_cuts : (s : Edge) → Contains (edges_of es) s → (p : Point) → Contains ps p → strictly_inside p s ≡ true → IsCutPoint (edges_of es) s p
  point_cuts s at p there e = ⊎_elim level vertical (way_of kind es h.directed all ps points s at)
    where
      level : IsHorizontal s → IsCutPoint (edges_of es) s p
      level k = point_cuts_horizontal kind es h.directed all ps points s (forward s at) k p there (sym (inside_horizontal s p (forward s at) k e).first)

      vertical : IsVertical s → IsCutPoint (edges_of es) s p
      vertical k = point_cuts_vertical kind es h.directed all ps points s (forward s at) k p there (sym (inside_vertical s p (forward s at) k e).first)

  shown : has_inside (edges_of es) ps ≡ true → (k : ℕ) × MarksInPass kind precision es k
  shown e =
      let s = Any-from_list_any (λ s. list_any (λ p. strictly_inside p s) ps) (edges_of es) e in
      let p = Any-from_list_any (λ p. strictly_inside p s.1) ps s.4 in
      let at : Contains (edges_of es) s.1 = (s.0, s.2, s.3) in
      cut_is_marked kind precision es h all s.1 at p.1 (point_cuts s.1 at p.1 (p.0, p.2, p.3) p.4) p.4

  -- ---- and where there is none, nothing is marked

  module _ (none : has_inside (edges_of es) ps ≡ false) where
    absent : (s : Edge) → Contains (edges_of es) s → (p : Point) → Contains ps p → strictly_inside p s ≡ true → ⊥
    absent s at p there e = false≢true (sym none ∙ inside_from_point (edges_of es) ps s p at there e)

    end_absent : (s r : Edge) → Contains (edges_of es) s → Contains (edges_of es) r → (p : Point) → (p ≡ r.a) ⊎ (p ≡ r.b) → strictly_inside p s ≡ true → ⊥
    end_absent s r at there p end e = absent s at p (an_end kind es h.directed all ps points r there p end) e

    -- two edges on one level line overlap, so an end of one lies inside the other
    horizontal_apart : (s r : Edge) → Contains (edges_of es) s → Contains (edges_of es) r → edge_order s r ≡ Less → (y z : ℤ) → s.a.y ≡ y → s.b.y ≡ y → r.a.y ≡ y → r.b.y ≡ y
        → s.a.x ≤ℤ z → z <ℤ s.b.x → r.a.x ≤ℤ z → z <ℤ r.b.x → ⊥
    horizontal_apart s r at there l y z e f g k from to other_from other_to = by (less_then (point_order s.a r.a) (point_order s.b r.b) l)
      where
        after : (x y z : ℤ) → x ≤ℤ y → y <ℤ z → x <ℤ z
        after x y z h k = omega (arith, ints)

        by : (point_order s.a r.a ≡ Less) ⊎ ((point_order s.a r.a ≡ Equal) × (point_order s.b r.b ≡ Less)) → ⊥
        by (inl m) =
            end_absent s r at there r.a (inl refl)
            (horizontal_inside s r.a (forward s at) (record { first = e ∙ sym g; second = f ∙ sym g; left = less_by_x s.a r.a (e ∙ sym g) m; right = after r.a.x z s.b.x other_from to }))
        by (inr m) =
            let same = point_equal s.a r.a m.0 in
            end_absent r s there at s.b (inr refl)
            (horizontal_inside r s.b (forward r there)
            (record { first = g ∙ sym f; second = k ∙ sym f; left = after r.a.x z s.b.x other_from to; right = less_by_x s.b r.b (f ∙ sym k) m.1 }))

    horizontal_counts : (s : Edge) → Contains (edges_of es) s → (p : Point) → PassesHorizontalThrough s p → count_along kind es (record { a = p; b = right_of p }) ≡ None → ⊥
    horizontal_counts s at p passes e = by (entries_along es (record { a = p; b = right_of p })) refl
      where
        short_before : is_before p (right_of p) ≡ true
        short_before = short_horizontal_before kind es h.directed all ps points s (forward s at) (passes.first ∙ sym passes.second) p

        spans : (r : Edge) → Contains (edges_of es) r → (is_part (record { a = p; b = right_of p }) r ≡ true) ↔ SpansHorizontal r (record { a = p; b = right_of p })
        spans r there = horizontal_parts kind es h.directed all ps points s (forward s at) (passes.first ∙ sym passes.second) (record { a = p; b = right_of p }) r short_before refl there

        entry : (f : Entry C) × Contains es f × (f.edge ≡ s)
        entry = entry_of_edge es s at

        here : Contains (entries_along es (record { a = p; b = right_of p })) entry.0
        here =
            contains_filtered (λ f. is_part (record { a = p; b = right_of p }) f.edge) es entry.0 entry.1
            (ap (is_part (record { a = p; b = right_of p })) entry.2
            ∙ (spans s at).1 (record { first = passes.first; second = passes.second; from = weak s.a.x p.x passes.left; to = up_to p.x s.b.x passes.right }))

        kept : IsNormal kind (entries_along es (record { a = p; b = right_of p }))
        kept = filter_normal (λ f. is_part (record { a = p; b = right_of p }) f.edge) es h

        listed : All (λ f. Contains (edges_of es) f.edge × (is_part (record { a = p; b = right_of p }) f.edge ≡ true)) (entries_along es (record { a = p; b = right_of p }))
        listed k d l = (
          All-filter (λ f. is_part (record { a = p; b = right_of p }) f.edge) (λ f. Contains (edges_of es) f.edge) es (edges_contain es) k d l,
          filter_passes (λ f. is_part (record { a = p; b = right_of p }) f.edge) es k d l,
        )

        by : (l : List (Entry C)) → entries_along es (record { a = p; b = right_of p }) ≡ l → ⊥
        by [] f = not_empty (entries_along es (record { a = p; b = right_of p })) entry.0 here f
        by (k ∷ []) f =
            let counted = All-head (λ e. kind.is_empty e.count ≡ false) k [] (subst (All (λ e. kind.is_empty e.count ≡ false)) f kept.counted) in
            some_not_none
            (ap (λ l. count_at (normal kind (map (λ e. record { edge = record { a = p; b = right_of p }; count = e.count }) l)) (record { a = p; b = right_of p })) f
            ∙ alone_counts kind (record { a = p; b = right_of p }) k.count counted) e
        by (k ∷ m ∷ l) f =
            let rest = subst (All (λ f. Contains (edges_of es) f.edge × (is_part (record { a = p; b = right_of p }) f.edge ≡ true))) f listed in
            let first = All-head (λ f. Contains (edges_of es) f.edge × (is_part (record { a = p; b = right_of p }) f.edge ≡ true)) k (m ∷ l) rest in
            let second = All-head (λ f. Contains (edges_of es) f.edge × (is_part (record { a = p; b = right_of p }) f.edge ≡ true)) m l (All-tail (λ f. Contains (edges_of es) f.edge × (is_part (record { a = p; b = right_of p }) f.edge ≡ true)) k (m ∷ l) rest) in
            let less = All-head (λ f. edge_order k.edge f.edge ≡ Less) m l (AllPairs-head (λ (e f : Entry C). edge_order e.edge f.edge ≡ Less) k (m ∷ l) (subst (AllPairs (λ (e f : Entry C). edge_order e.edge f.edge ≡ Less)) f kept.rising)) in
            let one = (spans k.edge first.0).0 first.1 in
            let other = (spans m.edge second.0).0 second.1 in
            horizontal_apart k.edge m.edge first.0 second.0 less p.y p.x one.first one.second other.first other.second one.from (beyond p.x k.edge.b.x one.to) other.from (beyond p.x m.edge.b.x other.to)
          where
            beyond : (x y : ℤ) → (x +ℤ pos 1) ≤ℤ y → x <ℤ y
            beyond x y h = omega (arith, ints)

    horizontal_none : (s : Edge) → Contains (edges_of es) s → IsHorizontal s → (p : Point) → IsCutPoint (edges_of es) s p → strictly_inside p s ≡ true → ⊥
    horizontal_none s at way p cut e = ⊎_elim (λ end. end_absent s k.1.0 at k.1.1 p end e) crossed k.1.2
      where
        k : (p.y ≡ s.a.y) × IsMetAt PassesUpThrough (edges_of es) p
        k = (horizontal_cut_is kind es h.directed all ps points s (forward s at) way p).0 cut

        passes : PassesHorizontalThrough s p
        passes = inside_horizontal s p (forward s at) way e

        crossed : PassesUpThrough k.1.0 p → ⊥
        crossed across = by (count_along kind es (record { a = p; b = right_of p })) refl
          where
            by : (o : Option C) → count_along kind es (record { a = p; b = right_of p }) ≡ o → ⊥
            by (Some c) f = absent s at p (points.crossings p ((k.1.0, k.1.1, across), (s, at, passes)) (inl (some_not_none f))) e
            by None f = horizontal_counts s at p passes f

    -- two edges on one vertical line overlap, so an end of one lies inside the other
    vertical_apart : (s r : Edge) → Contains (edges_of es) s → Contains (edges_of es) r → edge_order s r ≡ Less → (y z : ℤ) → s.a.x ≡ y → s.b.x ≡ y → r.a.x ≡ y → r.b.x ≡ y
        → s.a.y ≤ℤ z → z <ℤ s.b.y → r.a.y ≤ℤ z → z <ℤ r.b.y → ⊥
    vertical_apart s r at there l y z e f g k from to other_from other_to = by (less_then (point_order s.a r.a) (point_order s.b r.b) l)
      where
        after : (x y z : ℤ) → x ≤ℤ y → y <ℤ z → x <ℤ z
        after x y z h k = omega (arith, ints)

        by : (point_order s.a r.a ≡ Less) ⊎ ((point_order s.a r.a ≡ Equal) × (point_order s.b r.b ≡ Less)) → ⊥
        by (inl m) =
            end_absent s r at there r.a (inl refl)
            (vertical_inside s r.a (forward s at) (record { first = e ∙ sym g; second = f ∙ sym g; below = less_by_y s.a r.a (e ∙ sym g) m; above = after r.a.y z s.b.y other_from to }))
        by (inr m) =
            let same = point_equal s.a r.a m.0 in
            end_absent r s there at s.b (inr refl)
            (vertical_inside r s.b (forward r there)
            (record { first = g ∙ sym f; second = k ∙ sym f; below = after r.a.y z s.b.y other_from to; above = less_by_y s.b r.b (f ∙ sym k) m.1 }))

    vertical_counts : (s : Edge) → Contains (edges_of es) s → (p : Point) → PassesUpThrough s p → count_along kind es (record { a = p; b = above p }) ≡ None → ⊥
    vertical_counts s at p passes e = by (entries_along es (record { a = p; b = above p })) refl
      where
        short_before : is_before p (above p) ≡ true
        short_before = short_vertical_before kind es h.directed all ps points s (forward s at) (passes.first ∙ sym passes.second) p

        spans : (r : Edge) → Contains (edges_of es) r → (is_part (record { a = p; b = above p }) r ≡ true) ↔ SpansUp r (record { a = p; b = above p })
        spans r there = vertical_parts kind es h.directed all ps points s (forward s at) (passes.first ∙ sym passes.second) (record { a = p; b = above p }) r short_before refl there

        entry : (f : Entry C) × Contains es f × (f.edge ≡ s)
        entry = entry_of_edge es s at

        here : Contains (entries_along es (record { a = p; b = above p })) entry.0
        here =
            contains_filtered (λ f. is_part (record { a = p; b = above p }) f.edge) es entry.0 entry.1
            (ap (is_part (record { a = p; b = above p })) entry.2
            ∙ (spans s at).1 (record { first = passes.first; second = passes.second; from = weak s.a.y p.y passes.below; to = up_to p.y s.b.y passes.above }))

        kept : IsNormal kind (entries_along es (record { a = p; b = above p }))
        kept = filter_normal (λ f. is_part (record { a = p; b = above p }) f.edge) es h

        listed : All (λ f. Contains (edges_of es) f.edge × (is_part (record { a = p; b = above p }) f.edge ≡ true)) (entries_along es (record { a = p; b = above p }))
        listed k d l = (
          All-filter (λ f. is_part (record { a = p; b = above p }) f.edge) (λ f. Contains (edges_of es) f.edge) es (edges_contain es) k d l,
          filter_passes (λ f. is_part (record { a = p; b = above p }) f.edge) es k d l,
        )

        by : (l : List (Entry C)) → entries_along es (record { a = p; b = above p }) ≡ l → ⊥
        by [] f = not_empty (entries_along es (record { a = p; b = above p })) entry.0 here f
        by (k ∷ []) f =
            let counted = All-head (λ e. kind.is_empty e.count ≡ false) k [] (subst (All (λ e. kind.is_empty e.count ≡ false)) f kept.counted) in
            some_not_none
            (ap (λ l. count_at (normal kind (map (λ e. record { edge = record { a = p; b = above p }; count = e.count }) l)) (record { a = p; b = above p })) f
            ∙ alone_counts kind (record { a = p; b = above p }) k.count counted) e
        by (k ∷ m ∷ l) f =
            let rest = subst (All (λ f. Contains (edges_of es) f.edge × (is_part (record { a = p; b = above p }) f.edge ≡ true))) f listed in
            let first = All-head (λ f. Contains (edges_of es) f.edge × (is_part (record { a = p; b = above p }) f.edge ≡ true)) k (m ∷ l) rest in
            let second = All-head (λ f. Contains (edges_of es) f.edge × (is_part (record { a = p; b = above p }) f.edge ≡ true)) m l (All-tail (λ f. Contains (edges_of es) f.edge × (is_part (record { a = p; b = above p }) f.edge ≡ true)) k (m ∷ l) rest) in
            let less = All-head (λ f. edge_order k.edge f.edge ≡ Less) m l (AllPairs-head (λ (e f : Entry C). edge_order e.edge f.edge ≡ Less) k (m ∷ l) (subst (AllPairs (λ (e f : Entry C). edge_order e.edge f.edge ≡ Less)) f kept.rising)) in
            let one = (spans k.edge first.0).0 first.1 in
            let other = (spans m.edge second.0).0 second.1 in
            vertical_apart k.edge m.edge first.0 second.0 less p.x p.y one.first one.second other.first other.second one.from (beyond p.y k.edge.b.y one.to) other.from (beyond p.y m.edge.b.y other.to)
          where
            beyond : (x y : ℤ) → (x +ℤ pos 1) ≤ℤ y → x <ℤ y
            beyond x y h = omega (arith, ints)

    vertical_none : (s : Edge) → Contains (edges_of es) s → IsVertical s → (p : Point) → IsCutPoint (edges_of es) s p → strictly_inside p s ≡ true → ⊥
    vertical_none s at way p cut e = ⊎_elim (λ end. end_absent s k.1.0 at k.1.1 p end e) crossed k.1.2
      where
        k : (p.x ≡ s.a.x) × IsMetAt PassesHorizontalThrough (edges_of es) p
        k = (vertical_cut_is kind es h.directed all ps points s (forward s at) way p).0 cut

        passes : PassesUpThrough s p
        passes = inside_vertical s p (forward s at) way e

        crossed : PassesHorizontalThrough k.1.0 p → ⊥
        crossed across = by (count_along kind es (record { a = p; b = above p })) refl
          where
            by : (o : Option C) → count_along kind es (record { a = p; b = above p }) ≡ o → ⊥
            by (Some c) f = absent s at p (points.crossings p ((s, at, passes), (k.1.0, k.1.1, across)) (inr (some_not_none f))) e
            by None f = vertical_counts s at p passes f

    unmarked_there : (k : ℕ) → All (λ s. marks_on (marks_in precision k) (edges_of es) s ≡ []) (edges_of es)
    unmarked_there k = All-weaker (Contains (edges_of es)) (λ s. marks_on (marks_in precision k) (edges_of es) s ≡ []) each (edges_of es) (All-contains_itself (edges_of es))
      where
        each : (s : Edge) → Contains (edges_of es) s → marks_on (marks_in precision k) (edges_of es) s ≡ []
        each s at = by (marks_on (marks_in precision k) (edges_of es) s) refl
          where
            by : (l : List Point) → marks_on (marks_in precision k) (edges_of es) s ≡ l → l ≡ []
            by [] e = refl
            by (p ∷ l) e =
                let mark : Contains (marks_on (marks_in precision k) (edges_of es) s) p = subst (λ ms. Contains ms p) (sym e) (0, omega arith, refl) in
                let cut = ((redraws_by_lines kind precision).marks es k s p h whole at).0 mark in
                absurd (⊎_elim (λ way. horizontal_none s at way p cut.0 cut.1) (λ way. vertical_none s at way p cut.0 cut.1) (way_of kind es h.directed all ps points s at))

    hidden : (k : ℕ) → MarksInPass kind precision es k → ⊥
    hidden k some =
        meets_unmarked precision 0 (edges_of es) (((marked_unless_parted precision).on_no_edge 0 (edges_of es)).0 (unmarked_there 0))
        (marks_from_the_first kind precision es 0 k h (omega arith) some)

  pub inside_is_marked : (has_inside (edges_of es) ps ≡ true) ↔ ((k : ℕ) × MarksInPass kind precision es k)
  inside_is_marked = (shown, (λ some. by (has_inside (edges_of es) ps) refl some))
    where
      by : (b : Bool) → has_inside (edges_of es) ps ≡ b → (k : ℕ) × MarksInPass kind precision es k → b ≡ true
      by true e some = refl
      by false e some = absurd (hidden e some.0 some.1)
