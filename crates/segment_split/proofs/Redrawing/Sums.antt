-- Maps whose counts are just added, redrawn by what subject and clip count.
use Rattle.std.proofs.Common.{◌≡◌, ◌↔◌, ℕ, ◌+◌, ◌≤◌, ◌^◌, Bool, true, false, cond, List, [], ◌∷◌, ◌++◌, length, map, filter, flat_map, All, ℤ, is_eq, Less, refl, sym, ap, subst, ◌∙◌}
use Rattle.std.proofs.lemmas.List.{map-append, length-map}
use Rattle.std.proofs.lemmas.List.Elements.{All-nil, All-cons, All-head, All-tail}
use Rattle.std.proofs.lemmas.List.Sorted.{IsPermutation-map}
use Rattle.plane_base.specs.Plane.{Edge, is_before, edge_order}
use Rattle.plane_base.specs.Counts.{Count, Counting, Entry, boolean, IsNormal}
use Rattle.segment_split.specs.Kinds.{count_fits}
use Rattle.segment_split.specs.Passes.{edges_of, marks_in, MarksSome, cut}
use Rattle.segment_split.specs.Redrawing.{iterate, redrawn, MarksInPass}
use Rattle.segment_split.specs.RedrawLaws.{with_counts}
use Rattle.segment_split.specs.Refusals.{steps_in, counts_on, all_joined, IsOverfull, PassesTooMuch, LaysTooMany}
use Rattle.segment_split.specs.Sums.{of_count, IsAdded}
use Rattle.segment_split.specs.declared.solver.Precision.{Precision}
use Rattle.segment_split.proofs.Redrawing.Counts.{with_count_of, counts_cuts, counts_edges, counts_iterate, counts_redrawn}
use Rattle.segment_split.proofs.Stops.Rows.{unmapped_pairs}

module _ {C : Type 0} {kind : Counting C} {fits : C → Bool} {of : ℤ → ℤ → C} (added : IsAdded kind fits of) where
  abbrev counted : List (Entry Count) → List (Entry C)
  counted es = with_counts (of_count of) es

  -- ---- the map

  each_before : (es : List (Entry Count)) → All (λ e. is_before e.edge.a e.edge.b ≡ true) (counted es) → All (λ e. is_before e.edge.a e.edge.b ≡ true) es
  each_before [] h = All-nil (λ e. is_before e.edge.a e.edge.b ≡ true)
  each_before (e ∷ es) h =
      All-cons (λ e. is_before e.edge.a e.edge.b ≡ true) e es (All-head (λ (e : Entry C). is_before e.edge.a e.edge.b ≡ true) (with_count_of (of_count of) e) (counted es) h)
      (each_before es (All-tail (λ (e : Entry C). is_before e.edge.a e.edge.b ≡ true) (with_count_of (of_count of) e) (counted es) h))

  each_counted : (es : List (Entry Count)) → All (λ e. kind.is_empty e.count ≡ false) (counted es) → All (λ e. boolean.is_empty e.count ≡ false) es
  each_counted [] h = All-nil (λ e. boolean.is_empty e.count ≡ false)
  each_counted (e ∷ es) h =
      All-cons (λ e. boolean.is_empty e.count ≡ false) e es (sym (added.map.of_empty e.count) ∙ All-head (λ (e : Entry C). kind.is_empty e.count ≡ false) (with_count_of (of_count of) e) (counted es) h)
      (each_counted es (All-tail (λ (e : Entry C). kind.is_empty e.count ≡ false) (with_count_of (of_count of) e) (counted es) h))

  pub sums_normal : (es : List (Entry Count)) → IsNormal kind (counted es) → IsNormal boolean es
  sums_normal es h = record {
    directed = each_before es h.directed;
    rising = unmapped_pairs (with_count_of (of_count of)) (λ e f. edge_order e.edge f.edge ≡ Less) es h.rising;
    counted = each_counted es h.counted;
  }

  -- ---- redrawing

  pub sums_redrawn : (precision : Precision) (es fs : List (Entry Count)) → fs ≡ redrawn boolean precision es → counted fs ≡ redrawn kind precision (counted es)
  sums_redrawn precision es fs e = ap counted e ∙ counts_redrawn added.map precision es

  module _ (precision : Precision) (es : List (Entry Count)) where
    iterate_edges : (k : ℕ) → edges_of (iterate boolean precision es k) ≡ edges_of (iterate kind precision (counted es) k)
    iterate_edges k = sym (counts_edges added.map (iterate boolean precision es k)) ∙ ap edges_of (counts_iterate added.map precision es k)

    pub sums_marked : (is_marked : Bool) → (is_marked ≡ true) ↔ ((k : ℕ) × MarksInPass boolean precision es k) → (is_marked ≡ true) ↔ ((k : ℕ) × MarksInPass kind precision (counted es) k)
    sums_marked is_marked h = (
      (λ e. let m = h.0 e in (m.0, subst (MarksSome (marks_in precision m.0)) (iterate_edges m.0) m.1)),
      (λ m. h.1 (m.0, subst (MarksSome (marks_in precision m.0)) (sym (iterate_edges m.0)) m.1)),
    )

    iterate_steps : (k : ℕ) → counted (steps_in boolean precision (iterate boolean precision es k) k) ≡ steps_in kind precision (iterate kind precision (counted es) k) k
    iterate_steps k =
        counts_cuts added.map (marks_in precision k) (edges_of (iterate boolean precision es k)) (iterate boolean precision es k)
        ∙ (ap (λ edges. flat_map (cut kind (marks_in precision k) edges) (counted (iterate boolean precision es k))) (sym (counts_edges added.map (iterate boolean precision es k)))
        ∙ ap (λ l. steps_in kind precision l k) (counts_iterate added.map precision es k))

  -- ---- refusals

  counts_read : (s : Edge) (es : List (Entry Count)) → counts_on s (counted es) ≡ map (of_count of) (counts_on s es)
  counts_read s [] = refl
  counts_read s (e ∷ es) = by (is_eq (edge_order e.edge s)) (counts_read s es)
    where
      by : (b : Bool) → counts_on s (counted es) ≡ map (of_count of) (counts_on s es)
          → map (λ (e : Entry C). e.count) (cond b (with_count_of (of_count of) e ∷ filter (λ e. is_eq (edge_order e.edge s)) (counted es)) (filter (λ e. is_eq (edge_order e.edge s)) (counted es)))
          ≡ map (of_count of) (map (λ (e : Entry Count). e.count) (cond b (e ∷ filter (λ e. is_eq (edge_order e.edge s)) es) (filter (λ e. is_eq (edge_order e.edge s)) es)))
      by true h = ap (λ l. of_count of e.count ∷ l) h
      by false h = h

  joined_read : (c : Count) (ds : List Count) → of_count of (all_joined boolean c ds) ≡ all_joined kind (of_count of c) (map (of_count of) ds)
  joined_read c [] = refl
  joined_read c (d ∷ ds) = joined_read (boolean.join c d) ds ∙ ap (λ x. all_joined kind x (map (of_count of) ds)) (added.map.of_join c d)

  pub overfull_read : (fs : List (Entry Count)) → IsOverfull boolean count_fits fs → IsOverfull kind fits (counted fs)
  overfull_read fs over = record {
    edge = over.edge;
    ordered = counted over.ordered;
    reordered = IsPermutation-map (with_count_of (of_count of)) fs over.ordered over.reordered;
    before = map (of_count of) over.before;
    first = of_count of over.first;
    others = map (of_count of) over.others;
    after = map (of_count of) over.after;
    laid =
        counts_read over.edge over.ordered
        ∙ (ap (map (of_count of)) over.laid
        ∙ (map-append (of_count of) over.before (over.first ∷ (over.others ++ over.after)) ∙ ap (λ l. map (of_count of) over.before ++ (of_count of over.first ∷ l)) (map-append (of_count of) over.others over.after)));
    too_much = ap fits (sym (joined_read over.first over.others)) ∙ (added.in_range (all_joined boolean over.first over.others) ∙ over.too_much);
  }

  pub sums_too_much : (precision : Precision) (es : List (Entry Count)) → PassesTooMuch boolean count_fits precision es → PassesTooMuch kind fits precision (counted es)
  sums_too_much precision es much = (much.0, subst (IsOverfull kind fits) (iterate_steps precision es much.0) (overfull_read (steps_in boolean precision (iterate boolean precision es much.0) much.0) much.1))

  pub sums_too_many : (precision : Precision) (es : List (Entry Count)) → LaysTooMany boolean precision es → LaysTooMany kind precision (counted es)
  sums_too_many precision es many = (
    many.0,
    subst (λ n. 2 ^ 31 ≤ n) (sym (length-map (steps_in boolean precision (iterate boolean precision es many.0) many.0) (with_count_of (of_count of))) ∙ ap length (iterate_steps precision es many.0)) many.1,
  )

  pub sums_edges : (es : List (Entry Count)) → edges_of (counted es) ≡ edges_of es
  sums_edges es = counts_edges added.map es
