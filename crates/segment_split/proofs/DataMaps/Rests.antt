-- Redrawing with data comes to rest where redrawing does.
use Rattle.std.proofs.Common.{◌≡◌, ℕ, zero, suc, ◌+◌, ◌-◌, ◌≤◌, ◌⊎◌, inl, inr, ⊎_elim, List, flat_map, sym, ap, ◌∙◌, subst, arith}
use Rattle.std.proofs.lemmas.Bool.{cases_lt}
use Rattle.plane_base.specs.Segments.{MeetsInEnds}
use Rattle.plane_base.specs.Counts.{Counting, Entry, IsNormal}
use Rattle.plane_base.proofs.Facts.Maps.Normal.{IsCounting}
use Rattle.segment_split.specs.Passes.{early_passes, edges_of, marks_in, MarksSome, cut}
use Rattle.segment_split.specs.Redrawing.{iterate, spread}
use Rattle.segment_split.specs.WholeLaws.{AllMeetWhole}
use Rattle.segment_split.specs.Data.{is_counted, carried, without_data, counted_with_data, normal_with_data, pass_with_data, iterate_with_data}
use Rattle.segment_split.specs.Data.{redrawn_with_data}
use Rattle.segment_split.specs.DataLaws.{DataComeToRest}
use Rattle.segment_split.specs.declared.solver.Precision.{Precision}
use Rattle.segment_split.proofs.Passes.Unmarked.{pass_of_unmarked, meets_unmarked, unmarked_meets}
use Rattle.segment_split.proofs.Passes.Last.{one_pass_is_enough}
use Rattle.segment_split.proofs.Redrawing.Iterates.{iterate_normal}
use Rattle.segment_split.proofs.Redrawing.Ends.{redrawn_meets}
use Rattle.segment_split.proofs.Redrawing.Loops.{late_alike}
use Rattle.segment_split.proofs.DataMaps.Forgets.{edges_without_data, forget_iterate, iterate_edges, forget_redrawn}
use Rattle.segment_split.proofs.DataMaps.Drops.{filter_itself}
use Rattle.segment_split.proofs.DataMaps.Joins.{normal_map_with_data, map_passes_with_data}
use Rattle.segment_split.proofs.Passes.Merges.{map_of_normal}

module _ {C D : Type 0} {kind : Counting C} (laws : IsCounting kind) (join : D → D → D) where
  module _ (precision : Precision) where
    pub iterate_is_normal : (es : List (Entry (C × D))) (n : ℕ) → IsNormal kind (without_data es)
        → IsNormal kind (without_data (iterate_with_data kind join precision es n))
    iterate_is_normal es n h = subst (IsNormal kind) (sym (forget_iterate laws join precision es n)) (iterate_normal kind precision (without_data es) n h)

    -- a pass that marks nothing leaves the data too
    pub data_stay : (es : List (Entry (C × D))) (k : ℕ) → IsNormal kind (without_data es) → (MarksSome (marks_in precision k) (edges_of es) → ⊥)
        → pass_with_data kind join precision es k ≡ es
    data_stay es k h none =
        ap (counted_with_data kind) (pass_of_unmarked (carried kind join) (marks_in precision k) es (normal_map_with_data kind join es h) none)
        ∙ filter_itself (λ e. is_counted kind e.count.0) es (map_passes_with_data kind join es (map_of_normal kind (without_data es) h))

    data_at_rest : (es : List (Entry (C × D))) (k : ℕ) → IsNormal kind (without_data es) → MeetsInEnds (edges_of es)
        → pass_with_data kind join precision es k ≡ es
    data_at_rest es k h meets = data_stay es k h (meets_unmarked precision k (edges_of es) meets)

    rest_further : (es : List (Entry (C × D))) (n d : ℕ) → IsNormal kind (without_data es) → MeetsInEnds (edges_of (iterate_with_data kind join precision es n))
        → iterate_with_data kind join precision es (n + d) ≡ iterate_with_data kind join precision es n
    rest_further es n zero h meets = let same : n + 0 ≡ n = omega arith in ap (iterate_with_data kind join precision es) same
    rest_further es n (suc d) h meets =
        let same = rest_further es n d h meets in
        let next : n + suc d ≡ suc (n + d) = omega arith in
        ap (iterate_with_data kind join precision es) next
        ∙ (ap (λ fs. pass_with_data kind join precision fs (n + d)) same
        ∙ data_at_rest (iterate_with_data kind join precision es n) (n + d) (iterate_is_normal es n h) meets)

    -- once the map meets in ends, its data stay
    pub data_rest : (es : List (Entry (C × D))) (n m : ℕ) → IsNormal kind (without_data es) → n ≤ m
        → MeetsInEnds (edges_of (iterate_with_data kind join precision es n))
        → iterate_with_data kind join precision es m ≡ iterate_with_data kind join precision es n
    data_rest es n m h l meets =
        let back : n + (m - n) ≡ m = omega arith in
        ap (iterate_with_data kind join precision es) (sym back) ∙ rest_further es n (m - n) h meets

    pub redrawn_data_at : (es : List (Entry (C × D))) (n : ℕ) → IsNormal kind (without_data es)
        → MeetsInEnds (edges_of (iterate_with_data kind join precision es n))
        → redrawn_with_data kind join precision es ≡ iterate_with_data kind join precision es n
    redrawn_data_at es n h meets =
        ⊎_elim (λ l. data_rest es n last h l meets) (λ l. sym (data_rest es last n h l at_last)) (either n last)
      where
        last : ℕ
        last = early_passes + spread (edges_of (iterate_with_data kind join precision es early_passes))

        at_last : MeetsInEnds (edges_of (redrawn_with_data kind join precision es))
        at_last =
            subst MeetsInEnds (ap edges_of (sym (forget_redrawn laws join precision es)) ∙ edges_without_data (redrawn_with_data kind join precision es))
            (redrawn_meets kind precision (without_data es) h)

        either : (n m : ℕ) → (n ≤ m) ⊎ (m ≤ n)
        either n m = ⊎_elim (λ l. inl (omega arith)) (λ l. inr l) (cases_lt n m)

    pub data_come_to_rest : DataComeToRest kind join precision
    data_come_to_rest = record {
      unmarked = data_stay;
      at_each = λ es n h none. redrawn_data_at es n h (subst MeetsInEnds (sym (iterate_edges laws join precision es n)) (unmarked_meets precision n _ none));
    }

    -- ---- the loop of redrawing

    module _ (es now : List (Entry (C × D))) (n : ℕ) where
      -- where a pass marks nothing, the map before it is the redrawn one
      pub redrawn_data_before : IsNormal kind (without_data es) → now ≡ iterate_with_data kind join precision es n
          → (MarksSome (marks_in precision n) (edges_of (without_data now)) → ⊥) → now ≡ redrawn_with_data kind join precision es
      redrawn_data_before h here none =
          here
          ∙ sym (redrawn_data_at es n h
          (unmarked_meets precision n (edges_of (iterate_with_data kind join precision es n))
          (λ some. none (subst (MarksSome (marks_in precision n)) (ap edges_of (sym here) ∙ sym (edges_without_data now)) some))))

      pub redrawn_data_late : early_passes ≤ n → IsNormal kind (without_data es) → now ≡ iterate_with_data kind join precision es n
          → (MarksSome (marks_in precision early_passes) (edges_of (without_data now)) → ⊥) → now ≡ redrawn_with_data kind join precision es
      redrawn_data_late late h here none =
          redrawn_data_before h here (λ some. none (subst (λ m. MarksSome m (edges_of (without_data now))) (late_alike kind precision n late) some))

      module _ (next : List (Entry (C × D))) where
        -- a pass further
        pub early_data_further : (m : ℕ) → m ≡ suc n → now ≡ iterate_with_data kind join precision es n → next ≡ pass_with_data kind join precision now n
            → next ≡ iterate_with_data kind join precision es m
        early_data_further m e here passed = passed
            ∙ (ap (λ l. pass_with_data kind join precision l n) here ∙ ap (iterate_with_data kind join precision es) (sym e))

        -- a late pass further
        pub late_data_further : early_passes ≤ n → now ≡ iterate_with_data kind join precision es n → next ≡ pass_with_data kind join precision now early_passes
            → next ≡ iterate_with_data kind join precision es (suc n)
        late_data_further late here passed =
            passed
            ∙ (ap (λ marks. normal_with_data kind join (flat_map (cut (carried kind join) marks (edges_of now)) now)) (sym (late_alike kind precision n late))
            ∙ ap (λ l. pass_with_data kind join precision l n) here)

        -- where all meet whole, the map after the pass is the redrawn one
        pub redrawn_data_after : IsNormal kind (without_data es) → now ≡ iterate_with_data kind join precision es n → AllMeetWhole (edges_of (without_data now))
            → next ≡ iterate_with_data kind join precision es (suc n) → next ≡ redrawn_with_data kind join precision es
        redrawn_data_after h here whole passed =
            passed
            ∙ sym (redrawn_data_at es (suc n) h
            (subst MeetsInEnds (sym (iterate_edges laws join precision es (suc n)))
            ((one_pass_is_enough kind precision).meets (iterate kind precision (without_data es) n) n (iterate_normal kind precision (without_data es) n h)
            (subst (λ l. AllMeetWhole (edges_of l)) (ap without_data here ∙ forget_iterate laws join precision es n) whole))))
