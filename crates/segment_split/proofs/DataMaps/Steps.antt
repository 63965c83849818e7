-- An edge's datum is the join of the data of all entries on it, in whatever order they are taken.
use Rattle.std.proofs.Common.{◌≡◌, Bool, true, false, cond, List, [], ◌∷◌, filter, map, IsPermutation, Option, Some, None, is_eq, refl, sym, ap, ◌∙◌, subst}
use Rattle.std.proofs.lemmas.Option.{same_Some}
use Rattle.std.proofs.lemmas.List.Sorted.{IsPermutation-map}
use Rattle.plane_base.specs.Plane.{Edge, edge_order}
use Rattle.plane_base.specs.Counts.{Counting, Entry, normal, count_at}
use Rattle.plane_base.proofs.Facts.Maps.Normal.{with_count, joined_at, count_at_normal, normal_rising, joined_at_permutation}
use Rattle.segment_split.specs.Refusals.{steps_in, counts_on}
use Rattle.segment_split.specs.RedrawLaws.{with_counts}
use Rattle.segment_split.specs.Data.{IsJoin, is_counted, carried, normal_with_data}
use Rattle.segment_split.specs.DataLaws.{DataIsOfSteps, IsJoinOf, data_on, all_data_joined}
use Rattle.segment_split.specs.declared.solver.Precision.{Precision}
use Rattle.segment_split.proofs.Redrawing.Counts.{with_count_of}
use Rattle.segment_split.proofs.DataMaps.Counts.{of_data, data_counting}
use Rattle.segment_split.proofs.DataMaps.Drops.{if_passing, count_at_passing}

-- ---- data alone

module _ {D : Type 0} {join : D → D → D} (joins : IsJoin join) where
  joined_first : (d e : D) (ds : List D) → all_data_joined join (join d e) ds ≡ join d (all_data_joined join e ds)
  joined_first d e [] = refl
  joined_first d e (f ∷ ds) = ap (λ x. all_data_joined join x ds) (joins.regroups d e f) ∙ joined_first d (join e f) ds

  none_on : (es : List (Entry D)) (s : Edge) → joined_at (of_data join) es s ≡ None → counts_on s es ≡ []
  none_on [] s h = refl
  none_on (e ∷ es) s h = by (is_eq (edge_order e.edge s)) (joined_at (of_data join) es s) h (none_on es s)
    where
      by : (here : Bool) (o : Option D) → cond here (with_count (of_data join) e.count o) o ≡ None → (o ≡ None → counts_on s es ≡ [])
          → map (λ (e : Entry D). e.count) (cond here (e ∷ filter (λ e. is_eq (edge_order e.edge s)) es) (filter (λ e. is_eq (edge_order e.edge s)) es)) ≡ []
      by true None k rest = absurd (cc)
      by true (Some x) k rest = absurd (cc)
      by false o k rest = rest k

  join_on : (es : List (Entry D)) (s : Edge) (d : D) → joined_at (of_data join) es s ≡ Some d → IsJoinOf join (counts_on s es) d
  join_on [] s d h = absurd (cc)
  join_on (e ∷ es) s d h = by (is_eq (edge_order e.edge s)) (joined_at (of_data join) es s) refl h (join_on es s)
    where
      by : (here : Bool) (o : Option D) → joined_at (of_data join) es s ≡ o → cond here (with_count (of_data join) e.count o) o ≡ Some d
          → ((x : D) → o ≡ Some x → IsJoinOf join (counts_on s es) x)
          → IsJoinOf join (map (λ (e : Entry D). e.count)
          (cond here (e ∷ filter (λ e. is_eq (edge_order e.edge s)) es) (filter (λ e. is_eq (edge_order e.edge s)) es))) d
      by true None none k rest = record { first = e.count; others = []; are = ap (λ l. e.count ∷ l) (none_on es s none); is = sym (same_Some e.count d k) }
      by true (Some x) some k rest =
          let others = rest x refl in record {
            first = e.count;
            others = others.first ∷ others.others;
            are = ap (λ l. e.count ∷ l) others.are;
            is = sym (same_Some (join e.count x) d k) ∙ (ap (join e.count) others.is ∙ sym (joined_first e.count others.first others.others));
          }
      by false o same k rest = rest d k

-- ---- counts with their data

module _ {C D : Type 0} where
  abbrev data_alone : List (Entry (C × D)) → List (Entry D)
  data_alone es = with_counts (λ c. c.1) es

  data_on_alone : (es : List (Entry (C × D))) (s : Edge) → counts_on s (data_alone es) ≡ data_on s es
  data_on_alone [] s = refl
  data_on_alone (e ∷ es) s = by (is_eq (edge_order e.edge s)) (data_on_alone es s)
    where
      by : (here : Bool) → counts_on s (data_alone es) ≡ data_on s es
          → map (λ (e : Entry D). e.count)
          (cond here (with_count_of (λ (c : C × D). c.1) e ∷ filter (λ e. is_eq (edge_order e.edge s)) (data_alone es))
          (filter (λ e. is_eq (edge_order e.edge s)) (data_alone es)))
          ≡ map (λ (c : C × D). c.1) (map (λ (e : Entry (C × D)). e.count)
          (cond here (e ∷ filter (λ e. is_eq (edge_order e.edge s)) es) (filter (λ e. is_eq (edge_order e.edge s)) es)))
      by true h = ap (λ l. e.count.1 ∷ l) h
      by false h = h

  module _ (kind : Counting C) (join : D → D → D) where
    abbrev datum_of : Option (C × D) → Option D
    datum_of None = None
    datum_of (Some c) = Some c.1

    datum_with : (c : C × D) (o : Option (C × D)) → datum_of (with_count (carried kind join) c o) ≡ with_count (of_data join) c.1 (datum_of o)
    datum_with c None = refl
    datum_with c (Some d) = refl

    datum_at : (es : List (Entry (C × D))) (s : Edge) → datum_of (joined_at (carried kind join) es s) ≡ joined_at (of_data join) (data_alone es) s
    datum_at [] s = refl
    datum_at (e ∷ es) s = by (is_eq (edge_order e.edge s)) (datum_at es s)
      where
        by : (here : Bool) → datum_of (joined_at (carried kind join) es s) ≡ joined_at (of_data join) (data_alone es) s
            → datum_of (cond here (with_count (carried kind join) e.count (joined_at (carried kind join) es s)) (joined_at (carried kind join) es s))
            ≡ cond here (with_count (of_data join) e.count.1 (joined_at (of_data join) (data_alone es) s)) (joined_at (of_data join) (data_alone es) s)
        by true h = datum_with e.count (joined_at (carried kind join) es s) ∙ ap (with_count (of_data join) e.count.1) h
        by false h = h

    -- what is counted once others are dropped was counted before
    counted_before : (es : List (Entry (C × D))) (s : Edge) (c : C × D) → count_at (normal_with_data kind join es) s ≡ Some c
        → joined_at (carried kind join) es s ≡ Some c
    counted_before es s c h =
        sym (count_at_normal (carried kind join) es s)
        ∙ by (count_at (normal (carried kind join) es) s)
        (sym (count_at_passing (λ (c : C × D). is_counted kind c.0) (normal (carried kind join) es) s (normal_rising (carried kind join) es)) ∙ h)
      where
        kept : (b : Bool) (d : C × D) → cond b (Some d) None ≡ Some c → Some d ≡ Some c
        kept true d k = k
        kept false d k = absurd (cc)

        by : (o : Option (C × D)) → if_passing (λ (c : C × D). is_counted kind c.0) o ≡ Some c → o ≡ Some c
        by None k = absurd (cc)
        by (Some d) k = kept (is_counted kind d.0) d k

    module _ (joins : IsJoin join) where
      pub datum_of_all : (es ordered : List (Entry (C × D))) (s : Edge) (c : C) (d : D) → IsPermutation es ordered
          → count_at (normal_with_data kind join es) s ≡ Some (c, d)
          → IsJoinOf join (data_on s ordered) d
      datum_of_all es ordered s c d same h =
          subst (λ l. IsJoinOf join l d) (data_on_alone ordered s)
          (join_on joins (data_alone ordered) s d
          (joined_at_permutation (data_counting joins) (data_alone es) (data_alone ordered) s
          (IsPermutation-map (with_count_of (λ (c : C × D). c.1)) es ordered same)
          ∙ (sym (datum_at es s) ∙ ap datum_of (counted_before es s (c, d) h))))

      pub data_is_of_steps : (precision : Precision) → DataIsOfSteps kind join precision
      data_is_of_steps precision = record {
        of_normal = datum_of_all;
        of_pass = λ es ordered k s c d. datum_of_all (steps_in (carried kind join) precision es k) ordered s c d;
      }
