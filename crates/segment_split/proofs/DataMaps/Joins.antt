-- Maps of which what counts for nothing is dropped last, joined a run after the other.
use Rattle.std.proofs.Common.{◌≡◌, Bool, true, false, cond, not, List, [], ◌∷◌, ◌++◌, map, filter, All, AllPairs, IsPermutation, Less, Equal, Greater, is_eq}
use Rattle.std.proofs.Common.{append_assoc, append-nil, refl, sym, ap, ◌∙◌, subst}
use Rattle.std.proofs.lemmas.List.{map-append}
use Rattle.std.proofs.lemmas.List.Sorted.{IsPermutation-map}
use Rattle.std.proofs.lemmas.List.Elements.{All-nil, All-cons, All-head, All-tail, All-map, All-weaker, filter-append}
use Rattle.plane_base.specs.Plane.{Edge, edge_order}
use Rattle.plane_base.specs.Counts.{Counting, Entry, unless_empty, normal, IsNormal}
use Rattle.plane_base.proofs.Facts.Lists.Cycles.{All-front}
use Rattle.plane_base.proofs.Facts.Maps.Normal.{AllPairs-nil, AllPairs-cons, AllPairs-head, AllPairs-tail, IsAbove, IsRising, normal_append_normal}
use Rattle.plane_base.proofs.Facts.Maps.Normal.{normal_permutation, IsCounting}
use Rattle.plane_base.proofs.Facts.Maps.Laying.{IsDirected, IsDirectedEntry}
use Rattle.segment_split.specs.Merging.{IsMap}
use Rattle.segment_split.specs.Refusals.{counts_on, all_joined, IsOverfull}
use Rattle.segment_split.specs.DataLaws.{JoinsInAnyOrder}
use Rattle.segment_split.specs.Data.{IsJoin, is_counted, carried, without_data, normal_with_data}
use Rattle.segment_split.proofs.Redrawing.Counts.{with_count_of}
use Rattle.segment_split.proofs.Passes.Merges.{map_of_normal, old_run, new_run, both_first, left_alone}
use Rattle.segment_split.proofs.DataMaps.Counts.{carried_counting}
use Rattle.segment_split.proofs.DataMaps.Drops.{passing, filter_itself}

-- ---- one step of the way along both

module _ {C : Type 0} (kind : Counting C) (q : C → Bool) where
  -- the map, and then of it what passes
  abbrev pub dropped : List (Entry C) → List (Entry C)
  dropped es = passing q (normal kind es)

  abbrev pub AllPass : List (Entry C) → Type 0
  AllPass es = All (λ e. q e.count ≡ true) es

  -- a run goes ahead, of which what passes is added
  run_dropped : (old new run es fs : List (Entry C)) → new ≡ old ++ passing q run → normal kind es ≡ run ++ normal kind fs
      → new ++ dropped fs ≡ old ++ dropped es
  run_dropped old new run es fs is ahead =
      ap (λ l. l ++ dropped fs) is
      ∙ (append_assoc old (passing q run) (dropped fs)
      ∙ ap (λ l. old ++ l) (sym (filter-append (λ e. q e.count) run (normal kind fs)) ∙ ap (passing q) (sym ahead)))

  -- what comes before the first piece, all of which passes
  pub old_dropped : (old new kept run left pieces : List (Entry C)) (p : Entry C) (ps : List (Entry C)) → new ≡ old ++ run → kept ≡ run ++ left
      → pieces ≡ p ∷ ps
      → IsMap kind kept → IsMap kind pieces → AllPass kept → All (λ e. edge_order p.edge e.edge ≡ Greater) run
      → new ++ dropped (left ++ pieces) ≡ old ++ dropped (kept ++ pieces)
  old_dropped old new kept run left pieces p ps is parts first h k pass before =
      run_dropped old new run (kept ++ pieces) (left ++ pieces)
      (is ∙ ap (λ l. old ++ l) (sym (filter_itself (λ e. q e.count) run (All-front (λ e. q e.count ≡ true) run left (subst AllPass parts pass)))))
      (ap (λ l. normal kind (l ++ pieces)) parts
      ∙ (ap (λ l. normal kind ((run ++ left) ++ l)) first
      ∙ (old_run kind run left p ps (subst (IsMap kind) parts h) (subst (IsMap kind) first k) before
      ∙ ap (λ l. run ++ normal kind (left ++ l)) (sym first))))

  -- what is left when no piece is
  pub left_dropped : (left : List (Entry C)) → IsMap kind left → AllPass left → dropped (left ++ []) ≡ left
  left_dropped left h pass = ap (passing q) (left_alone kind left h) ∙ filter_itself (λ e. q e.count) left pass

  pub dropped_itself : (es : List (Entry C)) → IsMap kind es → AllPass es → dropped es ≡ es
  dropped_itself es h pass = ap dropped (sym (append-nil es)) ∙ left_dropped es h pass

  -- pieces may be joined among themselves before
  pub dropped_late : (kept pieces : List (Entry C)) → dropped (kept ++ normal kind pieces) ≡ dropped (kept ++ pieces)
  dropped_late kept pieces = ap (passing q) (normal_append_normal kind kept pieces)

  module _ (laws : IsCounting kind) where
    -- pieces that come before the first that is kept
    pub new_dropped : (old new kept pieces run more : List (Entry C)) → new ≡ old ++ passing q run → pieces ≡ run ++ more → IsMap kind kept → IsMap kind pieces
        → All (λ e. All (IsAbove e.edge) kept) run → new ++ dropped (kept ++ more) ≡ old ++ dropped (kept ++ pieces)
    new_dropped old new kept pieces run more is parts h k below =
        run_dropped old new run (kept ++ pieces) (kept ++ more) is
        (ap (λ l. normal kind (kept ++ l)) parts ∙ new_run laws kept run more h (subst (IsMap kind) parts k) below)

    -- one of each
    pub both_dropped : (old new kept pieces : List (Entry C)) (e f : Entry C) (es fs : List (Entry C)) (one : Entry C) → kept ≡ e ∷ es → pieces ≡ f ∷ fs
        → IsMap kind kept → IsMap kind pieces → edge_order e.edge f.edge ≡ Equal → one ≡ record { edge = e.edge; count = kind.join e.count f.count }
        → new ≡ old ++ passing q (unless_empty kind one []) → new ++ dropped (es ++ fs) ≡ old ++ dropped (kept ++ pieces)
    both_dropped old new kept pieces e f es fs one first second h k level sum is =
        run_dropped old new (unless_empty kind one []) (kept ++ pieces) (es ++ fs) is
        (ap (λ l. normal kind (l ++ pieces)) first
        ∙ (ap (λ l. normal kind ((e ∷ es) ++ l)) second
        ∙ both_first laws e f es fs (subst (IsMap kind) first h) (subst (IsMap kind) second k) level one sum))

    pub dropped_permutation : (es fs : List (Entry C)) → IsPermutation es fs → dropped fs ≡ dropped es
    dropped_permutation es fs same = ap (passing q) (normal_permutation laws es fs same)

-- ---- counts with data

module _ {X Y : Type 0} (f : X → Y) where
  All-of_map : (P : Y → Type 0) (xs : List X) → All P (map f xs) → All (λ x. P (f x)) xs
  All-of_map P [] h = All-nil (λ x. P (f x))
  All-of_map P (x ∷ xs) h = All-cons (λ x. P (f x)) x xs (All-head P (f x) (map f xs) h) (All-of_map P xs (All-tail P (f x) (map f xs) h))

  AllPairs-of_map : (R : Y → Y → Type 0) (xs : List X) → AllPairs R (map f xs) → AllPairs (λ x y. R (f x) (f y)) xs
  AllPairs-of_map R [] h = AllPairs-nil (λ x y. R (f x) (f y))
  AllPairs-of_map R (x ∷ xs) h =
      AllPairs-cons (λ x y. R (f x) (f y)) x xs (All-of_map (R (f x)) xs (AllPairs-head R (f x) (map f xs) h))
      (AllPairs-of_map R xs (AllPairs-tail R (f x) (map f xs) h))

module _ {C D : Type 0} where
  abbrev first_of : Entry (C × D) → Entry C
  first_of e = with_count_of (λ (c : C × D). c.0) e

  pub rising_with_data : (es : List (Entry (C × D))) → IsRising (without_data es) → IsRising es
  rising_with_data es h = AllPairs-of_map first_of (λ e f. edge_order e.edge f.edge ≡ Less) es h

  pub directed_with_data : (es : List (Entry (C × D))) → IsDirected (without_data es) → IsDirected es
  directed_with_data es h = All-of_map first_of IsDirectedEntry es h

  pub directed_without_data : (es : List (Entry (C × D))) → IsDirected es → IsDirected (without_data es)
  directed_without_data es h = All-map IsDirectedEntry first_of es h

  module _ (kind : Counting C) (join : D → D → D) where
    -- a map is one with its data
    pub map_with_data : (es : List (Entry (C × D))) → IsMap kind (without_data es) → IsMap (carried kind join) es
    map_with_data es h = record { rising = rising_with_data es h.rising; counted = λ i d l. refl }

    pub normal_map_with_data : (es : List (Entry (C × D))) → IsNormal kind (without_data es) → IsNormal (carried kind join) es
    normal_map_with_data es h = record { directed = directed_with_data es h.directed; rising = rising_with_data es h.rising; counted = λ i d l. refl }

    pub map_passes_with_data : (es : List (Entry (C × D))) → IsMap kind (without_data es) → AllPass (carried kind join) (λ c. is_counted kind c.0) es
    map_passes_with_data es h =
        All-weaker (λ e. kind.is_empty e.count.0 ≡ false) (λ e. is_counted kind e.count.0 ≡ true) (λ e k. ap not k) es
        (All-of_map first_of (λ e. kind.is_empty e.count ≡ false) es h.counted)

    -- a map is its own map with data
    pub map_with_data_itself : (es : List (Entry (C × D))) → IsMap kind (without_data es) → normal_with_data kind join es ≡ es
    map_with_data_itself es h = dropped_itself (carried kind join) (λ c. is_counted kind c.0) es (map_with_data es h) (map_passes_with_data es h)

    -- pieces that are joined among themselves and keep what counts for nothing join late
    pub data_joins_late : (kept pieces : List (Entry (C × D)))
        → normal_with_data kind join (kept ++ normal (carried kind join) pieces) ≡ normal_with_data kind join (kept ++ pieces)
    data_joins_late kept pieces = dropped_late (carried kind join) (λ c. is_counted kind c.0) kept pieces

    pub data_permutation : IsCounting kind → IsJoin join → (es fs : List (Entry (C × D))) → IsPermutation es fs
        → normal_with_data kind join fs ≡ normal_with_data kind join es
    data_permutation laws joins es fs same = dropped_permutation (carried kind join) (λ c. is_counted kind c.0) (carried_counting laws joins) es fs same

pub joins_in_any_order : {C D : Type 0} {kind : Counting C} {join : D → D → D} → IsCounting kind → IsJoin join → JoinsInAnyOrder kind join
joins_in_any_order {C} {D} {kind} {join} laws joins = record {
  permuted = data_permutation kind join laws joins;
  in_parts = data_joins_late kind join;
  of_map = λ es h. map_with_data_itself kind join es (map_of_normal kind (without_data es) h);
}

-- ---- refusals

module _ {C D : Type 0} (kind : Counting C) (join : D → D → D) where
  abbrev count_alone : C × D → C
  count_alone c = c.0

  counts_alone_on : (s : Edge) (es : List (Entry (C × D))) → counts_on s (without_data es) ≡ map count_alone (counts_on s es)
  counts_alone_on s [] = refl
  counts_alone_on s (e ∷ es) = by (is_eq (edge_order e.edge s)) (counts_alone_on s es)
    where
      by : (here : Bool) → counts_on s (without_data es) ≡ map count_alone (counts_on s es)
          → map (λ (e : Entry C). e.count)
          (cond here (with_count_of count_alone e ∷ filter (λ e. is_eq (edge_order e.edge s)) (without_data es))
          (filter (λ e. is_eq (edge_order e.edge s)) (without_data es)))
          ≡ map count_alone (map (λ (e : Entry (C × D)). e.count)
          (cond here (e ∷ filter (λ e. is_eq (edge_order e.edge s)) es) (filter (λ e. is_eq (edge_order e.edge s)) es)))
      by true h = ap (λ l. e.count.0 ∷ l) h
      by false h = h

  all_joined_alone : (c : C × D) (ds : List (C × D)) → (all_joined (carried kind join) c ds).0 ≡ all_joined kind c.0 (map count_alone ds)
  all_joined_alone c [] = refl
  all_joined_alone c (d ∷ ds) = all_joined_alone (kind.join c.0 d.0, join c.1 d.1) ds

  -- a refusal doesn't look at data
  pub overfull_without_data : (fits : C → Bool) (es : List (Entry (C × D))) → IsOverfull (carried kind join) (λ c. fits c.0) es
      → IsOverfull kind fits (without_data es)
  overfull_without_data fits es over = record {
    edge = over.edge;
    ordered = without_data over.ordered;
    reordered = IsPermutation-map (with_count_of count_alone) es over.ordered over.reordered;
    before = map count_alone over.before;
    first = over.first.0;
    others = map count_alone over.others;
    after = map count_alone over.after;
    laid =
        counts_alone_on over.edge over.ordered
        ∙ (ap (map count_alone) over.laid
        ∙ (map-append count_alone over.before (over.first ∷ (over.others ++ over.after))
        ∙ ap (λ l. map count_alone over.before ++ (over.first.0 ∷ l)) (map-append count_alone over.others over.after)));
    too_much = ap fits (sym (all_joined_alone over.first over.others)) ∙ over.too_much;
  }
