-- Where counts that were joined leave their range with others, those that they were joined from do.
use Rattle.std.specs.Prelude.{◌≡◌, Bool, true, false, cond, not, List, [], ◌∷◌, ◌++◌, drop, map, filter, flat_map, IsPermutation, Option, Some, None}
use Rattle.std.specs.Ordering.{is_eq}
use Rattle.std.proofs.Common.{refl, sym, ap, ap₂, ◌∙◌, subst, append_assoc, append-nil}
use Rattle.std.proofs.lemmas.Option.{same_Some}
use Rattle.std.proofs.lemmas.List.Sorted.{IsPermutation-refl, IsPermutation-trans, IsPermutation-cons, IsPermutation-map, IsPermutation-append_comm, IsPermutation-append_left, IsPermutation-append_right, IsPermutation-filter_both}
use Rattle.plane_base.specs.Plane.{Edge, edge_order}
use Rattle.plane_base.specs.Counts.{Counting, Entry, normal, count_at}
use Rattle.plane_base.proofs.Facts.Maps.Normal.{IsCounting, unless_none, with_count, joined_at, count_at_normal, normal_rising}
use Rattle.plane_base.proofs.Facts.Points.Orders.{edge_equal, edge_itself, is_equal}
use Rattle.segment_split.specs.Refusals.{counts_on, all_joined, IsOverfull}
use Rattle.segment_split.proofs.Passes.Merges.{same_first, permuted_to_front, one_on, with_total, all_joined_at}
use Rattle.segment_split.proofs.Redrawing.Neighbours.{counts_append, counts_here, overfull_after}
use Rattle.segment_split.proofs.Stops.Permuted.{along_permutation, flat_map_permuted}

-- ---- an element of a list, and what stands around it, whatever the order

record StandsIn {X : Type 0} (x : X) (others xs : List X) : Type 0 where
  front : List X
  back : List X
  is : xs ≡ front ++ (x ∷ back)
  left : IsPermutation others (front ++ back)

module _ {X : Type 0} (x : X) where
  abbrev Moves : List X → List X → Type 0
  Moves xs ys = IsPermutation xs ys × ((others : List X) → StandsIn x others xs → StandsIn x others ys)

  rest_same : (y z : X) (xs ys : List X) → y ∷ xs ≡ z ∷ ys → xs ≡ ys
  rest_same y z xs ys e = ap (drop 1) e

  turned : (y z : X) (xs : List X) → IsPermutation (y ∷ z ∷ xs) (z ∷ y ∷ xs)
  turned y z xs = permuted_to_front (y ∷ []) z xs

  behind : (z : X) (xs ys : List X) → Moves xs ys → Moves (z ∷ xs) (z ∷ ys)
  behind z xs ys (same, moves) = (IsPermutation-cons z xs ys same, λ others h. by h.front others h.back h.is h.left)
    where
      by : (front others back : List X) → z ∷ xs ≡ front ++ (x ∷ back) → IsPermutation others (front ++ back) → StandsIn x others (z ∷ ys)
      by [] others back e left = record {
        front = [];
        back = ys;
        is = ap (λ w. w ∷ ys) (same_first z x xs back e);
        left = IsPermutation-trans others xs ys (subst (IsPermutation others) (sym (rest_same z x xs back e)) left) same;
      }
      by (w ∷ front) others back e left =
          let k = moves (front ++ back)
          (record { front = front; back = back; is = rest_same z w xs (front ++ (x ∷ back)) e; left = IsPermutation-refl (front ++ back) }) in
          record {
            front = w ∷ k.front;
            back = k.back;
            is = ap₂ (λ v l. v ∷ l) (same_first z w xs (front ++ (x ∷ back)) e) k.is;
            left = IsPermutation-trans others (w ∷ (front ++ back)) (w ∷ (k.front ++ k.back)) left
                (IsPermutation-cons w (front ++ back) (k.front ++ k.back) k.left);
          }

  turn : (y z : X) (xs : List X) → Moves (y ∷ z ∷ xs) (z ∷ y ∷ xs)
  turn y z xs = (turned y z xs, λ others h. by h.front others h.back h.is h.left)
    where
      by : (front others back : List X) → y ∷ z ∷ xs ≡ front ++ (x ∷ back) → IsPermutation others (front ++ back) → StandsIn x others (z ∷ y ∷ xs)
      by [] others back e left = record {
        front = z ∷ [];
        back = xs;
        is = ap (λ w. z ∷ w ∷ xs) (same_first y x (z ∷ xs) back e);
        left = subst (IsPermutation others) (sym (rest_same y x (z ∷ xs) back e)) left;
      }
      by (v ∷ []) others back e left =
          let later : z ∷ xs ≡ x ∷ back = rest_same y v (z ∷ xs) (x ∷ back) e in
          record {
            front = [];
            back = y ∷ xs;
            is = ap (λ w. w ∷ y ∷ xs) (same_first z x xs back later);
            left = subst (IsPermutation others) (ap₂ (λ w l. w ∷ l) (sym (same_first y v (z ∷ xs) (x ∷ back) e)) (sym (rest_same z x xs back later))) left;
          }
      by (v ∷ w ∷ front) others back e left =
          let later : z ∷ xs ≡ w ∷ (front ++ (x ∷ back)) = rest_same y v (z ∷ xs) (w ∷ (front ++ (x ∷ back))) e in
          record {
            front = w ∷ v ∷ front;
            back = back;
            is = ap₂ (λ a l. a ∷ l) (same_first z w xs (front ++ (x ∷ back)) later)
                (ap₂ (λ a l. a ∷ l) (same_first y v (z ∷ xs) (w ∷ (front ++ (x ∷ back))) e) (rest_same z w xs (front ++ (x ∷ back)) later));
            left = IsPermutation-trans others (v ∷ w ∷ (front ++ back)) (w ∷ v ∷ (front ++ back)) left (turned v w (front ++ back));
          }

  stands_in : (others ys : List X) → IsPermutation (x ∷ others) ys → StandsIn x others ys
  stands_in others ys h =
      (along_permutation Moves (λ xs. (IsPermutation-refl xs, λ others h. h)) behind turn
      (λ xs ys zs h k. (IsPermutation-trans xs ys zs h.0 k.0, λ others l. k.1 others (h.1 others l))) (x ∷ others) ys h).1 others
      (record { front = []; back = others; is = refl; left = IsPermutation-refl others })

-- ---- counts in a row that leave the range

record RunsOver {C : Type 0} (kind : Counting C) (fits : C → Bool) (cs : List C) : Type 0 where
  before : List C
  first : C
  others : List C
  after : List C
  laid : cs ≡ before ++ (first ∷ (others ++ after))
  too_much : fits (all_joined kind first others) ≡ false

module _ {C : Type 0} {kind : Counting C} (laws : IsCounting kind) (fits : C → Bool) where
  all_joined_append : (c : C) (ds es : List C) → all_joined kind c (ds ++ es) ≡ all_joined kind (all_joined kind c ds) es
  all_joined_append c [] es = refl
  all_joined_append c (d ∷ ds) es = all_joined_append (kind.join c d) ds es

  all_joined_from : (c d : C) (ds : List C) → all_joined kind c (d ∷ ds) ≡ kind.join c (all_joined kind d ds)
  all_joined_from c d [] = refl
  all_joined_from c d (e ∷ ds) = ap (λ x. all_joined kind x ds) (laws.join_assoc c d e) ∙ all_joined_from c (kind.join d e) ds

  -- one of them stands for others
  module _ (c d : C) (ds : List C) (whole : all_joined kind d ds ≡ c) where
    abbrev opened : List C → List C → List C
    opened front back = front ++ ((d ∷ ds) ++ back)

    run_opened : (x : C) (front back others after : List C) → front ++ (c ∷ back) ≡ others ++ after
        → (more : List C) × (rest : List C) × (opened front back ≡ more ++ rest) × (all_joined kind x more ≡ all_joined kind x others)
    run_opened x front back [] after e = ([], opened front back, refl, refl)
    run_opened x [] back (o ∷ others) after e = (
      (d ∷ ds) ++ others,
      after,
      ap (λ l. (d ∷ ds) ++ l) (ap (drop 1) e) ∙ sym (append_assoc (d ∷ ds) others after),
      all_joined_append x (d ∷ ds) others
          ∙ ap (λ y. all_joined kind y others) (all_joined_from x d ds ∙ ap (kind.join x) (whole ∙ same_first c o back (others ++ after) e)),
    )
    run_opened x (q ∷ front) back (o ∷ others) after e =
        let k = run_opened (kind.join x o) front back others after (ap (drop 1) e) in
        (o ∷ k.0, k.1, ap₂ (λ y l. y ∷ l) (same_first q o (front ++ (c ∷ back)) (others ++ after) e) k.2, k.3)

    over_opened : (front back before : List C) (first : C) (others after : List C) → front ++ (c ∷ back) ≡ before ++ (first ∷ (others ++ after))
        → fits (all_joined kind first others) ≡ false
        → RunsOver kind fits (opened front back)
    over_opened [] back [] first others after e over = record {
      before = [];
      first = d;
      others = ds ++ others;
      after = after;
      laid = ap (λ l. (d ∷ ds) ++ l) (ap (drop 1) e) ∙ ap (λ l. d ∷ l) (sym (append_assoc ds others after));
      too_much =
          ap fits (all_joined_append d ds others ∙ ap (λ y. all_joined kind y others) (whole ∙ same_first c first back (others ++ after) e)) ∙ over;
    }
    over_opened [] back (b ∷ before) first others after e over = record {
      before = (d ∷ ds) ++ before;
      first = first;
      others = others;
      after = after;
      laid = ap (λ l. (d ∷ ds) ++ l) (ap (drop 1) e) ∙ sym (append_assoc (d ∷ ds) before (first ∷ (others ++ after)));
      too_much = over;
    }
    over_opened (q ∷ front) back [] first others after e over =
        let k = run_opened first front back others after (ap (drop 1) e) in
        record {
          before = [];
          first = first;
          others = k.0;
          after = k.1;
          laid = ap₂ (λ y l. y ∷ l) (same_first q first (front ++ (c ∷ back)) (others ++ after) e) k.2;
          too_much = ap fits k.3 ∙ over;
        }
    over_opened (q ∷ front) back (b ∷ before) first others after e over =
        let k = over_opened front back before first others after (ap (drop 1) e) over in
        record {
          before = q ∷ k.before;
          first = k.first;
          others = k.others;
          after = k.after;
          laid = ap (λ l. q ∷ l) k.laid;
          too_much = k.too_much;
        }

-- ---- the counts on one edge, in any order

module _ {C : Type 0} (u : Edge) where
  abbrev lies_on : Entry C → Bool
  lies_on e = is_eq (edge_order e.edge u)

  abbrev count_if : Bool → Entry C → List C
  count_if b e = cond b (e.count ∷ []) []

  counts_are : (es : List (Entry C)) → counts_on u es ≡ flat_map (λ e. count_if (lies_on e) e) es
  counts_are [] = refl
  counts_are (e ∷ es) = by (lies_on e) (counts_are es)
    where
      by : (b : Bool) → counts_on u es ≡ flat_map (λ e. count_if (lies_on e) e) es
          → map (λ (e : Entry C). e.count) (cond b (e ∷ filter lies_on es) (filter lies_on es)) ≡ count_if b e ++ flat_map (λ e. count_if (lies_on e) e) es
      by true h = ap (λ l. e.count ∷ l) h
      by false h = h

  pub counts_permuted : (es fs : List (Entry C)) → IsPermutation es fs → IsPermutation (counts_on u es) (counts_on u fs)
  counts_permuted es fs h =
      subst (IsPermutation (counts_on u es)) (sym (counts_are fs))
      (subst (λ l. IsPermutation l (flat_map (λ e. count_if (lies_on e) e) fs)) (sym (counts_are es)) (flat_map_permuted (λ e. count_if (lies_on e) e) es fs h))

  abbrev here : C → Entry C
  here c = record { edge = u; count = c }

  on_are : (es : List (Entry C)) → filter lies_on es ≡ map here (counts_on u es)
  on_are [] = refl
  on_are (e ∷ es) = by (lies_on e) refl (on_are es)
    where
      by : (b : Bool) → lies_on e ≡ b → filter lies_on es ≡ map here (counts_on u es)
          → cond b (e ∷ filter lies_on es) (filter lies_on es) ≡ map here (map (λ (e : Entry C). e.count) (cond b (e ∷ filter lies_on es) (filter lies_on es)))
      by true on h = ap₂ (λ x l. x ∷ l) (λ i. record { edge = edge_equal e.edge u (is_equal (edge_order e.edge u) on) i; count = e.count }) h
      by false on h = h

  counts_of_here : (cs : List C) → counts_on u (map here cs) ≡ cs
  counts_of_here [] = refl
  counts_of_here (c ∷ cs) = counts_here u (here c) (map here cs) (edge_itself u) ∙ ap (λ l. c ∷ l) (counts_of_here cs)

  none_off : (es : List (Entry C)) → counts_on u (filter (λ e. not (lies_on e)) es) ≡ []
  none_off [] = refl
  none_off (e ∷ es) = by (lies_on e) refl (none_off es)
    where
      by : (b : Bool) → lies_on e ≡ b → counts_on u (filter (λ e. not (lies_on e)) es) ≡ []
          → counts_on u (cond (not b) (e ∷ filter (λ e. not (lies_on e)) es) (filter (λ e. not (lies_on e)) es)) ≡ []
      by true on h = h
      by false on h =
          ap (λ b. map (λ (e : Entry C). e.count) (cond b (e ∷ filter lies_on (filter (λ e. not (lies_on e)) es))
          (filter lies_on (filter (λ e. not (lies_on e)) es)))) on ∙ h

  overfull_from : (kind : Counting C) (fits : C → Bool) (es : List (Entry C)) (cs : List C) → IsPermutation (counts_on u es) cs → RunsOver kind fits cs
      → IsOverfull kind fits es
  overfull_from kind fits es cs same over = record {
    edge = u;
    ordered = map here cs ++ filter (λ e. not (lies_on e)) es;
    reordered =
        IsPermutation-trans es (filter lies_on es ++ filter (λ e. not (lies_on e)) es) (map here cs ++ filter (λ e. not (lies_on e)) es)
        (IsPermutation-filter_both lies_on (λ e. not (lies_on e)) (λ e. refl) es)
        (IsPermutation-append_left (filter (λ e. not (lies_on e)) es) (filter lies_on es) (map here cs)
        (subst (λ l. IsPermutation l (map here cs)) (sym (on_are es)) (IsPermutation-map here (counts_on u es) cs same)));
    before = over.before;
    first = over.first;
    others = over.others;
    after = over.after;
    laid =
        counts_append u (map here cs) (filter (λ e. not (lies_on e)) es)
        ∙ (ap₂ (λ l m. l ++ m) (counts_of_here cs) (none_off es) ∙ (append-nil cs ∙ over.laid));
    too_much = over.too_much;
  }

  none_from : (es : List (Entry C)) → count_at es u ≡ None → counts_on u es ≡ []
  none_from [] h = refl
  none_from (e ∷ es) h = by (lies_on e) h (none_from es)
    where
      by : (b : Bool) → cond b (Some e.count) (count_at es u) ≡ None → (count_at es u ≡ None → counts_on u es ≡ [])
          → map (λ (e : Entry C). e.count) (cond b (e ∷ filter lies_on es) (filter lies_on es)) ≡ []
      by true h rest = absurd (cc)
      by false h rest = rest h

-- what is joined on the edge is joined of counts on it
module _ {C : Type 0} {kind : Counting C} (laws : IsCounting kind) (u : Edge) (c : C) where
  not_empty : (d : C) → unless_none kind d ≡ Some c → d ≡ c
  not_empty d h = by (kind.is_empty d) h
    where
      by : (empty : Bool) → cond empty None (Some d) ≡ Some c → d ≡ c
      by true h = absurd (cc)
      by false h = same_Some d c h

  total_is : (d : C) (o : Option C) → with_count kind d o ≡ Some c → with_total laws d o ≡ c
  total_is d None h = not_empty d h
  total_is d (Some x) h = not_empty (kind.join d x) h

  joined_counts : (es : List (Entry C)) → joined_at kind es u ≡ Some c → (d : C) × (ds : List C) × (counts_on u es ≡ d ∷ ds) × (all_joined kind d ds ≡ c)
  joined_counts [] h = absurd (cc)
  joined_counts (e ∷ es) h = by (is_eq (edge_order e.edge u)) h (joined_counts es)
    where
      by : (b : Bool) → cond b (with_count kind e.count (joined_at kind es u)) (joined_at kind es u) ≡ Some c
          → (joined_at kind es u ≡ Some c → (d : C) × (ds : List C) × (counts_on u es ≡ d ∷ ds) × (all_joined kind d ds ≡ c))
          → (d : C) × (ds : List C) × (map (λ (e : Entry C). e.count) (cond b (e ∷ filter (lies_on u) es) (filter (lies_on u) es)) ≡ d ∷ ds)
          × (all_joined kind d ds ≡ c)
      by true h rest = (e.count, counts_on u es, refl, all_joined_at laws u e.count es ∙ total_is e.count (joined_at kind es u) h)
      by false h rest = rest h

-- Entries that were joined beforehand leave the range with others only where they do unjoined.
module _ {C : Type 0} {kind : Counting C} (laws : IsCounting kind) (fits : C → Bool) (es fs : List (Entry C)) where
  pub overfull_unjoined : IsOverfull kind fits (normal kind es ++ fs) → IsOverfull kind fits (es ++ fs)
  overfull_unjoined over = by (count_at (normal kind es) over.edge) refl
    where
      u : Edge
      u = over.edge

      counts : List C
      counts = counts_on over.edge over.ordered

      runs : RunsOver kind fits (counts_on over.edge over.ordered)
      runs = record { before = over.before; first = over.first; others = over.others; after = over.after; laid = over.laid; too_much = over.too_much }

      permuted : IsPermutation (counts_on over.edge (normal kind es) ++ counts_on over.edge fs) (counts_on over.edge over.ordered)
      permuted =
          subst (λ l. IsPermutation l (counts_on over.edge over.ordered)) (counts_append over.edge (normal kind es) fs)
          (counts_permuted over.edge (normal kind es ++ fs) over.ordered over.reordered)

      by : (o : Option C) → count_at (normal kind es) over.edge ≡ o → IsOverfull kind fits (es ++ fs)
      by None h =
          overfull_after kind fits es fs
          (overfull_from over.edge kind fits fs (counts_on over.edge over.ordered)
          (subst (λ l. IsPermutation (l ++ counts_on over.edge fs) (counts_on over.edge over.ordered)) (none_from over.edge (normal kind es) h) permuted) runs)
      by (Some c) h =
          let own = joined_counts laws over.edge c es (sym (count_at_normal kind es over.edge) ∙ h) in
          let one : IsPermutation (c ∷ counts_on over.edge fs) (counts_on over.edge over.ordered) =
          subst (λ l. IsPermutation (l ++ counts_on over.edge fs) (counts_on over.edge over.ordered))
          (one_on over.edge c (normal kind es) (normal_rising kind es) h) permuted in
          let stands = stands_in c (counts_on over.edge fs) (counts_on over.edge over.ordered) one in
          let ds = own.0 ∷ own.1 in
          overfull_from over.edge kind fits (es ++ fs) (stands.front ++ (ds ++ stands.back))
          (subst (λ l. IsPermutation l (stands.front ++ (ds ++ stands.back)))
          (sym (counts_append over.edge es fs ∙ ap (λ l. l ++ counts_on over.edge fs) own.2))
          (IsPermutation-trans (ds ++ counts_on over.edge fs) (ds ++ (stands.front ++ stands.back)) (stands.front ++ (ds ++ stands.back))
          (IsPermutation-append_right ds (counts_on over.edge fs) (stands.front ++ stands.back) stands.left)
          (subst (λ l. IsPermutation l (stands.front ++ (ds ++ stands.back))) (append_assoc ds stands.front stands.back)
          (subst (IsPermutation ((ds ++ stands.front) ++ stands.back)) (append_assoc stands.front ds stands.back)
          (IsPermutation-append_left stands.back (ds ++ stands.front) (stands.front ++ ds) (IsPermutation-append_comm ds stands.front))))))
          (over_opened laws fits c own.0 own.1 own.3 stands.front stands.back over.before over.first over.others over.after
          (sym stands.is ∙ over.laid) over.too_much)
