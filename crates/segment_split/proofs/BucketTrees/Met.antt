-- What a segment meets in a tree.
use Rattle.std.specs.Prelude.{◌≡◌, ◌&&◌, ℕ, zero, suc, ◌+◌, ◌<◌, ◌≤◌, ℤ, ◌≤ℤ◌, ◌<ℤ◌, Bool, true, false, not, cond, int_le, List, [], ◌∷◌, map, filter, length, take, count_by, sum_by, All, Contains, IsPermutation}
use Rattle.std.specs.Ordering.{int_cmp, is_ge, MatchOrdering}
use Rattle.std.specs.Cmp.{int_ranks}
use Rattle.std.specs.declared.cmp.Ordering.{Ordering}
use Rattle.std.specs.declared.cmp.Ordering.TheVariants.{Less, Equal, Greater}
use Rattle.std.proofs.Common.{refl, sym, ap, ap₂, ◌∙◌, subst, ◌⊎◌, inl, inr, arith}
use Rattle.std.proofs.lemmas.Int.{ints}
use Rattle.std.proofs.lemmas.Bool.{cases_lt}
use Rattle.std.proofs.lemmas.List.{get_or_default, length-map, take_more}
use Rattle.std.proofs.lemmas.List.Elements.{All-nil, All-cons, All-filter, All-map, All-weaker, Contains-append_right}
use Rattle.std.proofs.lemmas.List.Sorted.{All-permutation, Contains-permutation, sum_by-IsPermutation}
use Rattle.std.proofs.lemmas.List.Sums.{length-filter, sum_by-cons, sum_by_push}
use Rattle.i_tree.specs.Layout.{Buckets, bucket_of}
use Rattle.i_tree.specs.Bag.{Bag, Insertion, IsInTime, is_still_live, meets, values_met}
use Rattle.plane_base.specs.Plane.{Edge}
use Rattle.segment_split.specs.StepBounds.{x_range, y_range, share_point, share_bucket}
use Rattle.segment_split.specs.MarkLists.{IsAt}
use Rattle.segment_split.specs.Rows.{is_old}
use Rattle.segment_split.specs.BucketTrees.{y_buckets, nth_edge, insertion_of, insertions_to, reaching, Holds, met_in, HasNumber, comes_to, met_before}
use Rattle.segment_split.specs.declared.pairs.buckets.passed.Passed.{Passed}
use Rattle.segment_split.proofs.Passes.PairCounts.{one_if}
use Rattle.segment_split.proofs.Rows.Bounds.{at_most}

-- ---- lists

contains_head : {X : Type 0} (x : X) (xs : List X) → Contains (x ∷ xs) x
contains_head x xs = (0, omega arith, refl)

contains_later : {X : Type 0} (x y : X) (xs : List X) → Contains xs y → Contains (x ∷ xs) y
contains_later x y xs h = Contains-append_right (x ∷ []) xs y h

contains_cases : {X : Type 0} (x y : X) (xs : List X) → Contains (x ∷ xs) y → (x ≡ y) ⊎ Contains xs y
contains_cases x y xs (zero, l, e) = inl e
contains_cases x y xs (suc k, l, e) = inr (k, omega (arith, l), e)

pub contains_filtered : {X : Type 0} (p : X → Bool) (xs : List X) (y : X) → Contains xs y → p y ≡ true → Contains (filter p xs) y
contains_filtered p [] y (k, l, e) up = absurd (omega (arith, l))
contains_filtered {X} p (x ∷ xs) y h up = by (contains_cases x y xs h) (contains_filtered p xs y) (p x) refl
  where
    by : (x ≡ y) ⊎ Contains xs y → (Contains xs y → p y ≡ true → Contains (filter p xs) y) → (b : Bool) → p x ≡ b → Contains (cond b (x ∷ filter p xs) (filter p xs)) y
    by (inl e) rest true on = subst (Contains (x ∷ filter p xs)) e (contains_head x (filter p xs))
    by (inl e) rest false off = let clash : true ≡ false = sym up ∙ (ap p (sym e) ∙ off) in absurd (cc)
    by (inr c) rest true on = contains_later x y (filter p xs) (rest c up)
    by (inr c) rest false off = rest c up

contains_mapped : {X Y : Type 0} (f : X → Y) (xs : List X) (x : X) → Contains xs x → Contains (map f xs) (f x)
contains_mapped f [] y (k, l, e) = absurd (omega (arith, l))
contains_mapped {X} {Y} f (x ∷ xs) y h = by (contains_cases x y xs h) (contains_mapped f xs y)
  where
    by : (x ≡ y) ⊎ Contains xs y → (Contains xs y → Contains (map f xs) (f y)) → Contains (f x ∷ map f xs) (f y)
    by (inl e) rest = subst (λ z. Contains (f x ∷ map f xs) (f z)) e (contains_head (f x) (map f xs))
    by (inr c) rest = contains_later (f x) (f y) (map f xs) (rest c)

-- one more, filtered and counted
counted_more : {X : Type 0} (p q : X → Bool) (x : X) (xs : List X) → count_by q (filter p (x ∷ xs)) ≡ cond (p x && q x) 1 0 + count_by q (filter p xs)
counted_more {X} p q x xs = by (p x)
  where
    by : (b : Bool) → count_by q (cond b (x ∷ filter p xs) (filter p xs)) ≡ cond (b && q x) 1 0 + count_by q (filter p xs)
    by true = sum_by-cons (λ y. cond (q y) 1 0) x (filter p xs)
    by false = omega arith

-- ---- times

ge_to : (a b : ℤ) → is_ge (int_cmp a b) ≡ true → b ≤ℤ a
ge_to a b = by (int_cmp a b) (int_ranks a b)
  where
    by : (o : Ordering) → MatchOrdering o (a <ℤ b) (a ≡ b) (b <ℤ a) → is_ge o ≡ true → b ≤ℤ a
    by Less l up = absurd (cc)
    by Equal e up = omega (arith, ints)
    by Greater l up = omega (arith, ints)

ge_from : (a b : ℤ) → b ≤ℤ a → is_ge (int_cmp a b) ≡ true
ge_from a b h = by (int_cmp a b) (int_ranks a b)
  where
    by : (o : Ordering) → MatchOrdering o (a <ℤ b) (a ≡ b) (b <ℤ a) → is_ge o ≡ true
    by Less l = absurd (omega (arith, ints))
    by Equal e = refl
    by Greater l = refl

le_to : (a b : ℤ) → int_le a b ≡ true → a ≤ℤ b
le_to a b e = omega (arith, ints)

pub both_of : (a b : Bool) → (a && b) ≡ true → (a ≡ true) × (b ≡ true)
both_of true true e = (refl, refl)
both_of true false e = (refl, e)
both_of false b e = absurd (cc)

-- ---- what is inserted

module _ (chosen : ℕ → Bool) (es : List Edge) where
  insertions_earlier : (n : ℕ) → All (λ (i : Insertion Passed). i.value.number < n) (insertions_to chosen es n)
  insertions_earlier zero = All-nil (λ (i : Insertion Passed). i.value.number < zero)
  insertions_earlier (suc n) =
      by (chosen n)
      (All-weaker (λ (i : Insertion Passed). i.value.number < n) (λ (i : Insertion Passed). i.value.number < suc n) (λ i l. omega (arith, l)) (insertions_to chosen es n) (insertions_earlier n))
    where
      Earlier : List (Insertion Passed) → Type 0
      Earlier is = All (λ (i : Insertion Passed). i.value.number < suc n) is

      by : (b : Bool) → Earlier (insertions_to chosen es n) → Earlier (cond b (insertion_of (y_buckets es) n (nth_edge es n) ∷ insertions_to chosen es n) (insertions_to chosen es n))
      by true others = All-cons (λ (i : Insertion Passed). i.value.number < suc n) (insertion_of (y_buckets es) n (nth_edge es n)) (insertions_to chosen es n) (omega arith) others
      by false others = others

  insertions_have : (n i : ℕ) → i < n → chosen i ≡ true → Contains (insertions_to chosen es n) (insertion_of (y_buckets es) i (nth_edge es i))
  insertions_have zero i l up = absurd (omega (arith, l))
  insertions_have (suc n) i l up = by (cases_lt i n) (insertions_have n i) (chosen n) refl
    where
      Has : List (Insertion Passed) → Type 0
      Has is = Contains is (insertion_of (y_buckets es) i (nth_edge es i))

      by : (i < n) ⊎ (n ≤ i) → (i < n → chosen i ≡ true → Has (insertions_to chosen es n)) → (b : Bool) → chosen n ≡ b
          → Has (cond b (insertion_of (y_buckets es) n (nth_edge es n) ∷ insertions_to chosen es n) (insertions_to chosen es n))
      by (inl less) rest true on = contains_later (insertion_of (y_buckets es) n (nth_edge es n)) (insertion_of (y_buckets es) i (nth_edge es i)) (insertions_to chosen es n) (rest less up)
      by (inl less) rest false off = rest less up
      by (inr m) rest true on =
          let same : n ≡ i = omega (arith, l, m) in
          subst (λ k. Contains (insertion_of (y_buckets es) n (nth_edge es n) ∷ insertions_to chosen es n) (insertion_of (y_buckets es) k (nth_edge es k))) same
          (contains_head (insertion_of (y_buckets es) n (nth_edge es n)) (insertions_to chosen es n))
      by (inr m) rest false off = let same : i ≡ n = omega (arith, l, m) in let clash : true ≡ false = sym up ∙ (ap chosen same ∙ off) in absurd (cc)

  -- what is found of a tree
  module _ (n : ℕ) (s : Edge) (at : IsAt es n s) (bag : Bag ℤ Passed) (h : Holds chosen es n bag) where
    abbrev low : ℕ
    low = bucket_of (y_buckets es) (y_range s).least

    abbrev high : ℕ
    high = bucket_of (y_buckets es) (y_range s).greatest

    found_in : met_in bag s ≡ map (λ (i : Insertion Passed). i.value) (filter (meets low high) (reaching s.a.x bag.live))
    found_in = ap (λ (b : Buckets). map (λ (i : Insertion Passed). i.value) (filter (meets (bucket_of b (y_range s).least) (bucket_of b (y_range s).greatest)) (reaching s.a.x bag.live))) h.buckets

    in_time : IsInTime int_cmp s.a.x bag
    in_time = h.in_time n s (omega arith) at

    pub met_earlier : All (λ (p : Passed). p.number < n) (met_in bag s)
    met_earlier =
        let Earlier : Insertion Passed → Type 0 = λ (i : Insertion Passed). i.value.number < n in
        let all = All-filter (is_reaching s.a.x) Earlier (insertions_to chosen es n) (insertions_earlier n) in
        let held = All-permutation Earlier (reaching s.a.x (insertions_to chosen es n)) (reaching s.a.x bag.live) (h.live s.a.x in_time) all in
        subst (All (λ (p : Passed). p.number < n)) (sym found_in)
        (All-map (λ (p : Passed). p.number < n) (λ (i : Insertion Passed). i.value) (filter (meets low high) (reaching s.a.x bag.live)) (All-filter (meets low high) Earlier (reaching s.a.x bag.live) held))
      where
        is_reaching : ℤ → Insertion Passed → Bool
        is_reaching x i = is_still_live int_cmp (λ (p : Passed). p.end) x i.value

    pub met_has : (i : ℕ) → i < n → chosen i ≡ true → comes_to (y_buckets es) (nth_edge es i) s ≡ true → HasNumber (met_in bag s) i
    met_has i l up e = (own.value, subst (λ found. Contains found own.value) (sym found_in) there, refl)
      where
        own : Insertion Passed
        own = insertion_of (y_buckets es) i (nth_edge es i)

        parts : (int_le s.a.x (nth_edge es i).b.x ≡ true) × (share_bucket (y_buckets es) (y_range (nth_edge es i)) (y_range s) ≡ true)
        parts = both_of (int_le s.a.x (nth_edge es i).b.x) (share_bucket (y_buckets es) (y_range (nth_edge es i)) (y_range s)) e

        live : Contains (reaching s.a.x (insertions_to chosen es n)) own
        live = contains_filtered (λ (k : Insertion Passed). is_still_live int_cmp (λ (p : Passed). p.end) s.a.x k.value) (insertions_to chosen es n) own (insertions_have n i l up) (ge_from (nth_edge es i).b.x s.a.x (le_to s.a.x (nth_edge es i).b.x parts.0))

        there : Contains (map (λ (k : Insertion Passed). k.value) (filter (meets low high) (reaching s.a.x bag.live))) own.value
        there =
            contains_mapped (λ (k : Insertion Passed). k.value) (filter (meets low high) (reaching s.a.x bag.live)) own
            (contains_filtered (meets low high) (reaching s.a.x bag.live) own (Contains-permutation (reaching s.a.x (insertions_to chosen es n)) (reaching s.a.x bag.live) own (h.live s.a.x in_time) live) parts.1)

    pub met_counted : length (met_in bag s) ≡ count_by (meets low high) (reaching s.a.x (insertions_to chosen es n))
    met_counted =
        ap length found_in
        ∙ (length-map (filter (meets low high) (reaching s.a.x bag.live)) (λ (i : Insertion Passed). i.value)
        ∙ (length-filter (meets low high) (reaching s.a.x bag.live)
        ∙ sum_by-IsPermutation (λ (i : Insertion Passed). cond (meets low high i) 1 0) (reaching s.a.x (insertions_to chosen es n)) (reaching s.a.x bag.live) (h.live s.a.x in_time)))

-- ---- how many are met in both trees

module _ (es : List Edge) (j : ℕ) (s : Edge) (at : IsAt es j s) (begun : (i : ℕ) (t : Edge) → i ≤ j → IsAt es i t → t.a.x ≤ℤ s.a.x) (ahead : s.a.x ≤ℤ s.b.x) where
  abbrev tally : (ℕ → Bool) → ℕ → ℕ
  tally chosen n = count_by (meets (bucket_of (y_buckets es) (y_range s).least) (bucket_of (y_buckets es) (y_range s).greatest)) (reaching s.a.x (insertions_to chosen es n))

  abbrev shares : Edge → Bool
  shares t = share_point (x_range t) (x_range s) && share_bucket (y_buckets es) (y_range t) (y_range s)

  through : (x y z : ℤ) → x ≤ℤ y → y ≤ℤ z → x ≤ℤ z
  through x y z h k = omega (arith, ints)

  -- one segment more, which is chosen
  module _ (n : ℕ) (before : n < j) where
    abbrev own : Insertion Passed
    own = insertion_of (y_buckets es) n (nth_edge es n)

    abbrev found : Bool
    found =
        is_still_live int_cmp (λ (p : Passed). p.end) s.a.x own.value && meets (bucket_of (y_buckets es) (y_range s).least) (bucket_of (y_buckets es) (y_range s).greatest) own

    within : n < length es
    within = let l = at.0 in omega (arith, before, l)

    found_shares : found ≡ true → shares (nth_edge es n) ≡ true
    found_shares e =
        let t = nth_edge es n in
        let parts = both_of (is_still_live int_cmp (λ (p : Passed). p.end) s.a.x own.value) (meets (bucket_of (y_buckets es) (y_range s).least) (bucket_of (y_buckets es) (y_range s).greatest) own) e in
        let there : IsAt es n t = (within, get_or_default es n _ t within) in
        ap₂ (λ a b. a && b) (ap₂ (λ a b. a && b) (at_most t.a.x s.b.x (through t.a.x s.a.x s.b.x (begun n t (omega (arith, before)) there) ahead)) (at_most s.a.x t.b.x (ge_to t.b.x s.a.x parts.0))) parts.1

    own_counts : cond found 1 0 ≤ cond (shares (nth_edge es n)) 1 0
    own_counts = one_if found (shares (nth_edge es n)) found_shares

  both_tallies : (old : ℕ → Bool) (n : ℕ) → n ≤ j → tally (λ i. not (old i)) n + tally old n ≤ count_by shares (take n es)
  both_tallies old zero low = omega arith
  both_tallies old (suc n) low = by (old n) (both_tallies old n (omega (arith, low)))
    where
      own : Insertion Passed
      own = insertion_of (y_buckets es) n (nth_edge es n)

      p : Insertion Passed → Bool
      p i = is_still_live int_cmp (λ (p : Passed). p.end) s.a.x i.value

      q : Insertion Passed → Bool
      q i = meets (bucket_of (y_buckets es) (y_range s).least) (bucket_of (y_buckets es) (y_range s).greatest) i

      fresh : List (Insertion Passed)
      fresh = insertions_to (λ i. not (old i)) es n

      kept : List (Insertion Passed)
      kept = insertions_to old es n

      before : n < j
      before = omega (arith, low)

      counted : count_by shares (take (suc n) es) ≡ count_by shares (take n es) + cond (shares (nth_edge es n)) 1 0
      counted =
          let same : suc n ≡ n + 1 = omega arith in
          ap (λ k. count_by shares (take k es)) same ∙ (ap (sum_by (λ t. cond (shares t) 1 0)) (take_more es n _ (within n before)) ∙ sum_by_push (λ t. cond (shares t) 1 0) (take n es) (nth_edge es n))

      by : (b : Bool) → count_by q (filter p fresh) + count_by q (filter p kept) ≤ count_by shares (take n es)
          → count_by q (filter p (cond (not b) (own ∷ fresh) fresh)) + count_by q (filter p (cond b (own ∷ kept) kept)) ≤ count_by shares (take (suc n) es)
      by true rest = let more = counted_more p q own kept in let one = own_counts n before in omega (arith, rest, more, one, counted)
      by false rest = let more = counted_more p q own fresh in let one = own_counts n before in omega (arith, rest, more, one, counted)

  pub met_in_both : (next_new : List ℕ) (fresh old : Bag ℤ Passed) → Holds (λ i. not (is_old next_new i)) es j fresh → Holds (is_old next_new) es j old
      → length (met_in fresh s) + length (met_in old s) ≤ met_before es j
  met_in_both next_new fresh old h k =
      let one = met_counted (λ i. not (is_old next_new i)) es j s at fresh h in
      let two = met_counted (is_old next_new) es j s at old k in
      let most = both_tallies (is_old next_new) j (omega arith) in
      let same : met_before es j ≡ count_by shares (take j es) = ap (λ (t : Edge). count_by (λ u. share_point (x_range u) (x_range t) && share_bucket (y_buckets es) (y_range u) (y_range t)) (take j es)) (get_or_default es j _ s at.0 ∙ sym at.1) in
      omega (arith, one, two, most, same)

-- what a query finds
pub met_permuted : (bag : Bag ℤ Passed) (s : Edge) (low high x : ℤ) → low ≡ (y_range s).least → high ≡ (y_range s).greatest → x ≡ s.a.x → (found : List Passed)
    → IsPermutation (values_met int_cmp (λ (p : Passed). p.end) (bucket_of bag.buckets low) (bucket_of bag.buckets high) x bag) found → IsPermutation (met_in bag s) found
met_permuted bag s low high x e f g found h =
    subst (λ l. IsPermutation (values_met int_cmp (λ (p : Passed). p.end) (bucket_of bag.buckets l) (bucket_of bag.buckets (y_range s).greatest) s.a.x bag) found) e
    (subst (λ m. IsPermutation (values_met int_cmp (λ (p : Passed). p.end) (bucket_of bag.buckets low) (bucket_of bag.buckets m) s.a.x bag) found) f
    (subst (λ y. IsPermutation (values_met int_cmp (λ (p : Passed). p.end) (bucket_of bag.buckets low) (bucket_of bag.buckets high) y bag) found) g h))

-- a number stays, in whatever order
pub has_number : (met found : List Passed) → IsPermutation met found → (i : ℕ) → HasNumber met i → HasNumber found i
has_number met found same i (p, c, number) = (p, Contains-permutation met found p same c, number)
