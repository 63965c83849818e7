-- One segment is passed.
use Rattle.std.specs.Prelude.{◌≡◌, ◌&&◌, ℕ, ◌+◌, ◌≤◌, ℤ, ◌≤ℤ◌, Bool, true, false, not, List, length, All, AllPairs}
use Rattle.std.specs.Ordering.{int_cmp}
use Rattle.std.specs.declared.cmp.Ordering.TheVariants.{Less}
use Rattle.std.proofs.Common.{refl, sym, ap, ap₂, subst, ◌⊎◌, inl, inr, arith}
use Rattle.std.proofs.lemmas.Int.{ints}
use Rattle.std.proofs.lemmas.List.Elements.{All-contains}
use Rattle.i_tree.specs.Layout.{IsAccepted}
use Rattle.i_tree.specs.Bag.{Bag, IsInTime, IsAdded, IsPassed}
use Rattle.plane_base.specs.Plane.{Edge, is_before, edge_order}
use Rattle.segment_split.specs.StepBounds.{y_range, all_values}
use Rattle.segment_split.specs.MarkLists.{IsAt}
use Rattle.segment_split.specs.Rows.{is_old}
use Rattle.segment_split.specs.BucketTrees.{y_buckets, nth_edge, insertion_of, Holds, HoldAll, met_in, HasNumber, comes_to, Meets, met_before}
use Rattle.segment_split.specs.declared.pairs.buckets.passed.Passed.{Passed}
use Rattle.segment_split.proofs.Passes.MarkLists.{at_contains, forward_x}
use Rattle.segment_split.proofs.Passes.Columns.{LiesAmong, all_among}
use Rattle.segment_split.proofs.Rows.Laws.{starts_near}
use Rattle.segment_split.proofs.Rows.Layouts.{min_to_max}
use Rattle.segment_split.proofs.BucketTrees.Held.{holds_other, holds_asked, holds_more}
use Rattle.segment_split.proofs.BucketTrees.Met.{met_has, met_in_both}
use Rattle.segment_split.proofs.BucketTrees.Pairs.{nth_is}

same_int : (x : ℤ) → x ≤ℤ x
same_int x = omega (arith, ints)

same_number : (n : ℕ) → n ≤ n
same_number n = omega arith

-- what may be asked of a tree
module _ (chosen : ℕ → Bool) (es : List Edge) (j : ℕ) (s : Edge) (at : IsAt es j s) (bag : Bag ℤ Passed) (h : Holds chosen es j bag) where
  pub may_ask : IsInTime int_cmp s.a.x bag
  may_ask = h.in_time j s (same_number j) at

  pub accepts : IsAccepted (y_range s).least (y_range s).greatest bag.buckets
  accepts = subst (IsAccepted (y_range s).least (y_range s).greatest) (sym h.buckets) (record { from = own.from; ordered = min_to_max s.a.y s.b.y; to = own.to })
    where
      own : LiesAmong (all_values y_range es) (y_range s)
      own = All-contains (λ t. LiesAmong (all_values y_range es) (y_range t)) es s (all_among y_range es) (at_contains es j s at)

module _ (es : List Edge) (rising : AllPairs (λ s t. edge_order s t ≡ Less) es) (next_new : List ℕ) (j : ℕ) (s : Edge) (at : IsAt es j s) where
  -- what follows doesn't begin before it
  later : (i : ℕ) (t : Edge) → j ≤ i → IsAt es i t → s.a.x ≤ℤ t.a.x
  later i t l there = starts_near es rising t.a.x i t there (same_int t.a.x) j s l at

  earlier : (i : ℕ) (t : Edge) → i ≤ j → IsAt es i t → t.a.x ≤ℤ s.a.x
  earlier i t l there = starts_near es rising s.a.x j s at (same_int s.a.x) i t l there

  -- its insertion, by the buckets of the tree
  own_insertion : (chosen : ℕ → Bool) (bag : Bag ℤ Passed) → Holds chosen es j bag → insertion_of bag.buckets j s ≡ insertion_of (y_buckets es) j (nth_edge es j)
  own_insertion chosen bag h = ap₂ (λ b t. insertion_of b j t) h.buckets (nth_is es j s at)

  -- a tree that was asked, and one that took the segment
  asked : (chosen : ℕ → Bool) (old new : Bag ℤ Passed) → IsPassed int_cmp (λ (p : Passed). p.end) s.a.x old new → Holds chosen es j old → Holds chosen es j new
  asked chosen old new passed h = holds_asked chosen es j s later old new (may_ask chosen es j s at old h) passed h

  taken : (chosen : ℕ → Bool) → chosen j ≡ true → (old new : Bag ℤ Passed) → IsAdded int_cmp (λ (p : Passed). p.end) (insertion_of old.buckets j s) old new → Holds chosen es j old → Holds chosen es (j + 1) new
  taken chosen on old new added h =
      holds_more chosen es j on old new (subst (λ i. IsAdded int_cmp (λ (p : Passed). p.end) i old new) (own_insertion chosen old h) added) h

  module _ (fresh old : Bag ℤ Passed) (h : HoldAll es next_new j fresh old) where
    pub passed_old : is_old next_new j ≡ true → (fresh' old' : Bag ℤ Passed) → IsPassed int_cmp (λ (p : Passed). p.end) s.a.x fresh fresh'
        → IsAdded int_cmp (λ (p : Passed). p.end) (insertion_of old.buckets j s) old old' → HoldAll es next_new (j + 1) fresh' old'
    passed_old e fresh' old' passed added = record {
      new_ones = holds_other (λ i. not (is_old next_new i)) es j (ap not e) fresh' (asked (λ i. not (is_old next_new i)) fresh fresh' passed h.new_ones);
      old_ones = taken (is_old next_new) e old old' added h.old_ones;
    }

    pub passed_new : is_old next_new j ≡ false → (mid fresh' old' : Bag ℤ Passed) → IsPassed int_cmp (λ (p : Passed). p.end) s.a.x fresh mid → IsPassed int_cmp (λ (p : Passed). p.end) s.a.x old old'
        → IsAdded int_cmp (λ (p : Passed). p.end) (insertion_of mid.buckets j s) mid fresh' → HoldAll es next_new (j + 1) fresh' old'
    passed_new e mid fresh' old' passed both added = record {
      new_ones = taken (λ i. not (is_old next_new i)) (ap not e) mid fresh' added (asked (λ i. not (is_old next_new i)) fresh mid passed h.new_ones);
      old_ones = holds_other (is_old next_new) es j e old' (asked (is_old next_new) old old' both h.old_ones);
    }

    -- a tree that was only asked may take the segment too
    pub asked_accepts : (mid : Bag ℤ Passed) → IsPassed int_cmp (λ (p : Passed). p.end) s.a.x fresh mid → IsAccepted (y_range s).least (y_range s).greatest mid.buckets
    asked_accepts mid passed = accepts (λ i. not (is_old next_new i)) es j s at mid (asked (λ i. not (is_old next_new i)) fresh mid passed h.new_ones)

    -- ---- which are met

    not_both : (b : Bool) → (b && true) ≡ false → not b ≡ true
    not_both false e = refl
    not_both true e = absurd (cc)

    come : (i : ℕ) → comes_to (y_buckets es) (nth_edge es i) (nth_edge es j) ≡ true → comes_to (y_buckets es) (nth_edge es i) s ≡ true
    come i e = subst (λ u. comes_to (y_buckets es) (nth_edge es i) u ≡ true) (sym (nth_is es j s at)) e

    pub met_by_old : is_old next_new j ≡ true → (i k : ℕ) → (k ≡ j) × Meets es next_new i k → (k ≡ j) × HasNumber (met_in fresh s) i
    met_by_old e i k (same, met) = by (subst (Meets es next_new i) same met)
      where
        by : Meets es next_new i j → (k ≡ j) × HasNumber (met_in fresh s) i
        by (l, near, apart) =
            (same, met_has (λ n. not (is_old next_new n)) es j s at fresh h.new_ones i l (not_both (is_old next_new i) (subst (λ b. (is_old next_new i && b) ≡ false) e apart)) (come i near))

    pub met_by_new : (i k : ℕ) → (k ≡ j) × Meets es next_new i k → ((k ≡ j) × HasNumber (met_in fresh s) i) ⊎ ((k ≡ j) × HasNumber (met_in old s) i)
    met_by_new i k (same, met) = by (subst (Meets es next_new i) same met) (is_old next_new i) refl
      where
        by : Meets es next_new i j → (b : Bool) → is_old next_new i ≡ b → ((k ≡ j) × HasNumber (met_in fresh s) i) ⊎ ((k ≡ j) × HasNumber (met_in old s) i)
        by (l, near, apart) true e = inr (same, met_has (is_old next_new) es j s at old h.old_ones i l e (come i near))
        by (l, near, apart) false e = inl (same, met_has (λ n. not (is_old next_new n)) es j s at fresh h.new_ones i l (ap not e) (come i near))

    -- ---- how many are met

    pub met_few : All (λ s. is_before s.a s.b ≡ true) es → length (met_in fresh s) + length (met_in old s) ≤ met_before es j
    met_few ahead =
        met_in_both es j s at earlier (forward_x s (All-contains (λ s. is_before s.a s.b ≡ true) es s ahead (at_contains es j s at))) next_new fresh old h.new_ones h.old_ones
