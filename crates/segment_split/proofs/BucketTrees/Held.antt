-- What trees hold as segments are passed.
use Rattle.std.specs.Prelude.{◌≡◌, ◌≢◌, ℕ, suc, ◌+◌, ◌≤◌, ℤ, ◌≤ℤ◌, ◌<ℤ◌, Bool, true, false, not, cond, int_lt, List, [], ◌∷◌, Option, Some, IsPermutation}
use Rattle.std.specs.Option.{ForSome}
use Rattle.std.specs.Ordering.{int_cmp}
use Rattle.std.specs.declared.cmp.Ordering.TheVariants.{Less}
use Rattle.std.proofs.Common.{refl, sym, ap, ◌∙◌, subst, ◌⊎◌, inl, inr, arith}
use Rattle.std.proofs.lemmas.Int.{ints}
use Rattle.std.proofs.lemmas.Bool.{cases_Bool}
use Rattle.std.proofs.lemmas.List.Sorted.{IsPermutation-refl, IsPermutation-trans, IsPermutation-cons}
use Rattle.i_tree.specs.Layout.{bucket_of}
use Rattle.i_tree.specs.Bag.{Bag, Insertion, IsInTime, IsAdded, IsPassed, empty_bag, is_still_live}
use Rattle.plane_base.specs.Plane.{Edge}
use Rattle.plane_base.proofs.Facts.Points.Orders.{int_cmp_less, int_less}
use Rattle.segment_split.specs.StepBounds.{y_range}
use Rattle.segment_split.specs.MarkLists.{IsAt}
use Rattle.segment_split.specs.Rows.{is_old}
use Rattle.segment_split.specs.BucketTrees.{y_buckets, nth_edge, insertion_of, insertions_to, reaching, Holds, HoldAll}
use Rattle.segment_split.specs.declared.pairs.buckets.passed.Passed.{Passed}
use Rattle.plane_base.proofs.Facts.Points.AlongOrder.{up_through}

-- ---- times

pub not_less : (x y : ℤ) → x ≤ℤ y → int_cmp y x ≢ Less
not_less x y h less = clash (int_less y x less)
  where
    clash : y <ℤ x → ⊥
    clash l = omega (arith, ints)

pub at_most : (x y : ℤ) → int_cmp y x ≢ Less → x ≤ℤ y
at_most x y h = by (cases_Bool (int_lt y x))
  where
    by : (int_lt y x ≡ true) ⊎ (int_lt y x ≡ false) → x ≤ℤ y
    by (inl up) = let l : y <ℤ x = grind (arith, ints) in absurd (h (int_cmp_less y x l))
    by (inr down) = omega (arith, ints)

only : (x y : ℤ) → Some x ≡ Some y → x ≡ y
only x y e = cc

-- what may be asked at a time may be asked at a later one
in_time_later : (latest : Option ℤ) (x y : ℤ) → ForSome latest (λ l. int_cmp x l ≢ Less) → int_cmp y x ≢ Less → ForSome latest (λ l. int_cmp y l ≢ Less)
in_time_later latest x y h later = λ l e. not_less l y (up_through l x y (at_most l x (h l e)) (at_most x y later))

-- ---- one tree

module _ (chosen : ℕ → Bool) (es : List Edge) where
  pub holds_none : (bag : Bag ℤ Passed) → bag ≡ empty_bag (y_buckets es) → Holds chosen es 0 bag
  holds_none bag e = subst (Holds chosen es 0) (sym e) empty
    where
      empty : Holds chosen es 0 (empty_bag (y_buckets es))
      empty = record { buckets = refl; few = omega arith; in_time = λ j t l at x none. absurd (cc); live = λ x h. IsPermutation-refl [] }

  module _ (n : ℕ) where
    more : n + 1 ≡ suc n
    more = omega arith

    -- a segment that isn't chosen
    pub holds_other : chosen n ≡ false → (bag : Bag ℤ Passed) → Holds chosen es n bag → Holds chosen es (n + 1) bag
    holds_other off bag h = record {
      buckets = h.buckets;
      few = omega (arith, h.few);
      in_time = λ j t l at. h.in_time j t (omega (arith, l)) at;
      live = λ x i. subst (λ l. IsPermutation (reaching x l) (reaching x bag.live)) (sym same) (h.live x i);
    }
      where
        same : insertions_to chosen es (n + 1) ≡ insertions_to chosen es n
        same = ap (insertions_to chosen es) more ∙ ap (λ b. cond b (insertion_of (y_buckets es) n (nth_edge es n) ∷ insertions_to chosen es n) (insertions_to chosen es n)) off

    -- a walk where a segment begins
    pub holds_asked : (s : Edge) → ((j : ℕ) (t : Edge) → n ≤ j → IsAt es j t → s.a.x ≤ℤ t.a.x) → (old new : Bag ℤ Passed) → IsInTime int_cmp s.a.x old
        → IsPassed int_cmp (λ (p : Passed). p.end) s.a.x old new → Holds chosen es n old → Holds chosen es n new
    holds_asked s later old new own asked h = record {
      buckets = asked.buckets ∙ h.buckets;
      few = omega (arith, h.few, asked.insertions);
      in_time = λ j t l at. subst (λ o. ForSome o (λ l. int_cmp t.a.x l ≢ Less)) (sym asked.latest_time) (λ y e. subst (λ z. int_cmp t.a.x z ≢ Less) (only s.a.x y e) (not_less s.a.x t.a.x (later j t l at)));
      live = λ x i. by x (subst (λ o. ForSome o (λ l. int_cmp x l ≢ Less)) asked.latest_time i s.a.x refl);
    }
      where
        by : (x : ℤ) → int_cmp x s.a.x ≢ Less → IsPermutation (reaching x (insertions_to chosen es n)) (reaching x new.live)
        by x after = subst (IsPermutation (reaching x (insertions_to chosen es n))) (sym (asked.later x after)) (h.live x (in_time_later old.latest_time s.a.x x own after))

    -- a segment that is put in
    pub holds_more : chosen n ≡ true → (old new : Bag ℤ Passed) → IsAdded int_cmp (λ (p : Passed). p.end) (insertion_of (y_buckets es) n (nth_edge es n)) old new → Holds chosen es n old → Holds chosen es (n + 1) new
    holds_more on old new added h = record {
      buckets = added.buckets ∙ h.buckets;
      few = omega (arith, h.few, added.insertions);
      in_time = λ j t l at. subst (λ o. ForSome o (λ l. int_cmp t.a.x l ≢ Less)) (sym added.latest_time) (h.in_time j t (omega (arith, l)) at);
      live = λ x i. by x (subst (λ o. ForSome o (λ l. int_cmp x l ≢ Less)) added.latest_time i);
    }
      where
        own : Insertion Passed
        own = insertion_of (y_buckets es) n (nth_edge es n)

        all : insertions_to chosen es (n + 1) ≡ own ∷ insertions_to chosen es n
        all = ap (insertions_to chosen es) more ∙ ap (λ b. cond b (insertion_of (y_buckets es) n (nth_edge es n) ∷ insertions_to chosen es n) (insertions_to chosen es n)) on

        both : (x : ℤ) (b : Bool) → is_still_live int_cmp (λ (p : Passed). p.end) x own.value ≡ b → IsPermutation (reaching x (insertions_to chosen es n)) (reaching x old.live)
            → IsPermutation (reaching x (own ∷ insertions_to chosen es n)) (reaching x (own ∷ old.live))
        both x true up i = rw up (IsPermutation-cons own (reaching x (insertions_to chosen es n)) (reaching x old.live) i)
        both x false down i = rw down i

        by : (x : ℤ) → IsInTime int_cmp x old → IsPermutation (reaching x (insertions_to chosen es (n + 1))) (reaching x new.live)
        by x i =
            subst (λ l. IsPermutation (reaching x l) (reaching x new.live)) (sym all)
            (IsPermutation-trans (reaching x (own ∷ insertions_to chosen es n)) (reaching x (own ∷ old.live)) (reaching x new.live)
            (both x (is_still_live int_cmp (λ (p : Passed). p.end) x own.value) refl (h.live x i)) (added.later x i))

-- what is put in, by the segment's own numbers
pub added_as : (old new : Bag ℤ Passed) (number : ℕ) (s : Edge) (low high end : ℤ) → low ≡ (y_range s).least → high ≡ (y_range s).greatest → end ≡ s.b.x
    → IsAdded int_cmp (λ (p : Passed). p.end) (record { first = bucket_of old.buckets low; last = bucket_of old.buckets high; value = record { number = number; end = end } }) old new
    → IsAdded int_cmp (λ (p : Passed). p.end) (insertion_of old.buckets number s) old new
added_as old new number s low high end e f g h =
    subst (Added (y_range s).least (y_range s).greatest) g (subst (λ m. Added (y_range s).least m end) f (subst (λ l. Added l high end) e h))
  where
    Added : ℤ → ℤ → ℤ → Type 0
    Added l m x = IsAdded int_cmp (λ (p : Passed). p.end) (record { first = bucket_of old.buckets l; last = bucket_of old.buckets m; value = record { number = number; end = x } }) old new

-- nothing is passed yet
pub hold_none : (es : List Edge) (next_new : List ℕ) (fresh old : Bag ℤ Passed) → fresh ≡ empty_bag (y_buckets es) → old ≡ empty_bag (y_buckets es) → HoldAll es next_new 0 fresh old
hold_none es next_new fresh old e f = record { new_ones = holds_none (λ i. not (is_old next_new i)) es fresh e; old_ones = holds_none (is_old next_new) es old f }
