-- Keys that share an x share a column.
use Rattle.std.specs.Prelude.{◌≡◌, ◌⊎◌, ℕ, zero, suc, ◌+◌, ◌*◌, ◌/◌, ◌^◌, ◌<◌, ◌≤◌, ℤ, ◌≤ℤ◌, Bool, true, false, ◌&&◌, cond, nat_le, int_le, List, [], ◌∷◌, map, sum_by, count_by, All}
use Rattle.std.specs.List.{range_with_len}
use Rattle.std.proofs.Common.{refl, sym, ap, ap₂, ◌∙◌, subst, inl, inr, arith}
use Rattle.std.proofs.Math.Nat.{le-div_iff_mul-le, div-mul-le_self, div-lt_iff_lt-mul}
use Rattle.std.proofs.lemmas.Int.{ints, fold-int_min_bounds, fold-int_max_bounds}
use Rattle.std.proofs.lemmas.Bool.{cases_Bool, cases_order, leb-true}
use Rattle.std.proofs.lemmas.List.Sums.{sum_by-cons}
use Rattle.std.proofs.lemmas.List.Elements.{All-nil, All-cons, All-head, All-tail}
use Rattle.i_tree.specs.Layout.{bucket_of, offset_of}
use Rattle.plane_base.specs.Plane.{Edge, is_before}
use Rattle.segment_split.specs.StepBounds.{Values, x_range, share_point, reaches, width_up_to, all_values, span_of, buckets_over, has_layout, pairs_by, all_pairs, column_pairs, most_by_columns}
use Rattle.segment_split.proofs.Passes.MarkLists.{forward_x}
use Rattle.segment_split.proofs.Passes.PairCounts.{pairs_among_all}
use Rattle.segment_split.proofs.BucketTrees.Met.{both_of}
use Rattle.segment_split.proofs.Rows.Meetings.{at_most_nat, sum_both}

-- ---- buckets

below_power : (n : ℕ) → n < 2 ^ n
below_power zero = omega arith
below_power (suc n) = let h = below_power n in omega (arith, h)

fits_or_doubled : (span k : ℕ) → (span / width_up_to span k ≤ 31) ⊎ (width_up_to span k ≡ 2 ^ k)
fits_or_doubled span zero = inr refl
fits_or_doubled span (suc k) = by (cases_Bool (nat_le (span / width_up_to span k) 31)) (fits_or_doubled span k)
  where
    by : (nat_le (span / width_up_to span k) 31 ≡ true) ⊎ (nat_le (span / width_up_to span k) 31 ≡ false) → (span / width_up_to span k ≤ 31) ⊎ (width_up_to span k ≡ 2 ^ k)
        → (span / width_up_to span (suc k) ≤ 31) ⊎ (width_up_to span (suc k) ≡ 2 ^ suc k)
    by (inl up) h =
        let fits : span / width_up_to span k ≤ 31 = leb-true (span / width_up_to span k) 31 up in
        let same : width_up_to span (suc k) ≡ width_up_to span k = ap (λ b. cond b (width_up_to span k) (2 * width_up_to span k)) up in
        inl (subst (λ w. span / w ≤ 31) (sym same) fits)
    by (inr down) (inl fits) = absurd (too_wide fits)
      where
        too_wide : span / width_up_to span k ≤ 31 → ⊥
        too_wide f = let up : nat_le (span / width_up_to span k) 31 ≡ true = grind arith in let clash : true ≡ false = sym up ∙ down in absurd (cc)
    by (inr down) (inr e) =
        let same : width_up_to span (suc k) ≡ 2 * width_up_to span k = ap (λ b. cond b (width_up_to span k) (2 * width_up_to span k)) down in
        inr (omega (arith, same, e))

pub width_fits : (span : ℕ) → span / width_up_to span span ≤ 31
width_fits span = by (fits_or_doubled span span)
  where
    small : (w : ℕ) → span < w → span / w ≤ 31
    small w l =
        let some : 0 < w = omega (arith, l) in
        let less : span / w < 32 = (div-lt_iff_lt-mul {x = span} {y = 32} some).1 (omega (arith, l)) in
        omega (arith, less)

    by : (span / width_up_to span span ≤ 31) ⊎ (width_up_to span span ≡ 2 ^ span) → span / width_up_to span span ≤ 31
    by (inl fits) = fits
    by (inr e) = small (width_up_to span span) (subst (λ w. span < w) (sym e) (below_power span))

pub width_positive : (span k : ℕ) → 0 < width_up_to span k
width_positive span zero = omega arith
width_positive span (suc k) = by (nat_le (span / width_up_to span k) 31) (width_positive span k)
  where
    by : (b : Bool) → 0 < width_up_to span k → 0 < cond b (width_up_to span k) (2 * width_up_to span k)
    by true h = h
    by false h = omega (arith, h)

offset_rises : (min a b : ℤ) → min ≤ℤ a → a ≤ℤ b → offset_of min a ≤ offset_of min b
offset_rises min a b h k = omega (arith, ints)

through : (a b c : ℕ) → a ≤ b → b ≤ c → a ≤ c
through a b c h k = omega (arith, h, k)

pub quotient_rises : (w a b : ℕ) → 0 < w → a ≤ b → a / w ≤ b / w
quotient_rises w a b wide h = (le-div_iff_mul-le wide).1 (through (a / w * w) a b (div-mul-le_self a w) h)

-- a greater value has no lesser bucket
pub bucket_rises : (values : Values) (a b : ℤ) → values.least ≤ℤ a → a ≤ℤ b → bucket_of (buckets_over values) a ≤ bucket_of (buckets_over values) b
bucket_rises values a b h k =
    quotient_rises (width_up_to (span_of values) (span_of values)) (offset_of values.least a) (offset_of values.least b) (width_positive (span_of values) (span_of values)) (offset_rises values.least a b h k)

pub bucket_within : (values : Values) (a : ℤ) → values.least ≤ℤ a → a ≤ℤ values.greatest → bucket_of (buckets_over values) a ≤ 31
bucket_within values a h k = through (bucket_of (buckets_over values) a) (bucket_of (buckets_over values) values.greatest) 31 (bucket_rises values a values.greatest h k) (width_fits (span_of values))

-- ---- all values

-- the range lies among them
pub record LiesAmong (values r : Values) : Type 0 where
  pub from : values.least ≤ℤ r.least
  pub to : r.greatest ≤ℤ values.greatest

module _ (range : Edge → Values) where
  of_map : (P : ℤ → Type 0) (f : Edge → ℤ) (es : List Edge) → All P (map f es) → All (λ s. P (f s)) es
  of_map P f [] h = All-nil (λ s. P (f s))
  of_map P f (s ∷ es) h = All-cons (λ s. P (f s)) s es (All-head P (f s) (map f es) h) (of_map P f es (All-tail P (f s) (map f es) h))

  both : (values : Values) (es : List Edge) → All (λ s. values.least ≤ℤ (range s).least) es → All (λ s. (range s).greatest ≤ℤ values.greatest) es → All (λ s. LiesAmong values (range s)) es
  both values [] h k = All-nil (λ s. LiesAmong values (range s))
  both values (s ∷ es) h k = All-cons (λ s. LiesAmong values (range s)) s es
      (record { from = All-head (λ s. values.least ≤ℤ (range s).least) s es h; to = All-head (λ s. (range s).greatest ≤ℤ values.greatest) s es k })
      (both values es (All-tail (λ s. values.least ≤ℤ (range s).least) s es h) (All-tail (λ s. (range s).greatest ≤ℤ values.greatest) s es k))

  pub all_among : (es : List Edge) → All (λ s. LiesAmong (all_values range es) (range s)) es
  all_among [] = All-nil (λ s. LiesAmong (all_values range []) (range s))
  all_among (s ∷ es) =
      let values = all_values range (s ∷ es) in
      let low = fold-int_min_bounds (range s).least (map (λ t. (range t).least) es) values.least refl in
      let high = fold-int_max_bounds (range s).greatest (map (λ t. (range t).greatest) es) values.greatest refl in
      All-cons (λ t. LiesAmong values (range t)) s es (record { from = low.0; to = high.0 })
      (both values es (of_map (λ x. values.least ≤ℤ x) (λ t. (range t).least) es low.1) (of_map (λ x. x ≤ℤ values.greatest) (λ t. (range t).greatest) es high.1))

-- ---- pairs in columns

one_of : (f : ℕ → ℕ) (n from k : ℕ) → from ≤ k → k < from + n → f k ≤ sum_by f (range_with_len from n)
one_of f zero from k l m = absurd (omega (arith, l, m))
one_of f (suc n) from k l m = by (one_of f n (from + 1) k) (cases_order from k)
  where
    parts : sum_by f (range_with_len from (suc n)) ≡ f from + sum_by f (range_with_len (from + 1) n)
    parts = sum_by-cons f from (range_with_len (from + 1) n)

    by : (from + 1 ≤ k → k < from + 1 + n → f k ≤ sum_by f (range_with_len (from + 1) n)) → (from ≡ k) ⊎ ((from < k) ⊎ (k < from)) → f k ≤ sum_by f (range_with_len from (suc n))
    by later (inl e) = let same = ap f e in omega (arith, parts, same)
    by later (inr (inl less)) = let rest = later (omega (arith, less)) (omega (arith, m)) in omega (arith, parts, rest)
    by later (inr (inr more)) = absurd (omega (arith, l, more))

-- pairs that pass a test each pass one of 32 others
module _ (P : Edge → Type 0) (test : Edge → Edge → Bool) (tests : ℕ → Edge → Edge → Bool) (some : (s t : Edge) → P s → P t → test s t ≡ true → (k : ℕ) × (k < 32) × (tests k s t ≡ true)) where
  one_among : (s t : Edge) → P s → P t → cond (test s t) 1 0 ≤ sum_by (λ k. cond (tests k s t) 1 0) (range_with_len 0 32)
  one_among s t p q = by (cases_Bool (test s t))
    where
      reached : (k : ℕ) × (k < 32) × (tests k s t ≡ true) → 1 ≤ sum_by (λ k. cond (tests k s t) 1 0) (range_with_len 0 32)
      reached (k, l, e) =
          let one = one_of (λ k. cond (tests k s t) 1 0) 32 0 k (omega arith) (omega (arith, l)) in
          let is = subst (λ b. 1 ≤ cond b 1 0) (sym e) (omega arith) in
          omega (arith, one, is)

      by : (test s t ≡ true) ⊎ (test s t ≡ false) → cond (test s t) 1 0 ≤ sum_by (λ k. cond (tests k s t) 1 0) (range_with_len 0 32)
      by (inl up) = subst (λ b. cond b 1 0 ≤ sum_by (λ k. cond (tests k s t) 1 0) (range_with_len 0 32)) (sym up) (reached (some s t p q up))
      by (inr down) = subst (λ b. cond b 1 0 ≤ sum_by (λ k. cond (tests k s t) 1 0) (range_with_len 0 32)) (sym down) (omega arith)

  count_among : (s : Edge) → P s → (es : List Edge) → All P es → count_by (test s) es ≤ sum_by (λ k. count_by (tests k s) es) (range_with_len 0 32)
  count_among s p [] all = omega arith
  count_among s p (t ∷ es) all =
      let own = one_among s t p (All-head P t es all) in
      let rest = count_among s p es (All-tail P t es all) in
      let parts = sum_by-cons (λ u. cond (test s u) 1 0) t es in
      let sums = columns (range_with_len 0 32) in
      omega (arith, own, rest, parts, sums)
    where
      columns : (ks : List ℕ) → sum_by (λ k. count_by (tests k s) (t ∷ es)) ks ≡ sum_by (λ k. cond (tests k s t) 1 0) ks + sum_by (λ k. count_by (tests k s) es) ks
      columns [] = refl
      columns (k ∷ ks) =
          let all = sum_by-cons (λ k. count_by (tests k s) (t ∷ es)) k ks in
          let one = sum_by-cons (λ k. cond (tests k s t) 1 0) k ks in
          let other = sum_by-cons (λ k. count_by (tests k s) es) k ks in
          let here = sum_by-cons (λ u. cond (tests k s u) 1 0) t es in
          let rest = columns ks in
          omega (arith, all, one, other, here, rest)

  pub pairs_among : (es : List Edge) → All P es → pairs_by test es ≤ sum_by (λ k. pairs_by (tests k) es) (range_with_len 0 32)
  pairs_among [] all = omega arith
  pairs_among (s ∷ es) all =
      let own = count_among s (All-head P s es all) es (All-tail P s es all) in
      let rest = pairs_among es (All-tail P s es all) in
      let sums = sum_both (λ k. count_by (tests k s) es) (λ k. pairs_by (tests k) es) (range_with_len 0 32) in
      omega (arith, own, rest, sums)

-- ---- columns of x

both_true : (a b : Bool) → a ≡ true → b ≡ true → (a && b) ≡ true
both_true a b e f = ap₂ (λ a b. a && b) e f

below : (x y : ℤ) → int_le x y ≡ true → x ≤ℤ y
below x y e = omega (arith, ints)

same : (x : ℤ) → x ≤ℤ x
same x = omega (arith, ints)

through_z : (x y z : ℤ) → x ≤ℤ y → y ≤ℤ z → x ≤ℤ z
through_z x y z a b = omega (arith, ints)

module _ (values : Values) where
  abbrev IsHere : Edge → Type 0
  IsHere s = LiesAmong values (x_range s) × (s.a.x ≤ℤ s.b.x)

  -- the column of the greater of the two first ends
  column_of_later : (s t : Edge) → IsHere s → IsHere t → s.a.x ≤ℤ t.a.x → t.a.x ≤ℤ s.b.x
      → (k : ℕ) × (k < 32) × ((reaches (buckets_over values) k (x_range s) && reaches (buckets_over values) k (x_range t)) ≡ true)
  column_of_later s t p q first near =
      let columns = buckets_over values in
      let k = bucket_of columns t.a.x in
      let within = bucket_within values t.a.x q.0.from (through_z t.a.x t.b.x values.greatest q.1 q.0.to) in
      let one = at_most_nat (bucket_of columns s.a.x) k (bucket_rises values s.a.x t.a.x p.0.from first) in
      let two = at_most_nat k (bucket_of columns s.b.x) (bucket_rises values t.a.x s.b.x q.0.from near) in
      let three = at_most_nat k k (omega arith) in
      let four = at_most_nat k (bucket_of columns t.b.x) (bucket_rises values t.a.x t.b.x q.0.from q.1) in
      (k, omega (arith, within), both_true _ _ (both_true _ _ one two) (both_true _ _ three four))

  turned : (s t : Edge) → (k : ℕ) × (k < 32) × ((reaches (buckets_over values) k (x_range t) && reaches (buckets_over values) k (x_range s)) ≡ true)
      → (k : ℕ) × (k < 32) × ((reaches (buckets_over values) k (x_range s) && reaches (buckets_over values) k (x_range t)) ≡ true)
  turned s t (k, l, e) = let parts = both_of (reaches (buckets_over values) k (x_range t)) (reaches (buckets_over values) k (x_range s)) e in (k, l, both_true _ _ parts.1 parts.0)

  share_column : (s t : Edge) → IsHere s → IsHere t → share_point (x_range s) (x_range t) ≡ true
      → (k : ℕ) × (k < 32) × ((reaches (buckets_over values) k (x_range s) && reaches (buckets_over values) k (x_range t)) ≡ true)
  share_column s t p q e = by (cases_Bool (int_le s.a.x t.a.x))
    where
      parts : (int_le s.a.x t.b.x ≡ true) × (int_le t.a.x s.b.x ≡ true)
      parts = both_of (int_le s.a.x t.b.x) (int_le t.a.x s.b.x) e

      after : (x y : ℤ) → int_le x y ≡ false → y ≤ℤ x
      after x y down = omega (arith, ints)

      by : (int_le s.a.x t.a.x ≡ true) ⊎ (int_le s.a.x t.a.x ≡ false) → (k : ℕ) × (k < 32) × ((reaches (buckets_over values) k (x_range s) && reaches (buckets_over values) k (x_range t)) ≡ true)
      by (inl up) = column_of_later s t p q (below s.a.x t.a.x up) (below t.a.x s.b.x parts.1)
      by (inr down) = turned s t (column_of_later t s q p (after s.a.x t.a.x down) (below s.a.x t.b.x parts.0))

all_here : (values : Values) (es : List Edge) → All (λ s. LiesAmong values (x_range s)) es → All (λ s. is_before s.a s.b ≡ true) es → All (IsHere values) es
all_here values [] h k = All-nil (IsHere values)
all_here values (s ∷ es) h k =
    All-cons (IsHere values) s es (All-head (λ s. LiesAmong values (x_range s)) s es h, forward_x s (All-head (λ s. is_before s.a s.b ≡ true) s es k))
    (all_here values es (All-tail (λ s. LiesAmong values (x_range s)) s es h) (All-tail (λ s. is_before s.a s.b ≡ true) s es k))

-- no more pairs share an x than the columns have together
pub pairs_in_columns : (es : List Edge) → All (λ s. is_before s.a s.b ≡ true) es → pairs_by (λ s t. share_point (x_range s) (x_range t)) es ≤ most_by_columns es
pairs_in_columns es ahead = by (all_values x_range es) (all_among x_range es) (has_layout (all_values x_range es))
  where
    by : (values : Values) → All (λ s. LiesAmong values (x_range s)) es → (b : Bool) → pairs_by (λ s t. share_point (x_range s) (x_range t)) es ≤ cond b (column_pairs (buckets_over values) es) (all_pairs es)
    by values among true =
        pairs_among (IsHere values) (λ s t. share_point (x_range s) (x_range t)) (λ k s t. reaches (buckets_over values) k (x_range s) && reaches (buckets_over values) k (x_range t)) (share_column values) es
        (all_here values es among ahead)
    by values among false = pairs_among_all (λ s t. share_point (x_range s) (x_range t)) es
