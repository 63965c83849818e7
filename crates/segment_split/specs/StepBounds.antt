-- How many pairs of keys a redrawing looks at, at most.
use Rattle.std.specs.Prelude.{ℕ, zero, suc, ◌+◌, ◌*◌, ◌/◌, ◌≡◌, ◌≤◌, ℤ, pos, Bool, true, ◌&&◌, cond, nat_le, nat_lt, int_le, List, [], ◌∷◌, length, map}
use Rattle.std.specs.Prelude.{fold, sum_by, count_by}
use Rattle.std.specs.List.{range_with_len}
use Rattle.std.specs.Int.{int_min, int_max}
use Rattle.i_tree.specs.Steps.{Counts}
use Rattle.i_tree.specs.Layout.{Buckets, bucket_of, offset_of}
use Rattle.plane_base.specs.Plane.{Edge}
use Rattle.plane_base.specs.Counts.{Counting, Entry}
use Rattle.segment_split.specs.Passes.{edges_of}
use Rattle.segment_split.specs.Redrawing.{iterate, MarksInPass}
use Rattle.segment_split.specs.declared.solver.Precision.{Precision}
use Rattle.segment_split.specs.declared.solver.Strategy.{Strategy}
use Rattle.segment_split.specs.declared.solver.Strategy.TheVariants as strategy

-- so many pairs of keys, the earlier first, pass the test
abbrev pub pairs_by : (Edge → Edge → Bool) → List Edge → ℕ
pairs_by test [] = 0
pairs_by test (s ∷ es) = count_by (test s) es + pairs_by test es

-- every two keys
abbrev pub all_pairs : List Edge → ℕ
all_pairs es = pairs_by (λ s t. true) es

-- ---- ranges and buckets

-- the values from the least to the greatest
pub record Values : Type 0 where
  pub least : ℤ
  pub greatest : ℤ

-- the x of a key, whose first end is the lesser, and its y
abbrev pub x_range : Edge → Values
x_range s = record { least = s.a.x; greatest = s.b.x }

abbrev pub y_range : Edge → Values
y_range s = record { least = int_min s.a.y s.b.y; greatest = int_max s.a.y s.b.y }

-- the ranges have a point in common
abbrev pub share_point : Values → Values → Bool
share_point r q = int_le r.least q.greatest && int_le q.least r.greatest

-- the range reaches the bucket
abbrev pub reaches : Buckets → ℕ → Values → Bool
reaches buckets k r = nat_le (bucket_of buckets r.least) k && nat_le k (bucket_of buckets r.greatest)

-- the ranges have a bucket in common
abbrev pub share_bucket : Buckets → Values → Values → Bool
share_bucket buckets r q =
    nat_le (bucket_of buckets r.least) (bucket_of buckets q.greatest) && nat_le (bucket_of buckets q.least) (bucket_of buckets r.greatest)

-- the least power of two up to 2 ^ k with which the bucket of the greatest value is at most 31
abbrev pub width_up_to : ℕ → ℕ → ℕ
width_up_to span zero = 1
width_up_to span (suc k) = cond (nat_le (span / width_up_to span k) 31) (width_up_to span k) (2 * width_up_to span k)

-- from the least value that any key reaches to the greatest
abbrev pub all_values : (Edge → Values) → List Edge → Values
all_values range [] = record { least = pos 0; greatest = pos 0 }
all_values range (s ∷ es) = record {
  least = fold int_min (range s).least (map (λ t. (range t).least) es);
  greatest = fold int_max (range s).greatest (map (λ t. (range t).greatest) es);
}

-- how far they lie apart
abbrev pub span_of : Values → ℕ
span_of values = offset_of values.least values.greatest

-- the 32 buckets laid out over them
abbrev pub buckets_over : Values → Buckets
buckets_over values = record { min = values.least; max = values.greatest; width = width_up_to (span_of values) (span_of values) }

-- Below a span of 31 there is no layout.
abbrev pub has_layout : Values → Bool
has_layout values = nat_le 31 (span_of values)

-- ---- the bounds

-- the pairs of keys whose x ranges share a point and whose y ranges share a bucket
abbrev pub bucket_pairs : Buckets → List Edge → ℕ
bucket_pairs buckets es = pairs_by (λ s t. share_point (x_range s) (x_range t) && share_bucket buckets (y_range s) (y_range t)) es

abbrev pub most_by_buckets : List Edge → ℕ
most_by_buckets es =
    let ys = all_values y_range es in
    cond (has_layout ys) (bucket_pairs (buckets_over ys) es) (all_pairs es)

-- for each column the pairs of keys whose x ranges both reach it
abbrev pub column_pairs : Buckets → List Edge → ℕ
column_pairs columns es =
    sum_by (λ k. pairs_by (λ s t. reaches columns k (x_range s) && reaches columns k (x_range t)) es) (range_with_len 0 32)

abbrev pub most_by_columns : List Edge → ℕ
most_by_columns es =
    let xs = all_values x_range es in
    cond (has_layout xs) (column_pairs (buckets_over xs) es) (all_pairs es)

-- So many pairs of these keys a pass looks at, at most. The list looks at each pair once, at most.
abbrev pub most_pairs : Strategy → List Edge → ℕ
most_pairs strategy.List es = all_pairs es
most_pairs strategy.Tree es = most_by_buckets es
most_pairs strategy.Frag es = most_by_columns es
most_pairs strategy.Auto es = cond (nat_lt (length es) 64) (all_pairs es) (most_by_columns es)

-- so many the first n passes
abbrev pub pairs_in_passes : {C : Type 0} → Strategy → Counting C → Precision → List (Entry C) → ℕ → ℕ
pairs_in_passes by kind precision es zero = 0
pairs_in_passes by kind precision es (suc n) = pairs_in_passes by kind precision es n + most_pairs by (edges_of (iterate kind precision es n))

-- so many pairs the first n passes look at together
abbrev pub looks_in_passes : (ℕ → ℕ) → ℕ → ℕ
looks_in_passes looks zero = 0
looks_in_passes looks (suc n) = looks_in_passes looks n + looks n

-- Each pass that is made looks at no more pairs than it may, and none is made after one that marks nothing. So where pass n is one
-- that marks nothing, no more pairs were looked at than in the passes from 0 to n.
pub record LooksAtFew {C : Type 0} (by : Strategy) (kind : Counting C) (precision : Precision) (es : List (Entry C)) (old new : Counts) : Type 0 where
  pub made : ℕ
  pub looks : ℕ → ℕ
  pub each : (k : ℕ) → looks k ≤ most_pairs by (edges_of (iterate kind precision es k))
  pub last : (n : ℕ) → (MarksInPass kind precision es n → ⊥) → made ≤ n + 1
  pub all : new.pairs ≡ old.pairs + looks_in_passes looks made
  pub together : (n : ℕ) → (MarksInPass kind precision es n → ⊥) → new.pairs ≤ old.pairs + pairs_in_passes by kind precision es (suc n)
