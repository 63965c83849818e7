-- Trees of buckets: the segments that were passed, by their y, and which of them a later one meets there.
use Rattle.std.specs.Prelude.{◌≡◌, ◌&&◌, ℕ, zero, suc, ◌<◌, ◌≤◌, ℤ, pos, Bool, true, false, not, cond, int_le, List, [], ◌∷◌, take, count_by}
use Rattle.std.specs.Prelude.{slice_index_or, Contains, IsPermutation}
use Rattle.std.specs.Ordering.{int_cmp}
use Rattle.i_tree.specs.Layout.{Buckets, bucket_of}
use Rattle.i_tree.specs.Bag.{Bag, Insertion, IsInTime, still_live, values_met}
use Rattle.plane_base.specs.Plane.{Edge}
use Rattle.segment_split.specs.StepBounds.{all_values, buckets_over, share_bucket, share_point, x_range, y_range}
use Rattle.segment_split.specs.MarkLists.{IsAt}
use Rattle.segment_split.specs.Rows.{is_old}
use Rattle.segment_split.specs.declared.pairs.buckets.passed.Passed.{Passed}

-- the buckets of y of all edges
abbrev pub y_buckets : List Edge → Buckets
y_buckets es = buckets_over (all_values y_range es)

-- the edge of the number i
abbrev pub nth_edge : List Edge → ℕ → Edge
nth_edge es i = slice_index_or es i (record { a = record { x = pos 0; y = pos 0 }; b = record { x = pos 0; y = pos 0 } })

-- ---- what trees hold

-- the edge of the number i, from the first to the last bucket of its y
abbrev pub insertion_of : Buckets → ℕ → Edge → Insertion Passed
insertion_of buckets i s = record {
  first = bucket_of buckets (y_range s).least;
  last = bucket_of buckets (y_range s).greatest;
  value = record { number = i; end = s.b.x };
}

-- the chosen ones of the edges before n
abbrev pub insertions_to : (ℕ → Bool) → List Edge → ℕ → List (Insertion Passed)
insertions_to chosen es zero = []
insertions_to chosen es (suc n) = cond (chosen n) (insertion_of (y_buckets es) n (nth_edge es n) ∷ insertions_to chosen es n) (insertions_to chosen es n)

-- those that reach x: an edge is live up to its end
abbrev pub reaching : ℤ → List (Insertion Passed) → List (Insertion Passed)
reaching x insertions = still_live int_cmp (λ p. p.end) x insertions

-- The tree holds the chosen ones of the edges before n, and may be asked where any other begins.
pub record Holds (chosen : ℕ → Bool) (es : List Edge) (n : ℕ) (bag : Bag ℤ Passed) : Type 0 where
  pub buckets : bag.buckets ≡ y_buckets es
  pub few : bag.insertions ≤ n
  pub in_time : (j : ℕ) (t : Edge) → n ≤ j → IsAt es j t → IsInTime int_cmp t.a.x bag
  pub live : (x : ℤ) → IsInTime int_cmp x bag → IsPermutation (reaching x (insertions_to chosen es n)) (reaching x bag.live)

-- one tree holds the new ones, one the old ones
pub record HoldAll (es : List Edge) (next_new : List ℕ) (n : ℕ) (fresh old : Bag ℤ Passed) : Type 0 where
  pub new_ones : Holds (λ i. not (is_old next_new i)) es n fresh
  pub old_ones : Holds (is_old next_new) es n old

-- ---- what a later edge meets

-- what of a tree reaches the beginning of s and shares a bucket with it
abbrev pub met_in : Bag ℤ Passed → Edge → List Passed
met_in bag s =
    values_met int_cmp (λ p. p.end) (bucket_of bag.buckets (y_range s).least) (bucket_of bag.buckets (y_range s).greatest) s.a.x bag

-- i is the number of one of them
abbrev pub HasNumber : List Passed → ℕ → Type 0
HasNumber found i = (p : Passed) × Contains found p × (p.number ≡ i)

-- s reaches the beginning of t, and they share a bucket
abbrev pub comes_to : Buckets → Edge → Edge → Bool
comes_to buckets s t = int_le t.a.x s.b.x && share_bucket buckets (y_range s) (y_range t)

-- The edge j is met by the earlier edge i, and not both are old.
abbrev pub Meets : List Edge → List ℕ → ℕ → ℕ → Type 0
Meets es next_new i j =
    (i < j) × (comes_to (y_buckets es) (nth_edge es i) (nth_edge es j) ≡ true) × ((is_old next_new i && is_old next_new j) ≡ false)

-- so many of the edges before the number j share an x and a bucket with it
abbrev pub met_before : List Edge → ℕ → ℕ
met_before es j =
    count_by (λ s. share_point (x_range s) (x_range (nth_edge es j)) && share_bucket (y_buckets es) (y_range s) (y_range (nth_edge es j))) (take j es)
