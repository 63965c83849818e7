-- Which pairs are held against each other, and how many.
use Rattle.std.specs.Prelude.{◌≡◌, ◌&&◌, ℕ, zero, suc, ◌+◌, ◌<◌, ◌≤◌, ℤ, pos, ◌<ℤ◌, Bool, true, false, cond, nat_le, int_le, List, [], ◌∷◌, ◌++◌, length, take, count_by, slice_index_or, All, AllPairs}
use Rattle.std.specs.declared.cmp.Ordering.TheVariants.{Less}
use Rattle.std.proofs.Common.{refl, sym, ap, ap₂, ◌∙◌, subst, ◌⊎◌, inl, inr, arith}
use Rattle.std.proofs.lemmas.Int.{ints}
use Rattle.std.proofs.lemmas.Bool.{cases_Bool, cases_lt, ltb-true}
use Rattle.std.proofs.lemmas.List.{get_or_default, take_more}
use Rattle.std.proofs.lemmas.List.Sums.{sum_by-take-le}
use Rattle.std.proofs.lemmas.List.Elements.{All-contains}
use Rattle.i_tree.specs.Layout.{bucket_of}
use Rattle.plane_base.specs.Plane.{Edge, is_before, edge_order}
use Rattle.plane_base.specs.Crossing.{Marks, no_marks, marks_by}
use Rattle.plane_base.specs.CrossingLaws.{BoxesMeet}
use Rattle.segment_split.specs.StepBounds.{x_range, y_range, share_point, share_bucket, pairs_by, bucket_pairs, all_values}
use Rattle.segment_split.specs.MarkLists.{LaidMark, IsAt, SkipsOld}
use Rattle.segment_split.specs.Rows.{Finds, is_old}
use Rattle.segment_split.specs.BucketTrees.{y_buckets, nth_edge, HasNumber, comes_to, Meets, met_before}
use Rattle.segment_split.specs.declared.pairs.buckets.passed.Passed.{Passed}
use Rattle.plane_base.specs.declared.rounding.Rounding.{Rounding}
use Rattle.plane_base.proofs.Facts.Crossings.Roundings.{unmarked_apart}
use Rattle.segment_split.proofs.Passes.MarkLists.{at_same, at_contains, unmarked_past, old_none}
use Rattle.segment_split.proofs.Passes.PairCounts.{pairs_push}
use Rattle.segment_split.proofs.Passes.Columns.{LiesAmong, bucket_rises, all_among}
use Rattle.segment_split.proofs.BucketTrees.Met.{both_of}
use Rattle.segment_split.proofs.Rows.Meetings.{at_most_nat}

abbrev pub nobody : Passed
nobody = record { number = 0; end = pos 0 }

-- ---- what is found, one by one

-- j' is j, and i stands among the first k that were found
abbrev pub HeldTo : List Passed → ℕ → ℕ → ℕ → ℕ → Type 0
HeldTo found j k i j' = (j' ≡ j) × ((q : ℕ) × (q < k) × ((slice_index_or found q nobody).number ≡ i))

pub held_more : (found : List Passed) (j k n : ℕ) → n ≡ (slice_index_or found k nobody).number → (i j' : ℕ) → HeldTo found j (k + 1) i j' → HeldTo found j k i j' ⊎ ((i ≡ n) × (j' ≡ j))
held_more found j k n here i j' (e, (q, l, is)) = by (cases_lt q k)
  where
    by : (q < k) ⊎ (k ≤ q) → HeldTo found j k i j' ⊎ ((i ≡ n) × (j' ≡ j))
    by (inl less) = inl (e, (q, less, is))
    by (inr more) = let same : q ≡ k = omega (arith, l, more) in inr (sym is ∙ (ap (λ q. (slice_index_or found q nobody).number) same ∙ sym here), e)

pub held_all : (found : List Passed) (j k : ℕ) → length found ≤ k → (i j' : ℕ) → (j' ≡ j) × HasNumber found i → HeldTo found j k i j'
held_all found j k end i j' (e, (p, (q, l, is), number)) =
    (e, (q, omega (arith, l, end), ap (λ (p : Passed). p.number) (get_or_default found q nobody p l ∙ is) ∙ number))

-- ---- edges by number

pub nth_at : (es : List Edge) (j : ℕ) → j < length es → IsAt es j (nth_edge es j)
nth_at es j l = (l, get_or_default es j _ (nth_edge es j) l)

pub nth_is : (es : List Edge) (j : ℕ) (s : Edge) → IsAt es j s → s ≡ nth_edge es j
nth_is es j s at = at_same es j s (nth_edge es j) at (nth_at es j at.0)

-- ---- which pairs are held

both_at_most : (a b c d : ℕ) → a ≤ b → c ≤ d → (nat_le a b && nat_le c d) ≡ false → ⊥
both_at_most a b c d h l off =
    let on : (nat_le a b && nat_le c d) ≡ true = ap₂ (λ x y. x && y) (at_most_nat a b h) (at_most_nat c d l) in
    let wrong : true ≡ false = sym on ∙ off in
    absurd (cc)

int_above : (x y : ℤ) → int_le x y ≡ false → y <ℤ x
int_above x y e = omega (arith, ints)

one_of : (a b : Bool) → (a && b) ≡ false → (a ≡ false) ⊎ (b ≡ false)
one_of true b e = inr e
one_of false b e = inl refl

-- boxes that meet share a bucket
share_if_met : (es : List Edge) (s t : Edge) → LiesAmong (all_values y_range es) (y_range s) → LiesAmong (all_values y_range es) (y_range t) → BoxesMeet s t → share_bucket (y_buckets es) (y_range s) (y_range t) ≡ false → ⊥
share_if_met es s t p q meet down =
    let values = all_values y_range es in
    both_at_most (bucket_of (y_buckets es) (y_range s).least) (bucket_of (y_buckets es) (y_range t).greatest) (bucket_of (y_buckets es) (y_range t).least) (bucket_of (y_buckets es) (y_range s).greatest)
    (bucket_rises values (y_range s).least (y_range t).greatest p.from meet.bottom) (bucket_rises values (y_range t).least (y_range s).greatest q.from meet.top) down

module _ (stride first last : ℤ) (rounding : Rounding) (es : List Edge) (rising : AllPairs (λ s t. edge_order s t ≡ Less) es) (ahead : All (λ s. is_before s.a s.b ≡ true) es) (next_new : List ℕ) (skips : SkipsOld es next_new) where
  directed : (i : ℕ) (s : Edge) → IsAt es i s → is_before s.a s.b ≡ true
  directed i s at = All-contains (λ s. is_before s.a s.b ≡ true) es s ahead (at_contains es i s at)

  among : (i : ℕ) (s : Edge) → IsAt es i s → LiesAmong (all_values y_range es) (y_range s)
  among i s at = All-contains (λ s. LiesAmong (all_values y_range es) (y_range s)) es s (all_among y_range es) (at_contains es i s at)

  old_apart : (i j : ℕ) (s t : Edge) → IsAt es i s → IsAt es j t → (is_old next_new i && is_old next_new j) ≡ true → marks_by rounding s t ≡ no_marks
  old_apart i j s t at there e =
      let parts = both_of (is_old next_new i) (is_old next_new j) e in
      old_none stride first last rounding es rising next_new skips i s at (ltb-true i (slice_index_or next_new i i) parts.0) j j t (omega arith) (ltb-true j (slice_index_or next_new j j) parts.1) there

  far_apart : (i j : ℕ) (s t : Edge) → IsAt es i s → IsAt es j t → comes_to (y_buckets es) s t ≡ false → marks_by rounding s t ≡ no_marks
  far_apart i j s t at there e = by (one_of (int_le t.a.x s.b.x) (share_bucket (y_buckets es) (y_range s) (y_range t)) e)
    where
      by : (int_le t.a.x s.b.x ≡ false) ⊎ (share_bucket (y_buckets es) (y_range s) (y_range t) ≡ false) → marks_by rounding s t ≡ no_marks
      by (inl past) = unmarked_past rounding s t (directed i s at) (directed j t there) (int_above t.a.x s.b.x past)
      by (inr apart) = unmarked_apart rounding s t (λ meet. share_if_met es s t (among i s at) (among j t there) meet apart)

  -- an earlier segment is met, or the two lay nothing
  pub all_met : (i j : ℕ) (s t : Edge) → i < j → IsAt es i s → IsAt es j t → Meets es next_new i j ⊎ (marks_by rounding s t ≡ no_marks)
  all_met i j s t before at there = by (cases_Bool (is_old next_new i && is_old next_new j)) (cases_Bool (comes_to (y_buckets es) s t))
    where
      by : ((is_old next_new i && is_old next_new j) ≡ true) ⊎ ((is_old next_new i && is_old next_new j) ≡ false) → (comes_to (y_buckets es) s t ≡ true) ⊎ (comes_to (y_buckets es) s t ≡ false)
          → Meets es next_new i j ⊎ (marks_by rounding s t ≡ no_marks)
      by (inl old) near = inr (old_apart i j s t at there old)
      by (inr new) (inr far) = inr (far_apart i j s t at there far)
      by (inr new) (inl near) = inl (before, subst (λ u. comes_to (y_buckets es) u (nth_edge es j) ≡ true) (nth_is es i s at) (subst (λ u. comes_to (y_buckets es) s u ≡ true) (nth_is es j t there) near), new)

-- one segment more
pub met_more : (pairs : ℕ → ℕ → Type 0) (j i k : ℕ) → (k < j + 1) × pairs i k → ((k < j) × pairs i k) ⊎ ((k ≡ j) × pairs i k)
met_more pairs j i k (l, met) = by (cases_lt k j)
  where
    by : (k < j) ⊎ (j ≤ k) → ((k < j) × pairs i k) ⊎ ((k ≡ j) × pairs i k)
    by (inl less) = inl (less, met)
    by (inr more) = inr (omega (arith, l, more), met)

-- all segments were passed
pub finds_passed : (stride least greatest : ℤ) (marks : Edge → Edge → Marks) (es : List Edge) (pairs : ℕ → ℕ → Type 0) (n : ℕ) → length es ≤ n → (old new : List LaidMark) (off : Bool)
    → Finds stride least greatest marks es (λ i k. (k < n) × pairs i k) old new off → Finds stride least greatest marks es pairs old new off
finds_passed stride least greatest marks es pairs n end old new off h = record {
  only = h.only;
  keeps = h.keeps;
  found = λ i j s t met at there. let l = there.0 in h.found i j s t (omega (arith, l, end), met) at there;
}

-- ---- how many

counted_taken : (test : Edge → Bool) (n : ℕ) (es : List Edge) → count_by test (take n es) ≤ count_by test es
counted_taken test n es = sum_by-take-le (λ s. cond (test s) 1 0) es n

pub pairs_taken : (test : Edge → Edge → Bool) (n : ℕ) (es : List Edge) → pairs_by test (take n es) ≤ pairs_by test es
pairs_taken test zero es = omega arith
pairs_taken test (suc n) [] = omega arith
pairs_taken test (suc n) (s ∷ es) = let own = counted_taken (test s) n es in let rest = pairs_taken test n es in omega (arith, own, rest)

-- with one segment more
pub pairs_more : (es : List Edge) (j : ℕ) → j < length es → bucket_pairs (y_buckets es) (take (j + 1) es) ≡ bucket_pairs (y_buckets es) (take j es) + met_before es j
pairs_more es j within =
    ap (bucket_pairs (y_buckets es)) (take_more es j (nth_edge es j) within)
    ∙ (ap (λ u. bucket_pairs (y_buckets es) (take j es ++ u ∷ [])) (sym (get_or_default es j _ (nth_edge es j) within))
    ∙ pairs_push (λ s t. share_point (x_range s) (x_range t) && share_bucket (y_buckets es) (y_range s) (y_range t)) (take j es) (nth_edge es j))
