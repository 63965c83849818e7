-- Pairs of keys counted one by one.
use Rattle.std.specs.Prelude.{◌≡◌, ℕ, zero, suc, ◌+◌, ◌<◌, ◌≤◌, ◌-◌, Bool, true, false, cond, List, [], ◌∷◌, ◌++◌, length, take, slice_index_or, sum_by, count_by, All}
use Rattle.std.proofs.Common.{refl, sym, ap, ◌∙◌, subst, arith}
use Rattle.std.proofs.lemmas.List.{take_more, take_all}
use Rattle.std.proofs.lemmas.List.Sums.{sum_by-cons, sum_by_push}
use Rattle.std.proofs.lemmas.List.Elements.{All-head, All-tail}
use Rattle.plane_base.specs.Plane.{Edge}
use Rattle.segment_split.specs.StepBounds.{pairs_by, all_pairs}

-- one of two, as a number
pub one_at_most : (b : Bool) → cond b 1 0 ≤ 1
one_at_most true = omega arith
one_at_most false = omega arith

pub one_if : (a b : Bool) → (a ≡ true → b ≡ true) → cond a 1 0 ≤ cond b 1 0
one_if true b h = subst (λ c. 1 ≤ cond c 1 0) (sym (h refl)) (omega arith)
one_if false b h = omega arith

-- ---- sums over numbers

abbrev pub sum_to : (ℕ → ℕ) → ℕ → ℕ
sum_to f zero = 0
sum_to f (suc n) = sum_to f n + f n

pub sum_to_rises : (f g : ℕ → ℕ) (n : ℕ) → ((i : ℕ) → i < n → f i ≤ g i) → sum_to f n ≤ sum_to g n
sum_to_rises f g zero h = omega arith
sum_to_rises f g (suc n) h =
    let own = h n (omega arith) in
    let others = sum_to_rises f g n (λ i l. h i (omega (arith, l))) in
    omega (arith, own, others)

pub sum_to_both : (f g : ℕ → ℕ) (n : ℕ) → sum_to (λ i. f i + g i) n ≡ sum_to f n + sum_to g n
sum_to_both f g zero = refl
sum_to_both f g (suc n) = let others = sum_to_both f g n in omega (arith, others)

pub sum_to_none : (f : ℕ → ℕ) (n : ℕ) → ((i : ℕ) → i < n → f i ≡ 0) → sum_to f n ≡ 0
sum_to_none f zero h = refl
sum_to_none f (suc n) h =
    let own = h n (omega arith) in
    let others = sum_to_none f n (λ i l. h i (omega (arith, l))) in
    omega (arith, own, others)

-- ---- one key more

pub pairs_push : (test : Edge → Edge → Bool) (es : List Edge) (t : Edge) → pairs_by test (es ++ t ∷ []) ≡ pairs_by test es + count_by (λ s. test s t) es
pairs_push test [] t = refl
pairs_push test (s ∷ es) t =
    let others = pairs_push test es t in
    let own = sum_by_push (λ u. cond (test s u) 1 0) es t in
    let first = sum_by-cons (λ u. cond (test u t) 1 0) s es in
    omega (arith, others, own, first)

-- where the earlier number is below the later one and the two may be paired
module _ (test : Edge → Edge → Bool) (es : List Edge) (d : Edge) (may : ℕ → ℕ → Bool) (meets : (i j : ℕ) → i < j → j < length es → may i j ≡ true → test (slice_index_or es i d) (slice_index_or es j d) ≡ true) (rising : (i j : ℕ) → j ≤ i → may i j ≡ false) where
  abbrev one : ℕ → ℕ → ℕ
  one i j = cond (may i j) 1 0

  with_last : (k : ℕ) → k < length es → (m : ℕ) → m ≤ k → sum_to (λ i. one i k) m ≤ count_by (λ s. test s (slice_index_or es k d)) (take m es)
  with_last k within zero low = omega arith
  with_last k within (suc m) low =
      let last = slice_index_or es k d in
      let before = with_last k within m (omega (arith, low)) in
      let own : one m k ≤ cond (test (slice_index_or es m d) last) 1 0 = one_if (may m k) (test (slice_index_or es m d) last) (meets m k (omega (arith, low)) within) in
      let same : suc m ≡ m + 1 = omega arith in
      let more : count_by (λ s. test s last) (take (suc m) es) ≡ count_by (λ s. test s last) (take m es) + cond (test (slice_index_or es m d) last) 1 0 =
      ap (λ n. count_by (λ s. test s last) (take n es)) same ∙ (ap (sum_by (λ s. cond (test s last) 1 0)) (take_more es m d (omega (arith, low, within))) ∙ sum_by_push (λ s. cond (test s last) 1 0) (take m es) (slice_index_or es m d)) in
      omega (arith, before, own, more)

  pairs_before : (k : ℕ) → k ≤ length es → sum_to (λ i. sum_to (one i) k) k ≤ pairs_by test (take k es)
  pairs_before zero low = omega arith
  pairs_before (suc k) low =
      let last = slice_index_or es k d in
      let before = pairs_before k (omega (arith, low)) in
      let with = with_last k (omega (arith, low)) k (omega arith) in
      let both : sum_to (λ i. sum_to (one i) (suc k)) k ≡ sum_to (λ i. sum_to (one i) k) k + sum_to (λ i. one i k) k = sum_to_both (λ i. sum_to (one i) k) (λ i. one i k) k in
      let alone = sum_to_none (one k) (suc k) (λ j l. ap (λ b. cond b 1 0) (rising k j (omega (arith, l)))) in
      let same : suc k ≡ k + 1 = omega arith in
      let more : pairs_by test (take (suc k) es) ≡ pairs_by test (take k es) + count_by (λ s. test s last) (take k es) =
      ap (λ n. pairs_by test (take n es)) same ∙ (ap (pairs_by test) (take_more es k d (omega (arith, low))) ∙ pairs_push test (take k es) last) in
      omega (arith, before, with, both, alone, more)

  pub pairs_by_number : sum_to (λ i. sum_to (one i) (length es)) (length es) ≤ pairs_by test es
  pairs_by_number = subst (λ l. sum_to (λ i. sum_to (one i) (length es)) (length es) ≤ pairs_by test l) (take_all (length es) es (omega arith)) (pairs_before (length es) (omega arith))

-- ---- all pairs

-- so many pairs n things have
abbrev pub pairs_of : ℕ → ℕ
pairs_of zero = 0
pairs_of (suc n) = n + pairs_of n

count_all : (es : List Edge) → count_by (λ t. true) es ≡ length es
count_all [] = refl
count_all (s ∷ es) = let more = sum_by-cons (λ t. cond true 1 0) s es in let others = count_all es in omega (arith, more, others)

pub all_pairs_are : (es : List Edge) → all_pairs es ≡ pairs_of (length es)
all_pairs_are [] = refl
all_pairs_are (s ∷ es) = let own = count_all es in let others = all_pairs_are es in omega (arith, own, others)

pub pairs_among_all : (test : Edge → Edge → Bool) (es : List Edge) → pairs_by test es ≤ all_pairs es
pairs_among_all test [] = omega arith
pairs_among_all test (s ∷ es) = let own = counts_among_all es in let others = pairs_among_all test es in omega (arith, own, others)
  where
    counts_among_all : (ts : List Edge) → count_by (test s) ts ≤ count_by (λ t. true) ts
    counts_among_all [] = omega arith
    counts_among_all (t ∷ ts) =
        let own = one_at_most (test s t) in
        let some = sum_by-cons (λ u. cond (test s u) 1 0) t ts in
        let all = sum_by-cons (λ u. cond true 1 0) t ts in
        let others = counts_among_all ts in
        omega (arith, own, some, all, others)

-- so many with each of the first i of n things and those that follow it
abbrev pub pairs_to : ℕ → ℕ → ℕ
pairs_to n zero = 0
pairs_to n (suc i) = pairs_to n i + (n - (i + 1))

pub pairs_to_more : (n i : ℕ) → pairs_to n i + (n - (i + 1)) ≤ pairs_to n (i + 1)
pairs_to_more n i = let more : i + 1 ≡ suc i = omega arith in let same = ap (pairs_to n) more in omega (arith, same)

pairs_left : (n i : ℕ) → i ≤ n → pairs_to n i + pairs_of (n - i) ≡ pairs_of n
pairs_left n zero l = let same : n - zero ≡ n = omega arith in let all : pairs_of (n - zero) ≡ pairs_of n = ap pairs_of same in omega (arith, all)
pairs_left n (suc i) l =
    let before = pairs_left n i (omega (arith, l)) in
    let rest : n - i ≡ suc (n - (i + 1)) = omega (arith, l) in
    let more : pairs_of (n - i) ≡ (n - (i + 1)) + pairs_of (n - (i + 1)) = ap pairs_of rest in
    let same : n - suc i ≡ n - (i + 1) = omega arith in
    let last : pairs_of (n - suc i) ≡ pairs_of (n - (i + 1)) = ap pairs_of same in
    omega (arith, before, more, last)

pub pairs_to_all : (es : List Edge) (n : ℕ) → length es ≡ n → (i : ℕ) → i ≤ n → pairs_to n i ≤ all_pairs es
pairs_to_all es n long i l =
    let all = all_pairs_are es in
    let left = pairs_left n i l in
    let same = ap pairs_of long in
    omega (arith, all, left, same)

-- where each pair of the keys that passes one test passes another
module _ (P : Edge → Type 0) (test other : Edge → Edge → Bool) (rises : (s t : Edge) → P s → P t → test s t ≡ true → other s t ≡ true) where
  counts_rise : (s : Edge) → P s → (es : List Edge) → All P es → count_by (test s) es ≤ count_by (other s) es
  counts_rise s p [] all = omega arith
  counts_rise s p (t ∷ es) all =
      let own = one_if (test s t) (other s t) (rises s t p (All-head P t es all)) in
      let one = sum_by-cons (λ u. cond (test s u) 1 0) t es in
      let two = sum_by-cons (λ u. cond (other s u) 1 0) t es in
      let rest = counts_rise s p es (All-tail P t es all) in
      omega (arith, own, one, two, rest)

  pub pairs_rise : (es : List Edge) → All P es → pairs_by test es ≤ pairs_by other es
  pairs_rise [] all = omega arith
  pairs_rise (s ∷ es) all =
      let own = counts_rise s (All-head P s es all) es (All-tail P s es all) in
      let rest = pairs_rise es (All-tail P s es all) in
      omega (arith, own, rest)
