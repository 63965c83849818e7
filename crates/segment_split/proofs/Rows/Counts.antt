-- How many pairs are looked at in rows.
use Rattle.std.specs.Prelude.{◌≡◌, ◌&&◌, ℕ, ◌+◌, ◌<◌, ◌≤◌, cond, nat_lt, List, length, take, slice_index_or}
use Rattle.std.proofs.Common.{◌∙◌, ap₂, arith}
use Rattle.std.proofs.lemmas.Bool.{lt-ltb}
use Rattle.std.proofs.lemmas.List.Sums.{count_by_more_yes, sum_by_more, sum_by-take-le}
use Rattle.i_tree.specs.Steps.{Counts}
use Rattle.segment_split.specs.Rows.{CountsPairsUpTo, between, followers, all_followers}

pub up_to_ticked : (first now next : Counts) (n m : ℕ) → n + 1 ≤ m → CountsPairsUpTo first now n → next.comparisons ≡ now.comparisons → next.pairs ≡ now.pairs + 1 → CountsPairsUpTo first next m
up_to_ticked first now next n m room h level more = record {
  comparisons = level ∙ h.comparisons;
  pairs = omega (arith, h.pairs, more);
  bound = omega (arith, h.bound, more, room);
}

pub up_to_more : (first now next : Counts) (n m most : ℕ) → n + m ≤ most → CountsPairsUpTo first now n → CountsPairsUpTo now next m → CountsPairsUpTo first next most
up_to_more first now next n m most room h k = record {
  comparisons = k.comparisons ∙ h.comparisons;
  pairs = omega (arith, h.pairs, k.pairs);
  bound = omega (arith, h.bound, k.bound, room);
}

pub up_to_greater : (first now : Counts) (n m : ℕ) → n ≤ m → CountsPairsUpTo first now n → CountsPairsUpTo first now m
up_to_greater first now n m room h = record { comparisons = h.comparisons; pairs = h.pairs; bound = omega (arith, h.bound, room) }

-- one place more between two
pub next_between : (to : List ℕ) (p q k : ℕ) → k < length to → p < slice_index_or to k 0 → slice_index_or to k 0 < q → between (take k to) p q + 1 ≤ between (take (k + 1) to) p q
next_between to p q k within after before =
    let more = count_by_more_yes (λ w. nat_lt p w && nat_lt w q) to k 0 within (ap₂ (λ a b. a && b) (lt-ltb p (slice_index_or to k 0) after) (lt-ltb (slice_index_or to k 0) q before)) in
    omega (arith, more)

pub all_between : (to : List ℕ) (p q k : ℕ) → between (take k to) p q ≤ between to p q
all_between to p q k = sum_by-take-le (λ w. cond (nat_lt p w && nat_lt w q) 1 0) to k

pub next_followers : (reaches from to : List ℕ) (k : ℕ) → k < length from → all_followers reaches (take k from) to + followers reaches to (slice_index_or from k 0) ≤ all_followers reaches (take (k + 1) from) to
next_followers reaches from to k within = let more = sum_by_more (followers reaches to) from k 0 within in omega (arith, more)

pub up_to_followers : (reaches from to : List ℕ) (k : ℕ) → all_followers reaches (take k from) to ≤ all_followers reaches from to
up_to_followers reaches from to k = sum_by-take-le (followers reaches to) from k

pub through_more : (n m k : ℕ) → n + 1 ≤ m → m ≤ k → n + 1 ≤ k
through_more n m k h l = omega (arith, h, l)

pub through_sum : (n a m k : ℕ) → n + a ≤ m → m ≤ k → n + a ≤ k
through_sum n a m k h l = omega (arith, h, l)
