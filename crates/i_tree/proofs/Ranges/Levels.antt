-- The levels of the tree of buckets: which nodes of a level lie in an interval or meet it. The nodes of a level of so
-- many are those from level to 2 * level - 1, counted from one.
use Rattle.std.proofs.Common.{◌≡◌, ℕ, zero, suc, ◌+◌, ◌-◌, ◌*◌, ◌/◌, ◌≤◌, ◌<◌, ◌⊎◌, inl, inr, Bool, true, false, not, ◌&&◌, ◌||◌, ◌==◌, nat_le, nat_lt, refl, ap, ◌∙◌, arith}
use Rattle.std.proofs.lemmas.Bool.{cases_order, eqb-true, leb-true}
use Rattle.std.proofs.lemmas.Bool.Decides.{nat_tests}
use Rattle.i_tree.specs.Ranges.Masks.{height_of, first_bucket, last_bucket, parent_of}

-- the test holds of each number below n
abbrev pub all_below : (ℕ → Bool) → ℕ → Bool
all_below test zero = true
all_below test (suc n) = test n && all_below test n

pub all_below-at : (test : ℕ → Bool) (n i : ℕ) → i < n → all_below test n ≡ true → test i ≡ true
all_below-at test zero i h e = absurd (omega arith)
all_below-at test (suc n) i h e = by (test n) refl e (all_below-at test n i) (cases_order i n) where
  by : (a : Bool) → test n ≡ a → (a && all_below test n) ≡ true → (i < n → all_below test n ≡ true → test i ≡ true) → (i ≡ n) ⊎ ((i < n) ⊎ (n < i)) → test i ≡ true
  by true p r rest (inl s) = rw s p
  by true p r rest (inr (inl l)) = rest l r
  by true p r rest (inr (inr g)) = absurd (omega arith)
  by false p r rest o = cc

-- a node and its first child begin at one bucket, a node and its second child end at one
pub first_bucket-child : (n : ℕ) → n < 31 → first_bucket (2 * n + 1) ≡ first_bucket n
unfolding height_of first_bucket
first_bucket-child n h = eqb-true _ _ (all_below-at (λ i. first_bucket (2 * i + 1) == first_bucket i) 31 n h refl)

pub last_bucket-child : (n : ℕ) → n < 31 → last_bucket (2 * n + 2) ≡ last_bucket n
unfolding height_of last_bucket
last_bucket-child n h = eqb-true _ _ (all_below-at (λ i. last_bucket (2 * i + 2) == last_bucket i) 31 n h refl)

-- a leaf is its bucket
pub first_bucket-leaf : (i : ℕ) → i < 32 → first_bucket (31 + i) ≡ i
unfolding height_of first_bucket
first_bucket-leaf i h = eqb-true _ _ (all_below-at (λ b. first_bucket (31 + b) == b) 32 i h refl)

pub last_bucket-leaf : (i : ℕ) → i < 32 → last_bucket (31 + i) ≡ i
unfolding height_of last_bucket
last_bucket-leaf i h = eqb-true _ _ (all_below-at (λ b. last_bucket (31 + b) == b) 32 i h refl)

-- a node's buckets are among its parent's
pub first_bucket-parent : (n : ℕ) → n < 63 → first_bucket (parent_of n) ≤ first_bucket n
unfolding height_of first_bucket
first_bucket-parent n h = let e = all_below-at (λ i. nat_le (first_bucket (parent_of i)) (first_bucket i)) 63 n h refl in leb-true _ _ e

pub last_bucket-parent : (n : ℕ) → n < 63 → last_bucket n ≤ last_bucket (parent_of n)
unfolding height_of last_bucket
last_bucket-parent n h = let e = all_below-at (λ i. nat_le (last_bucket i) (last_bucket (parent_of i))) 63 n h refl in leb-true _ _ e

-- how many nodes a level may have; none is left after the root's
pub is_level : ℕ → Bool
is_level n = n == 0 || n == 1 || n == 2 || n == 4 || n == 8 || n == 16 || n == 32

pub is_level-leaves : is_level 32 ≡ true
unfolding is_level
is_level-leaves = refl

pub is_level-half : (n : ℕ) → n ≤ 32 → is_level n ≡ true → is_level (n / 2) ≡ true
unfolding is_level
is_level-half n h e = let t = all_below-at (λ i. not (is_level i) || is_level (i / 2)) 33 n (omega arith) refl in rw e at t

-- a level has twice as many nodes as the next, but the root's
pub level_even : (n : ℕ) → n ≤ 32 → 1 < n → is_level n ≡ true → 2 * (n / 2) ≡ n
unfolding is_level
level_even n h k e =
    let t = all_below-at (λ i. not (is_level i && nat_lt 1 i) || (2 * (i / 2) == i)) 33 n (omega arith) refl in
    let more : nat_lt 1 n ≡ true = grind (arith, nat_tests) in
    eqb-true _ _ (rw (e, more) at t)

-- the first node of a level that begins at or after a bucket is this one, and the like
pub record BeginsFrom (bucket level from : ℕ) : Type 0 where
  pub at : (n : ℕ) → level ≤ n + 1 → n + 1 < 2 * level → nat_le bucket (first_bucket n) ≡ nat_le from (n + 1)

pub record EndsBefore (bucket level to : ℕ) : Type 0 where
  pub at : (n : ℕ) → level ≤ n + 1 → n + 1 < 2 * level → nat_le (last_bucket n) bucket ≡ nat_lt (n + 1) to

pub record BeginsUntil (bucket level to : ℕ) : Type 0 where
  pub at : (n : ℕ) → level ≤ n + 1 → n + 1 < 2 * level → nat_le (first_bucket n) bucket ≡ nat_le (n + 1) to

pub record EndsFrom (bucket level from : ℕ) : Type 0 where
  pub at : (n : ℕ) → level ≤ n + 1 → n + 1 < 2 * level → nat_le bucket (last_bucket n) ≡ nat_le from (n + 1)

leaf_begins : (n : ℕ) → 32 ≤ n + 1 → n + 1 < 64 → first_bucket n ≡ n - 31
leaf_begins n a b = let s : n ≡ 31 + (n - 31) = omega arith in ap first_bucket s ∙ first_bucket-leaf (n - 31) (omega arith)

leaf_ends : (n : ℕ) → 32 ≤ n + 1 → n + 1 < 64 → last_bucket n ≡ n - 31
leaf_ends n a b = let s : n ≡ 31 + (n - 31) = omega arith in ap last_bucket s ∙ last_bucket-leaf (n - 31) (omega arith)

from_leaf : (bucket n : ℕ) → 32 ≤ n + 1 → nat_le bucket (n - 31) ≡ nat_le (bucket + 32) (n + 1)
from_leaf bucket n a = grind (arith, nat_tests)

to_leaf : (bucket n : ℕ) → 32 ≤ n + 1 → nat_le (n - 31) bucket ≡ nat_lt (n + 1) (bucket + 33)
to_leaf bucket n a = grind (arith, nat_tests)

until_leaf : (bucket n : ℕ) → 32 ≤ n + 1 → nat_le (n - 31) bucket ≡ nat_le (n + 1) (bucket + 32)
until_leaf bucket n a = grind (arith, nat_tests)

pub BeginsFrom-leaves : (bucket : ℕ) → BeginsFrom bucket 32 (bucket + 32)
BeginsFrom-leaves bucket = record { at = λ n a b. rw (leaf_begins n a b) (from_leaf bucket n a) }

pub EndsBefore-leaves : (bucket : ℕ) → EndsBefore bucket 32 (bucket + 33)
EndsBefore-leaves bucket = record { at = λ n a b. rw (leaf_ends n a b) (to_leaf bucket n a) }

pub BeginsUntil-leaves : (bucket : ℕ) → BeginsUntil bucket 32 (bucket + 32)
BeginsUntil-leaves bucket = record { at = λ n a b. rw (leaf_begins n a b) (until_leaf bucket n a) }

pub EndsFrom-leaves : (bucket : ℕ) → EndsFrom bucket 32 (bucket + 32)
EndsFrom-leaves bucket = record { at = λ n a b. rw (leaf_ends n a b) (from_leaf bucket n a) }

half_from : (left n : ℕ) → nat_le left (2 * n + 1 + 1) ≡ nat_le ((left + 1) / 2) (n + 1)
half_from left n = grind (arith, nat_tests)

half_before : (right n : ℕ) → nat_lt (2 * n + 2 + 1) right ≡ nat_lt (n + 1) (right / 2)
half_before right n = grind (arith, nat_tests)

half_until : (right n : ℕ) → nat_le (2 * n + 1 + 1) right ≡ nat_le (n + 1) (right / 2)
half_until right n = grind (arith, nat_tests)

half_low : (left n : ℕ) → nat_le left (2 * n + 2 + 1) ≡ nat_le (left / 2) (n + 1)
half_low left n = grind (arith, nat_tests)

-- the next level, by the children of its nodes
module _ (bucket level : ℕ) (small : level ≤ 32) (even : (2 * (level / 2) ≡ level) ⊎ (level ≡ 1)) where
  -- a node of the next level has its children in this one
  half_level : (n : ℕ) → level / 2 ≤ n + 1 → n + 1 < 2 * (level / 2) → (level ≤ 2 * n + 2) × ((2 * n + 3 < 2 * level) × (n < 31))
  half_level n a b = elim even [ inl e ↦ (omega arith, (omega arith, omega arith)) | inr e ↦ absurd (let none : level / 2 ≡ 0 = omega arith in omega arith) ]

  pub BeginsFrom-half : (from : ℕ) → BeginsFrom bucket level from → BeginsFrom bucket (level / 2) ((from + 1) / 2)
  BeginsFrom-half from here = record {
    at = λ n a b. let h = half_level n a b in
        rw (← first_bucket-child n h.1.1) (here.at (2 * n + 1) (omega (arith, h.0)) (omega (arith, h.1.0)) ∙ half_from from n);
  }

  pub EndsBefore-half : (to : ℕ) → EndsBefore bucket level to → EndsBefore bucket (level / 2) (to / 2)
  EndsBefore-half to here = record {
    at = λ n a b. let h = half_level n a b in
        rw (← last_bucket-child n h.1.1) (here.at (2 * n + 2) (omega (arith, h.0)) (omega (arith, h.1.0)) ∙ half_before to n);
  }

  pub BeginsUntil-half : (to : ℕ) → BeginsUntil bucket level to → BeginsUntil bucket (level / 2) (to / 2)
  BeginsUntil-half to here = record {
    at = λ n a b. let h = half_level n a b in
        rw (← first_bucket-child n h.1.1) (here.at (2 * n + 1) (omega (arith, h.0)) (omega (arith, h.1.0)) ∙ half_until to n);
  }

  pub EndsFrom-half : (from : ℕ) → EndsFrom bucket level from → EndsFrom bucket (level / 2) (from / 2)
  EndsFrom-half from here = record {
    at = λ n a b. let h = half_level n a b in
        rw (← last_bucket-child n h.1.1) (here.at (2 * n + 2) (omega (arith, h.0)) (omega (arith, h.1.0)) ∙ half_low from n);
  }

pub level_parity : (n : ℕ) → n ≤ 32 → 0 < n → is_level n ≡ true → (2 * (n / 2) ≡ n) ⊎ (n ≡ 1)
level_parity n h k e = elim (cases_order n 1) [ inl s ↦ inr s | inr o ↦ inl (level_even n h (elim o [ inl a ↦ absurd (omega arith) | inr b ↦ b ]) e) ]
