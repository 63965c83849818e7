-- The loops over the levels: a mask that is right for the levels that are done.
use Rattle.std.proofs.Common.{◌≡◌, ℕ, ◌+◌, ◌-◌, ◌*◌, ◌/◌, ◌%◌, ◌≤◌, ◌<◌, ◌⊎◌, inl, inr, Bool, true, false, not, ◌&&◌, ◌||◌, ◌==◌, nat_le, nat_lt, bit_or, refl, sym, ap, ◌∙◌, arith}
use Rattle.std.proofs.lemmas.Bool.{cases_lt}
use Rattle.std.proofs.Math.Bool.{and-true}
use Rattle.std.proofs.lemmas.Bool.Decides.{nat_tests}
use Rattle.std.specs.Int.{bit_at}
use Rattle.std.proofs.lemmas.Nat.Bits.{bit_at-zero}
use Rattle.i_tree.specs.Ranges.Masks.{lies_in, is_met, is_placed, is_end, mask_of}
use Rattle.i_tree.proofs.Ranges.Masks.{bit_of, mask_from_bits, bits_together}
use Rattle.i_tree.proofs.Ranges.Levels.{BeginsFrom, EndsBefore, BeginsUntil, EndsFrom, BeginsFrom-half, EndsBefore-half}

-- the mask has the nodes that pass the test, of the levels below this one
pub record IsDone (test : ℕ → Bool) (level mask : ℕ) : Type 0 where
  pub at : (i : ℕ) → bit_at mask i ≡ bit_of (nat_lt i 63 && (nat_le (2 * level) (i + 1) && test i))

pub IsDone-none : (test : ℕ → Bool) → IsDone test 32 0
IsDone-none test = record { at = λ i. bit_at-zero i ∙ by i (test i) } where
  by : (i : ℕ) (t : Bool) → 0 ≡ bit_of (nat_lt i 63 && (nat_le 64 (i + 1) && t))
  by i t = let no : (nat_lt i 63 && (nat_le 64 (i + 1) && t)) ≡ false = grind (arith, nat_tests) in rw no refl

pub IsDone-all : (test : ℕ → Bool) (mask : ℕ) → IsDone test 0 mask → mask ≡ mask_of test
IsDone-all test mask all = mask_from_bits mask 63 test (λ i. all.at i ∙ by i) where
  by : (i : ℕ) → bit_of (nat_lt i 63 && (nat_le 0 (i + 1) && test i)) ≡ bit_of (nat_lt i 63 && test i)
  by i = let yes : nat_le 0 (i + 1) ≡ true = grind (arith, nat_tests) in rw yes refl

-- the level's nodes that pass the test are those that pass another
pub record IsHere (test : ℕ → Bool) (level : ℕ) (here : ℕ → Bool) : Type 0 where
  pub at : (i : ℕ) → here i ≡ ((nat_le level (i + 1) && nat_lt (i + 1) (2 * level)) && test i)

more_bits : (level i : ℕ) (t : Bool) → level ≤ 32 → 0 < level → (2 * (level / 2) ≡ level) ⊎ (level ≡ 1)
    → ((nat_lt i 63 && (nat_le (2 * level) (i + 1) && t)) || ((nat_le level (i + 1) && nat_lt (i + 1) (2 * level)) && t)) ≡ (nat_lt i 63 && (nat_le (2 * (level / 2)) (i + 1) && t))
more_bits level i true h k (inl e) = grind (arith, nat_tests)
more_bits level i true h k (inr e) = let none : level / 2 ≡ 0 = omega arith in grind (arith, nat_tests)
more_bits level i false h k o = grind (arith, nat_tests)

pub IsDone-more : (test here : ℕ → Bool) (level mask new : ℕ) → level ≤ 32 → 0 < level → (2 * (level / 2) ≡ level) ⊎ (level ≡ 1) → IsHere test level here → ((i : ℕ) → bit_at new i ≡ bit_of (here i)) → IsDone test level mask → IsDone test (level / 2) (bit_or mask new)
IsDone-more test here level mask new h k even is bits done = record {
  at = λ i.
      bits_together mask new i _ _ (done.at i) (bits i ∙ ap bit_of (is.at i)) ∙ ap bit_of (more_bits level i (test i) h k even);
}

-- where none of the level's nodes passes
pub IsDone-skip : (test here : ℕ → Bool) (level mask : ℕ) → level ≤ 32 → 0 < level → (2 * (level / 2) ≡ level) ⊎ (level ≡ 1) → IsHere test level here → ((i : ℕ) → here i ≡ false) → IsDone test level mask → IsDone test (level / 2) mask
IsDone-skip test here level mask h k even is none done = record { at = λ i. done.at i ∙ ap bit_of (or_none _ _ (sym (is.at i) ∙ none i) ∙ more_bits level i (test i) h k even) } where
  or_none : (a b : Bool) → b ≡ false → a ≡ (a || b)
  or_none true b e = refl
  or_none false b e = sym e

pub bits_some_ends : (left right new : ℕ) → left < right → ((i : ℕ) → bit_at new i ≡ bit_of (is_end left right i)) → (i : ℕ) → bit_at new i ≡ bit_of (nat_lt left right && is_end left right i)
bits_some_ends left right new h bits i = let yes : nat_lt left right ≡ true = grind (arith, nat_tests) in rw yes (bits i)

pub no_ends : (left right : ℕ) → right ≤ left → (i : ℕ) → (nat_lt left right && is_end left right i) ≡ false
no_ends left right h i = let no : nat_lt left right ≡ false = grind (arith, nat_tests) in rw no refl

-- the ends of a level's nodes that lie in the interval are the level's placed nodes
test_inner : (level left right n : ℕ) → level ≤ n + 1 → n + 1 < 2 * level → 0 < n
    → (nat_lt left right && ((n + 1 == left && left % 2 == 1) || (n + 2 == right && right % 2 == 1))) ≡ ((nat_le left (n + 1) && nat_lt (n + 1) right) && not (true && (nat_le ((left + 1) / 2) ((n - 1) / 2 + 1) && nat_lt ((n - 1) / 2 + 1) (right / 2))))
test_inner level left right n a b c = grind (arith, nat_tests)

test_root : (left right : ℕ) → 1 ≤ left → right ≤ 2 → (nat_lt left right && ((0 + 1 == left && left % 2 == 1) || (0 + 2 == right && right % 2 == 1))) ≡ (nat_le left (0 + 1) && nat_lt (0 + 1) right)
test_root left right a b = grind (arith, nat_tests)

test_outside : (level left right n : ℕ) (t : Bool) → level ≤ left → right ≤ 2 * level → (n + 1 < level) ⊎ (2 * level ≤ n + 1)
    → (nat_lt left right && ((n + 1 == left && left % 2 == 1) || (n + 2 == right && right % 2 == 1))) ≡ ((nat_le level (n + 1) && nat_lt (n + 1) (2 * level)) && t)
test_outside level left right n t a b (inl o) =
    let no : (nat_le level (n + 1) && nat_lt (n + 1) (2 * level)) ≡ false = grind (arith, nat_tests) in
    let none : (nat_lt left right && ((n + 1 == left && left % 2 == 1) || (n + 2 == right && right % 2 == 1))) ≡ false = grind (arith, nat_tests) in
    rw (no, none) refl
test_outside level left right n t a b (inr o) =
    let no : (nat_le level (n + 1) && nat_lt (n + 1) (2 * level)) ≡ false = grind (arith, nat_tests) in
    let none : (nat_lt left right && ((n + 1 == left && left % 2 == 1) || (n + 2 == right && right % 2 == 1))) ≡ false = grind (arith, nat_tests) in
    rw (no, none) refl

-- where a number stands to a level's nodes
abbrev Stands : ℕ → ℕ → Type 0
Stands level n = ((level ≤ n + 1) × (n + 1 < 2 * level)) ⊎ ((n + 1 < level) ⊎ (2 * level ≤ n + 1))

stands : (level n : ℕ) → Stands level n
stands level n = elim (cases_lt (n + 1) level) [ inl a ↦ inr (inl a) | inr a ↦ elim (cases_lt (n + 1) (2 * level)) [ inl b ↦ inl (a, b) | inr b ↦ inr (inr b) ] ]

module _ (first last level left right : ℕ) (small : level ≤ 32) (some : 0 < level) (even : (2 * (level / 2) ≡ level) ⊎ (level ≡ 1)) (positive : 0 < left) (starts : level ≤ left) (stops : right ≤ 2 * level) (begins : BeginsFrom first level left) (ends : EndsBefore last level right) where
  -- the level's placed nodes are the ends of those that lie in the interval
  pub placed_here : IsHere (is_placed first last) level (λ i. nat_lt left right && is_end left right i)
  unfolding is_end is_placed lies_in
  placed_here = record { at = λ i. by i (stands level i) } where
    below_root : (i : ℕ) → level ≤ i + 1 → i + 1 < 2 * level → (nat_lt left right && ((i + 1 == left && left % 2 == 1) || (i + 2 == right && right % 2 == 1))) ≡ (is_placed first last i)
    below_root i a b = elim (cases_lt 0 i) [ inl h ↦ inner i a b h | inr h ↦ root i a b h ] where
      root : (i : ℕ) → level ≤ i + 1 → i + 1 < 2 * level → i ≤ 0 → (nat_lt left right && ((i + 1 == left && left % 2 == 1) || (i + 2 == right && right % 2 == 1))) ≡ is_placed first last i
      root i a b h =
          let top : i ≡ 0 = omega arith in
          rw top (rw (begins.at 0 (omega arith) (omega arith), ends.at 0 (omega arith) (omega arith), and-true) (test_root left right (omega arith) (omega arith)))

      inner : (i : ℕ) → level ≤ i + 1 → i + 1 < 2 * level → 0 < i → (nat_lt left right && ((i + 1 == left && left % 2 == 1) || (i + 2 == right && right % 2 == 1))) ≡ is_placed first last i
      inner i a b h =
          let two : 2 * (level / 2) ≡ level = elim even [ inl e ↦ e | inr e ↦ absurd (omega arith) ] in
          let child : nat_lt 0 i ≡ true = grind (arith, nat_tests) in
          rw (
            begins.at i a b,
            ends.at i a b,
            child,
            (BeginsFrom-half first level small even left begins).at ((i - 1) / 2) (omega arith) (omega arith),
            (EndsBefore-half last level small even right ends).at ((i - 1) / 2) (omega arith) (omega arith),
          )
          (test_inner level left right i a b h)

    by : (i : ℕ) → Stands level i → (nat_lt left right && ((i + 1 == left && left % 2 == 1) || (i + 2 == right && right % 2 == 1))) ≡ ((nat_le level (i + 1) && nat_lt (i + 1) (2 * level)) && is_placed first last i)
    by i (inr o) = test_outside level left right i (is_placed first last i) starts stops o
    by i (inl h) = let yes : (nat_le level (i + 1) && nat_lt (i + 1) (2 * level)) ≡ true = grind (arith, nat_tests) in rw yes (below_root i h.0 h.1)

module _ (first last level left right : ℕ) (some : 0 < level) (starts : level ≤ left) (stops : right < 2 * level) (begins : BeginsUntil last level right) (ends : EndsFrom first level left) where
  pub met_here : IsHere (is_met first last) level (λ i. nat_le left (i + 1) && nat_le (i + 1) right)
  unfolding is_met
  met_here = record { at = λ i. by i (stands level i) } where
    flip : (a b : Bool) → (a && b) ≡ (b && a)
    flip true true = refl
    flip true false = refl
    flip false true = refl
    flip false false = refl

    by : (i : ℕ) → Stands level i → (nat_le left (i + 1) && nat_le (i + 1) right) ≡ ((nat_le level (i + 1) && nat_lt (i + 1) (2 * level)) && is_met first last i)
    by i (inr o) =
        let no : (nat_le level (i + 1) && nat_lt (i + 1) (2 * level)) ≡ false = elim o [ inl a ↦ grind (arith, nat_tests) | inr a ↦ grind (arith, nat_tests) ] in
        let none : (nat_le left (i + 1) && nat_le (i + 1) right) ≡ false = elim o [ inl a ↦ grind (arith, nat_tests) | inr a ↦ grind (arith, nat_tests) ] in
        rw (no, none) refl
    by i (inl h) = let yes : (nat_le level (i + 1) && nat_lt (i + 1) (2 * level)) ≡ true = grind (arith, nat_tests) in rw (yes, begins.at i h.0 h.1, ends.at i h.0 h.1) (flip (nat_le left (i + 1)) (nat_le (i + 1) right))
