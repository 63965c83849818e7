-- The bits of a mask.
use Rattle.std.proofs.Common.{◌≡◌, ◌≢◌, ℕ, zero, suc, ◌+◌, ◌-◌, ◌*◌, ◌%◌, ◌^◌, ◌≤◌, ◌<◌, ◌⊎◌, inl, inr, Bool, true, false, ◌&&◌, ◌||◌, ◌==◌, nat_le, nat_lt, if◌then◌else◌, bit_or, max, refl, sym, ◌∙◌, arith}
use Rattle.std.proofs.lemmas.Bool.{cases_order, cases_lt}
use Rattle.std.proofs.lemmas.Bool.Decides.{nat_tests}
use Rattle.std.proofs.Math.Pow.{pow-lt}
use Rattle.std.specs.Int.{bit_at, w64}
use Rattle.std.proofs.lemmas.Nat.Bits.{bit_at-zero, bit_at_or, bit_at_set_same, bit_at_set_other, same_from_bits, bit_at_above, bit_at_cat_low, bit_at_cat_high, bit_at_lowest, bit_at_mask_inside, bit_at_mask_below, bit_at_mask_above}
use Rattle.i_tree.specs.Ranges.Masks.{mask_below, is_end}

-- one bit as a number
abbrev pub bit_of : Bool → ℕ
bit_of b = if b then 1 else 0

bit_of_lt : (b : Bool) → bit_of b < 2
bit_of_lt true = omega arith
bit_of_lt false = omega arith

pub mask_below_lt : (test : ℕ → Bool) (n : ℕ) → mask_below test n < 2 ^ n
unfolding mask_below
mask_below_lt test zero = omega arith
mask_below_lt test (suc n) = by (test n) (mask_below_lt test n) where
  by : (b : Bool) → mask_below test n < 2 ^ n → bit_of b * 2 ^ n + mask_below test n < 2 ^ suc n
  by true h = omega arith
  by false h = omega arith

no_bit_below_zero : (test : ℕ → Bool) (i : ℕ) → 0 ≡ bit_of (nat_lt i 0 && test i)
no_bit_below_zero test i = let no : nat_lt i 0 ≡ false = grind (arith, nat_tests) in rw no refl

pub bit_at-mask_below : (test : ℕ → Bool) (n i : ℕ) → bit_at (mask_below test n) i ≡ bit_of (nat_lt i n && test i)
unfolding mask_below
bit_at-mask_below test zero i = bit_at-zero i ∙ no_bit_below_zero test i
bit_at-mask_below test (suc n) i = by (cases_order i n) (bit_at-mask_below test n i) where
  by : (i ≡ n) ⊎ ((i < n) ⊎ (n < i)) → bit_at (mask_below test n) i ≡ bit_of (nat_lt i n && test i) → bit_at (bit_of (test n) * 2 ^ n + mask_below test n) i ≡ bit_of (nat_lt i (suc n) && test i)
  by (inl e) rest =
      let inside : nat_lt i (suc n) ≡ true = grind (arith, nat_tests) in
      let none : i - n ≡ 0 = omega arith in
      bit_at_cat_high (bit_of (test n)) n (mask_below test n) i (mask_below_lt test n) (omega arith)
      ∙ rw (none, inside, e, bit_at_lowest) (lowest (test n)) where
        lowest : (b : Bool) → bit_of b % 2 ≡ bit_of b
        lowest true = refl
        lowest false = refl
  by (inr (inl h)) rest =
      let inside : nat_lt i (suc n) ≡ true = grind (arith, nat_tests) in
      let within : nat_lt i n ≡ true = grind (arith, nat_tests) in
      bit_at_cat_low (bit_of (test n)) n (mask_below test n) i h ∙ rest ∙ rw (inside, within) refl
  by (inr (inr h)) rest =
      let outside : nat_lt i (suc n) ≡ false = grind (arith, nat_tests) in
      bit_at_cat_high (bit_of (test n)) n (mask_below test n) i (mask_below_lt test n) (omega arith)
      ∙ bit_at_above (bit_of (test n)) 1 (i - n) (bit_of_lt (test n)) (omega arith) ∙ rw outside refl

-- a mask is known by its bits
pub mask_from_bits : (m n : ℕ) (test : ℕ → Bool) → ((i : ℕ) → bit_at m i ≡ bit_of (nat_lt i n && test i)) → m ≡ mask_below test n
mask_from_bits m n test h = same_from_bits m (mask_below test n) (λ i. h i ∙ sym (bit_at-mask_below test n i))

-- what `m | 1 << k` has
pub set_bit : (m k i : ℕ) → k < 64 → bit_at (bit_or m (1 * 2 ^ k % 18446744073709551616)) i ≡ (if i == k then 1 else bit_at m i)
set_bit m k i h = by (cases_order i k) where
  by : (i ≡ k) ⊎ ((i < k) ⊎ (k < i)) → bit_at (bit_or m (1 * 2 ^ k % 18446744073709551616)) i ≡ (if i == k then 1 else bit_at m i)
  by (inl e) = let same : (i == k) ≡ true = grind (arith, nat_tests) in rw (same, e) (bit_at_set_same w64 m k h)
  by (inr o) = let other : (i == k) ≡ false = grind (arith, nat_tests) in let apart : i ≢ k = omega arith in rw other (bit_at_set_other w64 m k h i apart)

-- the bits of two masks together
pub bits_together : (m n i : ℕ) (a b : Bool) → bit_at m i ≡ bit_of a → bit_at n i ≡ bit_of b → bit_at (bit_or m n) i ≡ bit_of (a || b)
bits_together m n i a b p q = bit_at_or m n i ∙ rw (p, q) (largest a b) where
  largest : (a b : Bool) → max (bit_of a) (bit_of b) ≡ bit_of (a || b)
  largest true true = refl
  largest true false = refl
  largest false true = refl
  largest false false = refl

-- the bits that the two ends of a level's nodes set
pub bits_first_end : (left i : ℕ) → 0 < left → left ≤ 64 → left % 2 ≡ 1 → bit_at (bit_or 0 (1 * 2 ^ (left - 1) % 18446744073709551616)) i ≡ bit_of (i + 1 == left && left % 2 == 1)
bits_first_end left i h k odd = set_bit 0 (left - 1) i (omega arith) ∙ by (cases_order i (left - 1)) where
  by : (i ≡ left - 1) ⊎ ((i < left - 1) ⊎ (left - 1 < i)) → (if i == left - 1 then 1 else bit_at 0 i) ≡ bit_of (i + 1 == left && left % 2 == 1)
  by (inl e) = let here : (i == left - 1) ≡ true = grind (arith, nat_tests) in let both : (i + 1 == left && left % 2 == 1) ≡ true = grind (arith, nat_tests) in rw (here, both) refl
  by (inr o) = let there : (i == left - 1) ≡ false = grind (arith, nat_tests) in let none : (i + 1 == left && left % 2 == 1) ≡ false = grind (arith, nat_tests) in rw (there, none, bit_at-zero) refl

pub bits_no_end : (end n i : ℕ) → n % 2 ≢ 1 → bit_at 0 i ≡ bit_of (i + 1 == end && n % 2 == 1)
bits_no_end end n i h = let none : (i + 1 == end && n % 2 == 1) ≡ false = grind (arith, nat_tests) in bit_at-zero i ∙ rw none refl

pub bits_both_ends : (left right m i : ℕ) → 1 < right → right ≤ 64 → right % 2 ≡ 1 → bit_at m i ≡ bit_of (i + 1 == left && left % 2 == 1) → bit_at (bit_or m (1 * 2 ^ (right - 2) % 18446744073709551616)) i ≡ bit_of (is_end left right i)
unfolding is_end
bits_both_ends left right m i h k odd before = set_bit m (right - 2) i (omega arith) ∙ by (cases_order i (right - 2)) where
  or_true : (a : Bool) → (a || true) ≡ true
  or_true true = refl
  or_true false = refl

  or_false : (a : Bool) → (a || false) ≡ a
  or_false true = refl
  or_false false = refl

  by : (i ≡ right - 2) ⊎ ((i < right - 2) ⊎ (right - 2 < i)) → (if i == right - 2 then 1 else bit_at m i) ≡ bit_of ((i + 1 == left && left % 2 == 1) || (i + 2 == right && right % 2 == 1))
  by (inl e) = let here : (i == right - 2) ≡ true = grind (arith, nat_tests) in let last : (i + 2 == right && right % 2 == 1) ≡ true = grind (arith, nat_tests) in rw (here, last, or_true) refl
  by (inr o) = let there : (i == right - 2) ≡ false = grind (arith, nat_tests) in let none : (i + 2 == right && right % 2 == 1) ≡ false = grind (arith, nat_tests) in rw (there, none, or_false) before

pub bits_left_end : (left right m i : ℕ) → right % 2 ≢ 1 → bit_at m i ≡ bit_of (i + 1 == left && left % 2 == 1) → bit_at m i ≡ bit_of (is_end left right i)
unfolding is_end
bits_left_end left right m i h before = before ∙ let none : (i + 2 == right && right % 2 == 1) ≡ false = grind (arith, nat_tests) in rw none (by (i + 1 == left && left % 2 == 1)) where
  by : (a : Bool) → bit_of a ≡ bit_of (a || false)
  by true = refl
  by false = refl

one_shifted : (n : ℕ) → n < 64 → 1 * 2 ^ n % 18446744073709551616 ≡ 2 ^ n
one_shifted n h = let small : 2 ^ n < 2 ^ 64 = pow-lt h in omega (arith, small)

pub run_ordered : (left right : ℕ) → 0 < left → left ≤ right → right < 64 → 1 * 2 ^ (left - 1) % 18446744073709551616 ≤ 1 * 2 ^ right % 18446744073709551616
run_ordered left right h k l =
    let less : left - 1 < right = omega arith in
    let below : 2 ^ (left - 1) < 2 ^ right = pow-lt less in
    omega (arith, below, one_shifted right l, one_shifted (left - 1) (omega arith))

-- the bits of a run of nodes, counted from one
pub bits_of_run : (left right i : ℕ) → 0 < left → left ≤ right → right < 64 → bit_at (1 * 2 ^ right % 18446744073709551616 - 1 * 2 ^ (left - 1) % 18446744073709551616) i ≡ bit_of (nat_le left (i + 1) && nat_le (i + 1) right)
bits_of_run left right i h k l =
    rw (one_shifted right l, one_shifted (left - 1) (omega arith)) (by (cases_lt i (left - 1)) (cases_lt i right)) where
      by : (i < left - 1) ⊎ (left - 1 ≤ i) → (i < right) ⊎ (right ≤ i) → bit_at (2 ^ right - 2 ^ (left - 1)) i ≡ bit_of (nat_le left (i + 1) && nat_le (i + 1) right)
      by (inl a) b = let no : (nat_le left (i + 1) && nat_le (i + 1) right) ≡ false = grind (arith, nat_tests) in rw no (bit_at_mask_below (left - 1) right i a)
      by (inr a) (inl b) = let yes : (nat_le left (i + 1) && nat_le (i + 1) right) ≡ true = grind (arith, nat_tests) in rw yes (bit_at_mask_inside (left - 1) right i a b)
      by (inr a) (inr b) = let no : (nat_le left (i + 1) && nat_le (i + 1) right) ≡ false = grind (arith, nat_tests) in rw no (bit_at_mask_above (left - 1) right i b)
