-- A place mask and an intersect mask share a bit exactly where the intervals overlap.
use Rattle.std.proofs.Common.{◌≡◌, ℕ, zero, suc, ◌+◌, ◌^◌, ◌≤◌, ◌<◌, ◌↔◌, ◌⊎◌, inl, inr, Bool, true, false, not, ◌&&◌, nat_le, nat_lt, bit_and, max, min, refl, sym, ap, ◌∙◌, arith}
use Rattle.std.proofs.lemmas.Bool.{cases_lt, leb-true}
use Rattle.std.proofs.lemmas.Bool.Decides.{nat_tests}
use Rattle.std.specs.Int.{bit_at, w64, trailing_zeros}
use Rattle.std.proofs.lemmas.Nat.{and_le_l}
use Rattle.std.proofs.lemmas.Nat.Bits.{bit_at-zero, bit_at_and, bit_at-lt, bit_at-trailing_zeros}
use Rattle.i_tree.specs.Ranges.Masks.{first_bucket, last_bucket, parent_of, lies_in, is_met, is_placed, mask_of, place_mask, intersect_mask, ShareBit, Overlap}
use Rattle.i_tree.proofs.Ranges.Masks.{bit_of, bit_at-mask_below, mask_below_lt}
use Rattle.i_tree.proofs.Ranges.Levels.{first_bucket-parent, last_bucket-parent, first_bucket-leaf, last_bucket-leaf}

pub ShareBit-at : (m n i : ℕ) → bit_at m i ≡ 1 → bit_at n i ≡ 1 → ShareBit m n
ShareBit-at m n i p q e = absurd (let one : bit_at (bit_and m n) i ≡ 1 = bit_at_and m n i ∙ rw (p, q) refl in let none : bit_at (bit_and m n) i ≡ 0 = ap (λ k. bit_at k i) e ∙ bit_at-zero i in omega arith)

-- the lowest bit of both masks
pub bits_at_lowest : (m n : ℕ) → bit_and m n < 2 ^ 64 → ShareBit m n → (bit_at m (trailing_zeros w64 (bit_and m n)) ≡ 1) × (bit_at n (trailing_zeros w64 (bit_and m n)) ≡ 1)
bits_at_lowest m n small share =
    let lowest = bit_at-trailing_zeros w64 (bit_and m n) (omega (arith, share)) small in
    let both : min (bit_at m (trailing_zeros w64 (bit_and m n))) (bit_at n (trailing_zeros w64 (bit_and m n))) ≡ 1 = sym (bit_at_and m n _) ∙ lowest.1 in
    (omega (arith, both, bit_at-lt m (trailing_zeros w64 (bit_and m n))), omega (arith, both, bit_at-lt n (trailing_zeros w64 (bit_and m n))))

is_true_from_bit : (b : Bool) → bit_of b ≡ 1 → b ≡ true
is_true_from_bit true e = refl
is_true_from_bit false e = absurd (omega arith)

pub both_true : (a b : Bool) → (a && b) ≡ true → (a ≡ true) × (b ≡ true)
both_true true true e = (refl, refl)
both_true true false e = cc
both_true false b e = cc

-- a bit of a mask is a node that passes the test
pub test_from_bit : (test : ℕ → Bool) (i : ℕ) → bit_at (mask_of test) i ≡ 1 → (nat_lt i 63 ≡ true) × (test i ≡ true)
test_from_bit test i e = both_true _ _ (is_true_from_bit (nat_lt i 63 && test i) (sym (bit_at-mask_below test 63 i) ∙ e))

pub bit_from_test : (test : ℕ → Bool) (i : ℕ) → i < 63 → test i ≡ true → bit_at (mask_of test) i ≡ 1
bit_from_test test i h e = bit_at-mask_below test 63 i ∙ let inside : nat_lt i 63 ≡ true = grind (arith, nat_tests) in rw (inside, e) refl

-- a node that is placed in one interval and meets the other
overlap_at_node : (first last low high i : ℕ) → is_placed first last i ≡ true → is_met low high i ≡ true → Overlap first last low high
unfolding is_placed lies_in is_met
overlap_at_node first last low high i p q =
    let lies = both_true (nat_le first (first_bucket i) && nat_le (last_bucket i) last) _ p in
    let ends = both_true (nat_le first (first_bucket i)) _ lies.0 in
    let meets = both_true (nat_le (first_bucket i) high) _ q in
    (omega (arith, leb-true _ _ ends.0, leb-true _ _ meets.0), omega (arith, leb-true _ _ ends.1, leb-true _ _ meets.1))

-- a placed node that holds a bucket
pub record Holds (first last bucket node : ℕ) : Type 0 where
  pub within : node < 63
  pub placed : is_placed first last node ≡ true
  pub begins : first_bucket node ≤ bucket
  pub ends : bucket ≤ last_bucket node

module _ (first last bucket : ℕ) where
  lies : (i : ℕ) → Bool
  lies i = lies_in first last i

  placed_top : (i : ℕ) → i ≡ 0 → lies_in first last i ≡ true → is_placed first last i ≡ true
  unfolding is_placed
  placed_top i e h = rw (h, e) refl

  placed_inner : (i : ℕ) → lies_in first last i ≡ true → lies_in first last (parent_of i) ≡ false → is_placed first last i ≡ true
  unfolding is_placed
  placed_inner i h k = rw (h, k) (by (nat_lt 0 i)) where
    by : (b : Bool) → not (b && false) ≡ true
    by true = refl
    by false = refl

  climb : (fuel i : ℕ) → i ≤ fuel → i < 63 → lies_in first last i ≡ true → first_bucket i ≤ bucket → bucket ≤ last_bucket i → (node : ℕ) × Holds first last bucket node
  climb zero i a within h b e = (i, record { within = within; placed = placed_top i (omega arith) h; begins = b; ends = e })
  climb (suc fuel) i a within h b e = by (cases_lt 0 i) (lies_in first last (parent_of i)) refl (climb fuel (parent_of i)) where
    by : (0 < i) ⊎ (i ≤ 0) → (up : Bool) → lies_in first last (parent_of i) ≡ up
        → (parent_of i ≤ fuel → parent_of i < 63 → lies_in first last (parent_of i) ≡ true → first_bucket (parent_of i) ≤ bucket → bucket ≤ last_bucket (parent_of i) → (node : ℕ) × Holds first last bucket node)
        → (node : ℕ) × Holds first last bucket node
    by (inr o) up k rest = (i, record { within = within; placed = placed_top i (omega arith) h; begins = b; ends = e })
    by (inl o) true k rest = rest (omega arith) (omega arith) k (omega (arith, first_bucket-parent i within)) (omega (arith, last_bucket-parent i within))
    by (inl o) false k rest = (i, record { within = within; placed = placed_inner i h k; begins = b; ends = e })

  pub node_of_bucket : first ≤ bucket → bucket ≤ last → bucket < 32 → (node : ℕ) × Holds first last bucket node
  unfolding lies_in
  node_of_bucket a b h = climb 63 (31 + bucket) (omega arith) (omega arith) leaf (omega (arith, first_bucket-leaf bucket h)) (omega (arith, last_bucket-leaf bucket h)) where
    leaf : lies_in first last (31 + bucket) ≡ true
    leaf = rw (first_bucket-leaf bucket h, last_bucket-leaf bucket h) (let p : nat_le first bucket ≡ true = grind (arith, nat_tests) in let q : nat_le bucket last ≡ true = grind (arith, nat_tests) in rw (p, q) refl)

met_at_bucket : (low high i bucket : ℕ) → low ≤ bucket → bucket ≤ high → first_bucket i ≤ bucket → bucket ≤ last_bucket i → is_met low high i ≡ true
unfolding is_met
met_at_bucket low high i bucket a b c d = let p : nat_le (first_bucket i) high ≡ true = grind (arith, nat_tests) in let q : nat_le low (last_bucket i) ≡ true = grind (arith, nat_tests) in rw (p, q) refl

-- the law
pub share_iff_overlap : (first last low high : ℕ) → first ≤ last → last < 32 → low ≤ high → high < 32 → ShareBit (place_mask first last) (intersect_mask low high) ↔ Overlap first last low high
share_iff_overlap first last low high a b c d = (there, back) where
  there : ShareBit (place_mask first last) (intersect_mask low high) → Overlap first last low high
  there share = let small = mask_below_lt (is_placed first last) 63 in let bits = bits_at_lowest (place_mask first last) (intersect_mask low high) (omega (arith, small, and_le_l (place_mask first last) (intersect_mask low high))) share in
      overlap_at_node first last low high _ (test_from_bit _ _ bits.0).1 (test_from_bit _ _ bits.1).1

  back : Overlap first last low high → ShareBit (place_mask first last) (intersect_mask low high)
  back o =
      let found = node_of_bucket first last (max first low) (omega arith) (omega (arith, o.1)) (omega arith) in
      let holds = found.1 in
      ShareBit-at _ _ found.0 (bit_from_test (is_placed first last) found.0 holds.within holds.placed)
      (bit_from_test (is_met low high) found.0 holds.within (met_at_bucket low high found.0 (max first low) (omega arith) (omega (arith, o.0)) holds.begins holds.ends))

-- the least node of no node is past them all
pub least_node-none : (m : ℕ) → m ≡ 0 → trailing_zeros w64 m ≡ 64
unfolding lib.Count.count_trailing_zeros
least_node-none m e = rw e refl

-- an interval's place has its own least node
pub least_node_of : (first last : ℕ) → first ≤ last → last < 32 → bit_at (place_mask first last) (trailing_zeros w64 (place_mask first last)) ≡ 1
least_node_of first last a b =
    let found = node_of_bucket first last first (omega arith) a (omega arith) in
    let bit = bit_from_test (is_placed first last) found.0 found.1.within found.1.placed in
    let some : 0 < place_mask first last = positive (place_mask first last) found.0 bit in
    (bit_at-trailing_zeros w64 (place_mask first last) some (omega (arith, mask_below_lt (is_placed first last) 63))).1 where
      positive : (m i : ℕ) → bit_at m i ≡ 1 → 0 < m
      positive m i e = elim (cases_lt 0 m) [ inl h ↦ h | inr h ↦ absurd (let none : m ≡ 0 = omega arith in let z : bit_at m i ≡ 0 = ap (λ k. bit_at k i) none ∙ bit_at-zero i in omega arith) ]
