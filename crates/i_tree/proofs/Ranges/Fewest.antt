-- No fewer nodes make up an interval than those of its place mask.
--
-- Each node of the mask holds some node of another set that makes the interval up, and no node lies in two of the
-- mask's. So the other set has at least as many.
use Rattle.std.proofs.Common.{◌≡◌, ◌≢◌, ℕ, zero, suc, ◌≤◌, ◌<◌, ◌⊎◌, inl, inr, Bool, true, false, not, ◌&&◌, ◌||◌, ◌==◌, nat_le, nat_lt, refl, sym, ap, ◌∙◌, arith}
use Rattle.std.proofs.lemmas.Bool.{leb-true, ltb-true, eqb-true}
use Rattle.std.proofs.lemmas.Bool.Decides.{nat_tests}
use Rattle.std.specs.Prelude.{count_ones}
use Rattle.std.specs.Int.{bit_at}
use Rattle.std.proofs.lemmas.Nat.{ones_cat}
use Rattle.std.proofs.lemmas.Nat.Bits.{bit_at-lt}
use Rattle.i_tree.specs.Ranges.Masks.{height_of, first_bucket, last_bucket, parent_of, lies_in, is_placed, mask_below, mask_of, place_mask}
use Rattle.i_tree.specs.Ranges.FewestNodes.{MakesUp, IsFewest}
use Rattle.i_tree.proofs.Ranges.Masks.{bit_of, mask_below_lt, mask_from_bits}
use Rattle.i_tree.proofs.Ranges.Levels.{all_below, all_below-at}
use Rattle.i_tree.proofs.Ranges.Shares.{test_from_bit, bit_from_test, node_of_bucket}
use Rattle.i_tree.proofs.Ranges.Tallies.{tally, tally_le, tally-nothing, tally-swap, tally-part, tally_one}

-- whether all buckets of a node are the other's
pub is_within : ℕ → ℕ → Bool
is_within outer node = nat_le (first_bucket outer) (first_bucket node) && nat_le (last_bucket node) (last_bucket outer)

-- whether two nodes have a bucket in common
pub meets : ℕ → ℕ → Bool
meets a b = nat_le (first_bucket a) (last_bucket b) && nat_le (first_bucket b) (last_bucket a)

-- of two nodes with a common bucket one is within the other
pub within_either : (a b : ℕ) → a < 63 → b < 63 → meets a b ≡ true → (is_within a b || is_within b a) ≡ true
unfolding is_within meets height_of first_bucket last_bucket
within_either a b h k e =
    let row = all_below-at (λ i. all_below (λ j. not (meets i j) || (is_within i j || is_within j i)) 63) 63 a h refl in
    rw e at (all_below-at (λ j. not (meets a j) || (is_within a j || is_within j a)) 63 b k row)

-- and a node within another one lies below it: so does its parent
pub parent_within : (outer node : ℕ) → outer < 63 → node < 63 → is_within outer node ≡ true → node ≢ outer → (nat_lt 0 node && is_within outer (parent_of node)) ≡ true
unfolding is_within height_of first_bucket last_bucket
parent_within outer node h k e apart =
    let row = all_below-at (λ i. all_below (λ j. (not (is_within i j) || (j == i)) || (nat_lt 0 j && is_within i (parent_of j))) 63) 63 outer h refl in
    let other : (node == outer) ≡ false = grind (arith, nat_tests) in
    rw (e, other) at (all_below-at (λ j. (not (is_within outer j) || (j == outer)) || (nat_lt 0 j && is_within outer (parent_of j))) 63 node k row)

-- a node has a bucket
pub node_some : (node : ℕ) → node < 63 → first_bucket node ≤ last_bucket node
unfolding height_of first_bucket last_bucket
node_some node h = leb-true _ _ (all_below-at (λ i. nat_le (first_bucket i) (last_bucket i)) 63 node h refl)

both : (a b : Bool) → (a && b) ≡ true → (a ≡ true) × (b ≡ true)
both true true e = (refl, refl)
both true false e = cc
both false b e = cc

either : (a b : Bool) → (a || b) ≡ true → (a ≡ true) ⊎ (b ≡ true)
either true b e = inl refl
either false b e = inr e

module _ (first last : ℕ) where
  lies_ends : (node : ℕ) → lies_in first last node ≡ true → (first ≤ first_bucket node) × (last_bucket node ≤ last)
  unfolding lies_in
  lies_ends node e = let t = both (nat_le first (first_bucket node)) _ e in (leb-true _ _ t.0, leb-true _ _ t.1)

  within_ends : (outer node : ℕ) → is_within outer node ≡ true → (first_bucket outer ≤ first_bucket node) × (last_bucket node ≤ last_bucket outer)
  unfolding is_within
  within_ends outer node e = let t = both (nat_le (first_bucket outer) (first_bucket node)) _ e in (leb-true _ _ t.0, leb-true _ _ t.1)

  is_within_from : (outer node : ℕ) → first_bucket outer ≤ first_bucket node → last_bucket node ≤ last_bucket outer → is_within outer node ≡ true
  unfolding is_within
  is_within_from outer node a b = grind (arith, nat_tests)

  meets_from : (a b : ℕ) → first_bucket a ≤ last_bucket b → first_bucket b ≤ last_bucket a → meets a b ≡ true
  unfolding meets
  meets_from a b h k = grind (arith, nat_tests)

  lies_from : (node : ℕ) → first ≤ first_bucket node → last_bucket node ≤ last → lies_in first last node ≡ true
  unfolding lies_in
  lies_from node a b = grind (arith, nat_tests)

  lies_within : (outer node : ℕ) → lies_in first last outer ≡ true → is_within outer node ≡ true → lies_in first last node ≡ true
  lies_within outer node l w = let a = lies_ends outer l in let b = within_ends outer node w in lies_from node (omega (arith, a.0, b.0)) (omega (arith, a.1, b.1))

  placed_lies : (node : ℕ) → is_placed first last node ≡ true → lies_in first last node ≡ true
  unfolding is_placed
  placed_lies node e = (both (lies_in first last node) _ e).0

  placed_alone : (node : ℕ) → is_placed first last node ≡ true → (nat_lt 0 node && lies_in first last (parent_of node)) ≡ false
  unfolding is_placed
  placed_alone node e = turn _ (both (lies_in first last node) _ e).1 where
    turn : (b : Bool) → not b ≡ true → b ≡ false
    turn true f = cc
    turn false f = refl

  -- a placed node is within no other node that lies in the interval
  outermost : (outer node : ℕ) → outer < 63 → node < 63 → lies_in first last outer ≡ true → is_placed first last node ≡ true → is_within outer node ≡ true → node ≡ outer
  outermost outer node h k l p w = by (node == outer) refl where
    by : (b : Bool) → (node == outer) ≡ b → node ≡ outer
    by true e = eqb-true _ _ e
    by false e =
        let apart : node ≢ outer = λ same. grind (arith, nat_tests) in
        let up = both (nat_lt 0 node) _ (parent_within outer node h k w apart) in
        let there : lies_in first last (parent_of node) ≡ true = lies_within outer (parent_of node) l up.1 in
        absurd (let alone : (true && true) ≡ false = rw (up.0, there) at (placed_alone node p) in cc)

  -- two placed nodes that hold one node are one
  one_placed : (a b node : ℕ) → a < 63 → b < 63 → node < 63 → is_placed first last a ≡ true → is_placed first last b ≡ true → is_within a node ≡ true → is_within b node ≡ true → a ≡ b
  one_placed a b node h k l p q v w =
      let some = node_some node l in
      let in_a = within_ends a node v in
      let in_b = within_ends b node w in
      elim (either _ _ (within_either a b h k (meets_from a b (omega (arith, some, in_a.0, in_b.1)) (omega (arith, some, in_b.0, in_a.1))))) [
        | inl e ↦ sym (outermost a b h k (placed_lies a p) q e)
        | inr e ↦ outermost b a k h (placed_lies b q) p e
      ]

  module _ (other : ℕ) (makes : MakesUp first last other) where
    -- a placed node holds one of the other nodes
    pub node_within : (node : ℕ) → node < 63 → is_placed first last node ≡ true → (inner : ℕ) × (inner < 63) × (bit_at other inner ≡ 1) × (is_within node inner ≡ true)
    node_within node h p =
        let ends = lies_ends node (placed_lies node p) in
        let some = node_some node h in
        let found = makes.whole (first_bucket node) ends.0 (omega (arith, ends.1, some)) in
        let inside = makes.inside found.0 found.1 in
        elim (either _ _ (within_either node found.0 h inside.0 (meets_from node found.0 (omega (arith, found.3)) (omega (arith, found.2, some))))) [
          | inl e ↦ (found.0, inside.0, found.1, e)
          | inr e ↦ let same = outermost found.0 node inside.0 h inside.1 p e in
              (found.0, inside.0, found.1, rw (← same) (is_within_from node node (omega arith) (omega arith)))
        ]

    other_is : other ≡ mask_of (λ i. bit_at other i == 1)
    other_is = mask_from_bits other 63 (λ i. bit_at other i == 1) (λ i. by i (bit_at other i) refl (bit_at-lt other i)) where
      by : (i b : ℕ) → bit_at other i ≡ b → b < 2 → b ≡ bit_of (nat_lt i 63 && (b == 1))
      by i zero e h = none (nat_lt i 63) where
        none : (c : Bool) → 0 ≡ bit_of (c && false)
        none true = refl
        none false = refl
      by i (suc b) e h =
          let one : suc b ≡ 1 = omega arith in
          let inside : nat_lt i 63 ≡ true = let within = (makes.inside i (e ∙ one)).0 in grind (arith, nat_tests) in
          rw (one, inside) refl

    -- the pairs of a placed node and one of the other nodes within it
    abbrev holds : ℕ → ℕ → Bool
    holds i j = is_placed first last i && ((bit_at other j == 1) && is_within i j)

    each_holds_one : (i : ℕ) → i < 63 → bit_of (is_placed first last i) ≤ tally (λ j. bit_of (holds i j)) 63
    each_holds_one i h = by (is_placed first last i) refl where
      by : (b : Bool) → is_placed first last i ≡ b → bit_of b ≤ tally (λ j. bit_of (holds i j)) 63
      by false e = omega arith
      by true e =
          let found = node_within i h e in
          let one : bit_of (holds i found.0) ≡ 1 = rw (e, found.2, found.3) refl in
          let part : bit_of (holds i found.0) ≤ tally (λ j. bit_of (holds i j)) 63 = tally-part (λ j. bit_of (holds i j)) 63 found.0 found.1 in
          omega (arith, one, part)

    in_one_at_most : (j : ℕ) → j < 63 → tally (λ i. bit_of (holds i j)) 63 ≤ bit_of (bit_at other j == 1)
    in_one_at_most j h = by (bit_at other j == 1) refl where
      nothing : (bit_at other j == 1) ≡ false → (i : ℕ) → i < 63 → bit_of (holds i j) ≤ 0
      nothing e i k = rw e (none (is_placed first last i)) where
        none : (c : Bool) → bit_of (c && false) ≤ 0
        none true = omega arith
        none false = omega arith

      one : (bit_at other j == 1) ≡ true → (a b : ℕ) → a < 63 → b < 63 → holds a j ≡ true → holds b j ≡ true → a ≡ b
      one e a b k l p q =
          let v = both (is_placed first last a) _ p in
          let w = both (is_placed first last b) _ q in
          one_placed a b j k l h v.0 w.0 (both (bit_at other j == 1) _ v.1).1 (both (bit_at other j == 1) _ w.1).1

      by : (b : Bool) → (bit_at other j == 1) ≡ b → tally (λ i. bit_of (holds i j)) 63 ≤ bit_of b
      by false e = let least : tally (λ i. bit_of (holds i j)) 63 ≤ tally (λ i. 0) 63 = tally_le (λ i. bit_of (holds i j)) (λ i. 0) 63 (nothing e) in omega (arith, least, tally-nothing 63)
      by true e = tally_one (λ i. holds i j) 63 (one e)

    pub fewest_of : tally (λ i. bit_of (is_placed first last i)) 63 ≤ tally (λ j. bit_of (bit_at other j == 1)) 63
    fewest_of =
        let some = tally_le (λ i. bit_of (is_placed first last i)) (λ i. tally (λ j. bit_of (holds i j)) 63) 63 each_holds_one in
        let most = tally_le (λ j. tally (λ i. bit_of (holds i j)) 63) (λ j. bit_of (bit_at other j == 1)) 63 in_one_at_most in
        let swap = tally-swap (λ i j. bit_of (holds i j)) 63 63 in
        omega (arith, some, most, swap)

ones_of_bit : (b : Bool) → count_ones (bit_of b) ≡ bit_of b
unfolding lib.Count.ones lib.Count.ones_in
ones_of_bit true = refl
ones_of_bit false = refl

pub ones_of_mask : (test : ℕ → Bool) (n : ℕ) → count_ones (mask_below test n) ≡ tally (λ i. bit_of (test i)) n
unfolding mask_below tally
ones_of_mask test zero = ones_of_bit false
ones_of_mask test (suc n) = ones_cat n (bit_of (test n)) (mask_below test n) (mask_below_lt test n) ∙ rw (ones_of_bit (test n), ones_of_mask test n) refl

pub MakesUp-place_mask : (first last : ℕ) → last < 32 → MakesUp first last (place_mask first last)
MakesUp-place_mask first last h = record {
  inside = λ node bit. let t = test_from_bit (is_placed first last) node bit in (ltb-true _ _ t.0, placed_lies first last node t.1);
  whole = λ bucket a b. let found = node_of_bucket first last bucket a b (omega arith) in
      (found.0, bit_from_test (is_placed first last) found.0 found.1.within found.1.placed, found.1.begins, found.1.ends);
}

pub IsFewest-place_mask : (first last : ℕ) → last < 32 → IsFewest first last (place_mask first last)
IsFewest-place_mask first last h = record {
  makes_up = MakesUp-place_mask first last h;
  fewest = λ other makes.
      let placed = ones_of_mask (is_placed first last) 63 in
      let others : count_ones other ≡ tally (λ j. bit_of (bit_at other j == 1)) 63 = ap count_ones (other_is first last other makes) ∙ ones_of_mask (λ j. bit_at other j == 1) 63 in
      omega (arith, placed, others, fewest_of first last other makes);
}
