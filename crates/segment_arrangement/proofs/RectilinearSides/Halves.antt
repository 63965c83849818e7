-- A place found by halves, and how many of them that takes.
use Rattle.std.proofs.Common.{◌≡◌, ℕ, zero, suc, ◌+◌, ◌*◌, ◌^◌, ◌<◌, ◌≤◌, inl, inr, ℤ, ◌≤ℤ◌, ◌<ℤ◌, int_lt, true, false, List, length, get_or, AllPairs, sym, subst, arith}
use Rattle.std.proofs.Math.Nat.{mul-le-mul_left, pow-suc}
use Rattle.std.proofs.lemmas.Bool.{cases_eq}
use Rattle.std.proofs.lemmas.Int.{ints}
use Rattle.std.proofs.lemmas.Nat.{pow-add}
use Rattle.i_tree.specs.TreeBound.{greatest_power}
use Rattle.i_tree.proofs.Trees.Powers.{power-half}
use Rattle.segment_arrangement.specs.HorizontalRows.{AreHalves}
use Rattle.segment_arrangement.proofs.Facts.ColumnPlaces.{lt_tells, lt_tells_not}

-- after so many halves this many heights are left of all
pub record IsHalving (heights left halves : ℕ) : Type 0 where
  pub enough : heights + 2 ≤ 2 ^ halves * (left + 2)
  pub fewer : 2 ^ halves * left ≤ heights
  pub few : 2 ^ halves ≤ 2 * heights + 1

pub none_halved : (heights : ℕ) → IsHalving heights heights 0
none_halved heights = record { enough = omega arith; fewer = omega arith; few = omega arith }

pub halved : (heights left halves rest : ℕ) → 0 < left → 2 * rest ≤ left → left ≤ 2 * rest + 2 → IsHalving heights left halves → IsHalving heights rest (halves + 1)
halved heights left halves rest some low high so_far =
    let double : 2 ^ (halves + 1) ≡ 2 ^ halves * 2 = pow-add 2 halves 1 in
    let wide : 2 ^ halves * (left + 2) ≤ 2 ^ halves * (2 * rest + 4) = mul-le-mul_left (2 ^ halves) (omega (arith, high)) in
    let close : 2 ^ halves * (2 * rest) ≤ 2 ^ halves * left = mul-le-mul_left (2 ^ halves) low in
    let one : 2 ^ halves * 1 ≤ 2 ^ halves * left = mul-le-mul_left (2 ^ halves) (omega (arith, some)) in
    record {
      enough = rw double (omega (arith, wide, so_far.enough));
      fewer = rw double (omega (arith, close, so_far.fewer));
      few = rw double (omega (arith, one, so_far.fewer));
    }

pub all_halved : (heights left halves : ℕ) → left ≡ 0 → IsHalving heights left halves → AreHalves heights halves
all_halved heights left halves none so_far = let enough : heights + 2 ≤ 2 ^ halves * (0 + 2) = subst (λ n. heights + 2 ≤ 2 ^ halves * (n + 2)) none so_far.enough in record { enough = omega (arith, enough); few = so_far.few }

-- so there is one half for each power of two up to the number of edges, and one more
pub halves_fit : (n heights halves : ℕ) → heights ≤ n → 2 ^ halves ≤ 2 * heights + 1 → halves ≤ greatest_power n (n + 1) + 1
halves_fit n heights zero within few = omega arith
halves_fit n heights (suc k) within few =
    let double : 2 ^ suc k ≡ 2 ^ k * 2 = pow-suc 2 k in
    let small : 2 ^ k * 2 ≤ 2 * heights + 1 = subst (λ p. p ≤ 2 * heights + 1) double few in
    let half : k ≤ greatest_power n (n + 1) = power-half k n (omega (arith, small, within)) in
    omega (arith, half)

-- ---- what one look tells of all heights on one side

module _ {I : Type 0} (value : I → ℤ) (y : ℤ) (heights : List I) (rising : AllPairs (λ y z. value y <ℤ value z) heights) (middle : ℕ) (inside : middle < length heights) where
  pub below_too : ((d : I) → int_lt (value (get_or heights middle d)) y ≡ true) → (i : ℕ) (d : I) → i < middle + 1 → value (get_or heights i d) <ℤ y
  below_too is i d l =
      let low = lt_tells (value (get_or heights middle d)) y (is d) in
      elim (cases_eq i middle) [
        | inl same ↦ subst (λ k. value (get_or heights k d) <ℤ y) (sym same) low
        | inr other ↦ let up = rising i middle d (omega (arith, l, other)) inside in omega (arith, ints, up, low)
      ]

  pub others_too : ((d : I) → int_lt (value (get_or heights middle d)) y ≡ false) → (i : ℕ) (d : I) → middle ≤ i → i < length heights → y ≤ℤ value (get_or heights i d)
  others_too above i d g l =
      let high = lt_tells_not (value (get_or heights middle d)) y (above d) in
      elim (cases_eq i middle) [
        | inl same ↦ subst (λ k. y ≤ℤ value (get_or heights k d)) (sym same) high
        | inr other ↦ let up = rising middle i d (omega (arith, g, other)) l in omega (arith, ints, up, high)
      ]
