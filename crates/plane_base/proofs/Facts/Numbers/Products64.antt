-- Products of differences of coordinates, in 64 bits.
use Rattle.std.proofs.Common.{◌≡◌, ℕ, ◌*◌, ◌^◌, ◌≤◌, ◌<◌, ℤ, pos, negsuc, neg_ℤ, ◌*ℤ◌, ◌-ℤ◌, ◌+ℤ◌, ◌≤ℤ◌, arith, w64, FitsSigned, to_z, of_z}
use Rattle.std.specs.Int.{w128}
use Rattle.std.specs.Prelude.{unsigned_abs}
use Rattle.std.proofs.lemmas.Nat.{mul-le}
use Rattle.std.proofs.lemmas.Int.{ints, unsigned_abs-mul, fits_signed_from_abs, to_z-of_z}

-- a number between -m and m has a size of m at most, and the other way round
pub size_at_most : (z : ℤ) (m : ℕ) → neg_ℤ (pos m) ≤ℤ z → z ≤ℤ pos m → unsigned_abs z ≤ m
size_at_most (pos n) m low high = omega (arith, ints)
size_at_most (negsuc n) m low high = omega (arith, ints)

pub above_from_size : (z : ℤ) (m : ℕ) → unsigned_abs z ≤ m → neg_ℤ (pos m) ≤ℤ z
above_from_size (pos n) m h = omega (arith, ints)
above_from_size (negsuc n) m h = omega (arith, ints)

pub below_from_size : (z : ℤ) (m : ℕ) → unsigned_abs z ≤ m → z ≤ℤ pos m
below_from_size (pos n) m h = omega (arith, ints)
below_from_size (negsuc n) m h = omega (arith, ints)

-- two differences of coordinates have a product of 40 bits
pub product_size : (x y : ℤ) → negsuc 1048575 ≤ℤ x → x ≤ℤ pos 1048575 → negsuc 1048575 ≤ℤ y → y ≤ℤ pos 1048575 → unsigned_abs (x *ℤ y) ≤ 2 ^ 40
product_size x y a b c d =
    let sizes : unsigned_abs x * unsigned_abs y ≤ 1048576 * 1048576 = mul-le _ _ 1048576 1048576 (size_at_most x 1048576 (omega (arith, ints)) (omega (arith, ints))) (size_at_most y 1048576 (omega (arith, ints)) (omega (arith, ints))) in
    rw (unsigned_abs-mul x y) sizes

-- what 64 bits give as their product
pub machine_product : (x y : ℤ) → FitsSigned w64 x → FitsSigned w64 y → unsigned_abs (x *ℤ y) ≤ 2 ^ 40 → to_z w64 (of_z w64 (to_z w64 (of_z w64 x) *ℤ to_z w64 (of_z w64 y))) ≡ x *ℤ y
machine_product x y f g h =
    let fits : FitsSigned w64 (x *ℤ y) = fits_signed_from_abs w64 (x *ℤ y) (omega (arith, h)) in
    rw (to_z-of_z w64 x f, to_z-of_z w64 y g, to_z-of_z w64 (x *ℤ y) fits)

-- what 64 bits give as a difference of two such products
pub machine_difference : (a b : ℤ) → neg_ℤ (pos (2 ^ 40)) ≤ℤ a → a ≤ℤ pos (2 ^ 40) → neg_ℤ (pos (2 ^ 40)) ≤ℤ b → b ≤ℤ pos (2 ^ 40) → to_z w64 (of_z w64 (to_z w64 (of_z w64 a) -ℤ to_z w64 (of_z w64 b))) ≡ a -ℤ b
machine_difference a b p q r s = omega (arith, ints)

-- what 64 bits give as a sum of two such products
pub machine_total : (a b : ℤ) → neg_ℤ (pos (2 ^ 40)) ≤ℤ a → a ≤ℤ pos (2 ^ 40) → neg_ℤ (pos (2 ^ 40)) ≤ℤ b → b ≤ℤ pos (2 ^ 40) → to_z w64 (of_z w64 (to_z w64 (of_z w64 a) +ℤ to_z w64 (of_z w64 b))) ≡ a +ℤ b
machine_total a b p q r s = omega (arith, ints)

-- a number of 42 bits, read as 128 bits
pub widened : (r s : ℤ) → neg_ℤ (pos (2 ^ 41)) ≤ℤ s → s ≤ℤ pos (2 ^ 41) → r ≡ to_z w64 (of_z w64 s) → to_z w128 (of_z w128 r) ≡ s
widened r s low high e = omega (arith, ints)

-- such a number added to a sum that 128 bits hold with room to spare
pub machine_sum : (a r s : ℤ) (n : ℕ) → n < 2 ^ 64 → neg_ℤ (pos (2 ^ 41 * n)) ≤ℤ a → a ≤ℤ pos (2 ^ 41 * n) → neg_ℤ (pos (2 ^ 41)) ≤ℤ s → s ≤ℤ pos (2 ^ 41) → r ≡ to_z w64 (of_z w64 s) → to_z w128 (of_z w128 (a +ℤ to_z w128 (of_z w128 r))) ≡ a +ℤ s
machine_sum a r s n few low high below above e = omega (arith, ints)
