-- Products of differences of coordinates, in 128 bits: the lemmas of 64 bits, with other numerals.
use Rattle.std.proofs.Common.{◌≡◌, ◌*◌, ◌^◌, ◌≤◌, ℤ, pos, negsuc, neg_ℤ, ◌*ℤ◌, ◌-ℤ◌, ◌+ℤ◌, ◌≤ℤ◌, arith, FitsSigned, to_z, of_z}
use Rattle.std.specs.Int.{w128}
use Rattle.std.specs.Prelude.{unsigned_abs}
use Rattle.std.proofs.lemmas.Nat.{mul-le}
use Rattle.std.proofs.lemmas.Int.{ints, unsigned_abs-mul, fits_signed_from_abs, to_z-of_z}
use Rattle.plane_base.proofs.Facts.Numbers.Products64.{size_at_most}

-- two differences of coordinates have a product of 82 bits
pub product_size : (x y : ℤ) → negsuc 2199023255551 ≤ℤ x → x ≤ℤ pos 2199023255551 → negsuc 2199023255551 ≤ℤ y → y ≤ℤ pos 2199023255551 → unsigned_abs (x *ℤ y) ≤ 2 ^ 82
product_size x y a b c d =
    let sizes : unsigned_abs x * unsigned_abs y ≤ 2199023255552 * 2199023255552 = mul-le _ _ 2199023255552 2199023255552 (size_at_most x 2199023255552 (omega (arith, ints)) (omega (arith, ints))) (size_at_most y 2199023255552 (omega (arith, ints)) (omega (arith, ints))) in
    rw (unsigned_abs-mul x y) sizes

-- what 128 bits give as their product
pub machine_product : (x y : ℤ) → FitsSigned w128 x → FitsSigned w128 y → unsigned_abs (x *ℤ y) ≤ 2 ^ 82 → to_z w128 (of_z w128 (to_z w128 (of_z w128 x) *ℤ to_z w128 (of_z w128 y))) ≡ x *ℤ y
machine_product x y f g h =
    let fits : FitsSigned w128 (x *ℤ y) = fits_signed_from_abs w128 (x *ℤ y) (omega (arith, h)) in
    rw (to_z-of_z w128 x f, to_z-of_z w128 y g, to_z-of_z w128 (x *ℤ y) fits)

-- what 128 bits give as a difference of two such products
pub machine_difference : (a b : ℤ) → neg_ℤ (pos (2 ^ 82)) ≤ℤ a → a ≤ℤ pos (2 ^ 82) → neg_ℤ (pos (2 ^ 82)) ≤ℤ b → b ≤ℤ pos (2 ^ 82) → to_z w128 (of_z w128 (to_z w128 (of_z w128 a) -ℤ to_z w128 (of_z w128 b))) ≡ a -ℤ b
machine_difference a b p q r s = omega (arith, ints)

-- what 128 bits give as a sum of two such products
pub machine_total : (a b : ℤ) → neg_ℤ (pos (2 ^ 82)) ≤ℤ a → a ≤ℤ pos (2 ^ 82) → neg_ℤ (pos (2 ^ 82)) ≤ℤ b → b ≤ℤ pos (2 ^ 82) → to_z w128 (of_z w128 (to_z w128 (of_z w128 a) +ℤ to_z w128 (of_z w128 b))) ≡ a +ℤ b
machine_total a b p q r s = omega (arith, ints)
