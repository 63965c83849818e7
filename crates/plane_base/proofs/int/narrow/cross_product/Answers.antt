use Rattle.std.proofs.Common.{◌≡◌, ◌∙◌, refl, ℤ, pos, neg_ℤ, ◌^◌, ◌≤ℤ◌, w64, arith, to_z, of_z, ◌-ℤ◌, FitsSigned}
use Rattle.std.proofs.lemmas.Int.{to_z-of_z, ints}
use Rattle.plane_base.proofs.Facts.Numbers.Products64.{machine_difference}
use Rattle.plane_base.proofs.int.narrow.cross_product.Goals as goal
use Rattle.plane_base.proofs.int.narrow.cross_product.Goals.{After-product-2}

difference_fits : (a b : ℤ) → neg_ℤ (pos (2 ^ 40)) ≤ℤ a → a ≤ℤ pos (2 ^ 40) → neg_ℤ (pos (2 ^ 40)) ≤ℤ b → b ≤ℤ pos (2 ^ 40) → FitsSigned w64 (to_z w64 (of_z w64 a) -ℤ to_z w64 (of_z w64 b))
difference_fits a b p q r s = omega (arith, ints)

-- the difference does not wrap
exact : (c : After-product-2) → to_z w64 (of_z w64 (to_z w64 (of_z w64 c.product.result) -ℤ to_z w64 (of_z w64 c.product-2.result))) ≡ c.product.result -ℤ c.product-2.result
exact c =
    let first = c.product.ensures in
    let second = c.product-2.ensures in
    machine_difference c.product.result c.product-2.result first.above first.below second.above second.below

pub returns-clause-is : goal.returns-clause-is
returns-clause-is c =
    exact c
    ∙ rw (c.product.ensures.is, c.product-2.ensures.is)
    (rw (to_z-of_z w64 c.args.x c.ranges.x, to_z-of_z w64 c.args.y c.ranges.y, to_z-of_z w64 c.args.other_x c.ranges.other_x, to_z-of_z w64 c.args.other_y c.ranges.other_y) refl)

pub returns-clause-above : goal.returns-clause-above
returns-clause-above c =
    let first = c.product.ensures in
    let second = c.product-2.ensures in
    rw (exact c) (omega (arith, ints, first.above, second.below))

pub returns-clause-below : goal.returns-clause-below
returns-clause-below c =
    let first = c.product.ensures in
    let second = c.product-2.ensures in
    rw (exact c) (omega (arith, ints, first.below, second.above))

pub product-requires-clause-x_fits : goal.product-requires-clause-x_fits
product-requires-clause-x_fits c = rw (to_z-of_z w64 c.args.x c.ranges.x) c.requires.x_fits

pub product-requires-clause-y_fits : goal.product-requires-clause-y_fits
product-requires-clause-y_fits c = rw (to_z-of_z w64 c.args.other_y c.ranges.other_y) c.requires.other_y_fits

pub product-requires-2-clause-x_fits : goal.product-requires-2-clause-x_fits
product-requires-2-clause-x_fits c = rw (to_z-of_z w64 c.args.y c.ranges.y) c.requires.y_fits

pub product-requires-2-clause-y_fits : goal.product-requires-2-clause-y_fits
product-requires-2-clause-y_fits c = rw (to_z-of_z w64 c.args.other_x c.ranges.other_x) c.requires.other_x_fits

pub overflow_sub-result : goal.overflow_sub-result
overflow_sub-result c =
    let first = c.product.ensures in
    let second = c.product-2.ensures in
    difference_fits c.product.result c.product-2.result first.above first.below second.above second.below
