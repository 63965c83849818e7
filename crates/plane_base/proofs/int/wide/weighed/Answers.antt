use Rattle.std.proofs.Common.{ℕ, ◌*◌, ◌<◌, ◌≤◌, ◌^◌, ℤ, pos, neg_ℤ, ◌*ℤ◌, ◌≤ℤ◌, FitsSigned, arith}
use Rattle.std.specs.Int.{w128}
use Rattle.std.proofs.lemmas.Int.{ints, to_z-of_z, to_z_pos}
use Rattle.plane_base.proofs.Facts.Numbers.Means128.{weighed_low, weighed_high}
use Rattle.plane_base.proofs.int.wide.weighed.Goals as goal
use Rattle.plane_base.proofs.int.wide.weighed.Goals.{Start}

weight_fits : (n : ℕ) → n ≤ 2 ^ 84 → FitsSigned w128 (pos n)
weight_fits n h = omega (arith, ints)

below_limit : (n : ℕ) → n ≤ 2 ^ 84 → n < 2 ^ 127
below_limit n h = omega arith

product_fits : (z : ℤ) (n : ℕ) → neg_ℤ (pos (2 ^ 41 * n)) ≤ℤ z → z ≤ℤ pos (2 ^ 41 * n) → n ≤ 2 ^ 84 → FitsSigned w128 z
product_fits z n low high h = omega (arith, ints)

low : (c : Start) → neg_ℤ (pos (2 ^ 41 * c.args.weight)) ≤ℤ (c.args.difference *ℤ pos c.args.weight)
low c = weighed_low c.args.difference c.args.weight c.requires.difference_fits.0

high : (c : Start) → (c.args.difference *ℤ pos c.args.weight) ≤ℤ pos (2 ^ 41 * c.args.weight)
high c = weighed_high c.args.difference c.args.weight c.requires.difference_fits.1

fits : (c : Start) → FitsSigned w128 (c.args.difference *ℤ pos c.args.weight)
fits c = product_fits _ c.args.weight (low c) (high c) c.requires.weight_fits

pub overflow_cast-result : goal.overflow_cast-result
overflow_cast-result c = weight_fits c.args.weight c.requires.weight_fits

pub overflow_mul-result : goal.overflow_mul-result
overflow_mul-result c = rw (to_z-of_z w128 c.args.difference c.ranges.difference, to_z_pos w128 c.args.weight (below_limit c.args.weight c.requires.weight_fits)) (fits c)

pub returns-clause-is : goal.returns-clause-is
returns-clause-is c = rw (to_z-of_z w128 c.args.difference c.ranges.difference, to_z_pos w128 c.args.weight (below_limit c.args.weight c.requires.weight_fits)) (to_z-of_z w128 (c.args.difference *ℤ pos c.args.weight) (fits c))

pub returns-clause-above : goal.returns-clause-above
returns-clause-above c = rw (to_z-of_z w128 c.args.difference c.ranges.difference, to_z_pos w128 c.args.weight (below_limit c.args.weight c.requires.weight_fits), to_z-of_z w128 (c.args.difference *ℤ pos c.args.weight) (fits c)) (low c)

pub returns-clause-below : goal.returns-clause-below
returns-clause-below c = rw (to_z-of_z w128 c.args.difference c.ranges.difference, to_z_pos w128 c.args.weight (below_limit c.args.weight c.requires.weight_fits), to_z-of_z w128 (c.args.difference *ℤ pos c.args.weight) (fits c)) (high c)
