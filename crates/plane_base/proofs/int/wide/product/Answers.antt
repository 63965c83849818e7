use Rattle.std.proofs.Common.{◌*ℤ◌, ◌^◌, ◌≤◌, arith}
use Rattle.std.specs.Int.{w128}
use Rattle.std.proofs.lemmas.Int.{to_z-of_z, fits_signed_from_abs}
use Rattle.std.specs.Prelude.{unsigned_abs}
use Rattle.plane_base.proofs.Facts.Numbers.Products64.{above_from_size, below_from_size}
use Rattle.plane_base.proofs.Facts.Numbers.Products128.{product_size, machine_product}
use Rattle.plane_base.proofs.int.wide.product.Goals as goal
use Rattle.plane_base.proofs.int.wide.product.Goals.{Start}

size : (c : Start) → unsigned_abs (c.args.x *ℤ c.args.y) ≤ 2 ^ 82
size c = product_size c.args.x c.args.y c.requires.x_fits.0 c.requires.x_fits.1 c.requires.y_fits.0 c.requires.y_fits.1

pub returns-clause-is : goal.returns-clause-is
returns-clause-is c = machine_product c.args.x c.args.y c.ranges.x c.ranges.y (size c)

pub returns-clause-above : goal.returns-clause-above
returns-clause-above c = rw (machine_product c.args.x c.args.y c.ranges.x c.ranges.y (size c)) (above_from_size _ (2 ^ 82) (size c))

pub returns-clause-below : goal.returns-clause-below
returns-clause-below c = rw (machine_product c.args.x c.args.y c.ranges.x c.ranges.y (size c)) (below_from_size _ (2 ^ 82) (size c))

pub overflow_mul-result : goal.overflow_mul-result
overflow_mul-result c = rw (to_z-of_z w128 c.args.x c.ranges.x, to_z-of_z w128 c.args.y c.ranges.y) (fits_signed_from_abs w128 _ (omega (arith, size c)))
