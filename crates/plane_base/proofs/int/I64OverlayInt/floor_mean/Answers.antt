use Rattle.std.proofs.Common.{◌≡◌, ◌+◌, ◌+ℤ◌, ◌*ℤ◌}
use Rattle.std.specs.Prelude.{unsigned_abs}
use Rattle.plane_base.specs.Crossing.{floor}
use Rattle.plane_base.proofs.Facts.Numbers.Kernels128.{IsWide, coordinate_widened, weight_widened, floor_widened, floor_in, shortened, shortened_fits}
use Rattle.plane_base.proofs.int.I64OverlayInt.floor_mean.Goals as goal
use Rattle.plane_base.proofs.int.I64OverlayInt.floor_mean.Goals.{After-floor_mean}

is : (c : After-floor_mean) → c.floor_mean.result ≡ floor ((c.args.v *ℤ c.args.a) +ℤ (c.args.u *ℤ c.args.b)) (unsigned_abs c.args.u + unsigned_abs c.args.v)
is c =
    floor_widened c.floor_mean.result c.args.a c.args.b c.args.u c.args.v c.from.result c.from-2.result c.ranges.a c.ranges.b c.ranges.u c.ranges.v c.requires.u_fits.0 c.requires.v_fits.0 c.from.ensures c.from-2.ensures c.floor_mean.ensures

within : (c : After-floor_mean) → IsWide (floor ((c.args.v *ℤ c.args.a) +ℤ (c.args.u *ℤ c.args.b)) (unsigned_abs c.args.u + unsigned_abs c.args.v))
within c = floor_in c.args.a c.args.b c.args.u c.args.v c.requires.u_fits.0 c.requires.v_fits.0 c.requires.a_in_range c.requires.b_in_range

pub floor_mean-requires-clause-a_fits : goal.floor_mean-requires-clause-a_fits
floor_mean-requires-clause-a_fits c = coordinate_widened c.from.result c.args.a c.ranges.a c.from.ensures c.requires.a_in_range

pub floor_mean-requires-clause-b_fits : goal.floor_mean-requires-clause-b_fits
floor_mean-requires-clause-b_fits c = coordinate_widened c.from-2.result c.args.b c.ranges.b c.from-2.ensures c.requires.b_in_range

pub floor_mean-requires-clause-u_fits : goal.floor_mean-requires-clause-u_fits
floor_mean-requires-clause-u_fits c = weight_widened c.args.u c.ranges.u c.requires.u_fits

pub floor_mean-requires-clause-v_fits : goal.floor_mean-requires-clause-v_fits
floor_mean-requires-clause-v_fits c = weight_widened c.args.v c.ranges.v c.requires.v_fits

pub overflow_cast-result : goal.overflow_cast-result
overflow_cast-result c = shortened_fits c.floor_mean.result _ (is c) (within c)

pub returns : goal.returns
returns c = shortened c.floor_mean.result _ (is c) (within c)
