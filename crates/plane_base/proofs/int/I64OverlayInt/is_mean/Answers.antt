use Rattle.plane_base.proofs.Facts.Numbers.Kernels128.{coordinate_widened, weight_widened, mean_widened}
use Rattle.plane_base.proofs.int.I64OverlayInt.is_mean.Goals as goal

pub is_mean-requires-clause-a_fits : goal.is_mean-requires-clause-a_fits
is_mean-requires-clause-a_fits c = coordinate_widened c.from.result c.args.a c.ranges.a c.from.ensures c.requires.a_in_range

pub is_mean-requires-clause-b_fits : goal.is_mean-requires-clause-b_fits
is_mean-requires-clause-b_fits c = coordinate_widened c.from-2.result c.args.b c.ranges.b c.from-2.ensures c.requires.b_in_range

pub is_mean-requires-clause-number_fits : goal.is_mean-requires-clause-number_fits
is_mean-requires-clause-number_fits c = coordinate_widened c.from-3.result c.args.number c.ranges.number c.from-3.ensures c.requires.number_in_range

pub is_mean-requires-clause-u_fits : goal.is_mean-requires-clause-u_fits
is_mean-requires-clause-u_fits c = weight_widened c.args.u c.ranges.u c.requires.u_fits

pub is_mean-requires-clause-v_fits : goal.is_mean-requires-clause-v_fits
is_mean-requires-clause-v_fits c = weight_widened c.args.v c.ranges.v c.requires.v_fits

pub returns : goal.returns
returns c =
    mean_widened c.is_mean.result c.args.a c.args.b c.args.number c.args.u c.args.v c.from.result c.from-2.result c.from-3.result c.ranges.a c.ranges.b c.ranges.number c.ranges.u c.ranges.v c.requires.u_fits.0 c.requires.v_fits.0 c.from.ensures c.from-2.ensures c.from-3.ensures c.is_mean.ensures
