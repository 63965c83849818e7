use Rattle.std.proofs.Common.{pos, negsuc, arith}
use Rattle.std.proofs.lemmas.Int.{ints}
use Rattle.plane_base.proofs.Facts.Numbers.Kernels64.{coordinate_read, weight_read, nearest_read}
use Rattle.plane_base.proofs.int.I32OverlayInt.nearest_mean.Goals as goal

pub nearest_mean-requires-clause-a_fits : goal.nearest_mean-requires-clause-a_fits
nearest_mean-requires-clause-a_fits c = coordinate_read (negsuc 524287) (pos 524287) c.args.a (omega (arith, ints)) (omega (arith, ints)) c.requires.a_in_range

pub nearest_mean-requires-clause-b_fits : goal.nearest_mean-requires-clause-b_fits
nearest_mean-requires-clause-b_fits c = coordinate_read (negsuc 524287) (pos 524287) c.args.b (omega (arith, ints)) (omega (arith, ints)) c.requires.b_in_range

pub nearest_mean-requires-clause-u_fits : goal.nearest_mean-requires-clause-u_fits
nearest_mean-requires-clause-u_fits c = weight_read c.args.u c.ranges.u c.requires.u_fits

pub nearest_mean-requires-clause-v_fits : goal.nearest_mean-requires-clause-v_fits
nearest_mean-requires-clause-v_fits c = weight_read c.args.v c.ranges.v c.requires.v_fits

pub returns : goal.returns
returns c =
    nearest_read c.nearest_mean.result c.args.a c.args.b c.args.u c.args.v (record { sfits = c.nearest_mean.type_inv }) c.ranges.a c.ranges.b c.ranges.u c.ranges.v c.requires.u_fits.0 c.requires.v_fits.0 c.nearest_mean.ensures
