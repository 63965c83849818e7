use Rattle.std.proofs.Common.{pos, negsuc, arith}
use Rattle.std.proofs.lemmas.Int.{ints}
use Rattle.plane_base.proofs.Facts.Numbers.Kernels64.{coordinate_read, weight_read, floor_read}
use Rattle.plane_base.proofs.int.I32OverlayInt.floor_mean.Goals as goal

pub floor_mean-requires-clause-a_fits : goal.floor_mean-requires-clause-a_fits
floor_mean-requires-clause-a_fits c = coordinate_read (negsuc 524287) (pos 524287) c.args.a (omega (arith, ints)) (omega (arith, ints)) c.requires.a_in_range

pub floor_mean-requires-clause-b_fits : goal.floor_mean-requires-clause-b_fits
floor_mean-requires-clause-b_fits c = coordinate_read (negsuc 524287) (pos 524287) c.args.b (omega (arith, ints)) (omega (arith, ints)) c.requires.b_in_range

pub floor_mean-requires-clause-u_fits : goal.floor_mean-requires-clause-u_fits
floor_mean-requires-clause-u_fits c = weight_read c.args.u c.ranges.u c.requires.u_fits

pub floor_mean-requires-clause-v_fits : goal.floor_mean-requires-clause-v_fits
floor_mean-requires-clause-v_fits c = weight_read c.args.v c.ranges.v c.requires.v_fits

pub returns : goal.returns
returns c =
    floor_read c.floor_mean.result c.args.a c.args.b c.args.u c.args.v (record { sfits = c.floor_mean.type_inv }) c.ranges.a c.ranges.b c.ranges.u c.ranges.v c.requires.u_fits.0 c.requires.v_fits.0 c.floor_mean.ensures
