use Rattle.std.proofs.Common.{◌≡◌, length, arith}
use Rattle.plane_base.proofs.flat.FlatContoursBuffer.is_well_formed.Goals as goal

pub returns : goal.returns
returns g c =
    let size : c.len.result ≡ length c.args.self.now.points.items = omega (arith, c.len.ensures, c.args.self.now.points.ok.0) in
    rw (size, c.deref.ensures.value) at c.are_ranges.ensures
