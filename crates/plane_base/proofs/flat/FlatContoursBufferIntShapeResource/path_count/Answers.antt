use Rattle.std.proofs.Common.{arith}
use Rattle.std.proofs.lemmas.List.{length-map}
use Rattle.plane_base.specs.Flat.{part}
use Rattle.plane_base.proofs.flat.FlatContoursBufferIntShapeResource.path_count.Goals as goal

pub returns : goal.returns
returns g c = omega (arith, c.len.ensures, c.args.self.now.ranges.ok.0, length-map c.args.self.now.ranges.items (part c.args.self.now.points.items))
