use Rattle.std.proofs.Common.{◌≡◌, arith}
use Rattle.plane_base.proofs.resource.IntPathIntShapeResource.path.Goals as goal

pub returns : goal.returns
returns g c = let first : c.args._index ≡ 0 = omega (arith, c.requires.inside) in rw first c.deref.ensures.value
