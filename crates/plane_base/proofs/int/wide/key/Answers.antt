use Rattle.std.proofs.Common.{arith}
use Rattle.std.proofs.lemmas.Int.{ints}
use Rattle.plane_base.proofs.int.wide.key.Goals as goal

pub returns : goal.returns
returns c = omega (arith, ints)
