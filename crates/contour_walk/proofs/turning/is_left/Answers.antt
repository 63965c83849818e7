use Rattle.std.proofs.Common.{arith}
use Rattle.std.proofs.lemmas.Grind.{common_steps}
use Rattle.contour_walk.proofs.turning.is_left.Goals as goal

pub orientation-requires-clause-a_in_range : goal.orientation-requires-clause-a_in_range
orientation-requires-clause-a_in_range g c = grind (arith, common_steps)

pub orientation-requires-clause-b_in_range : goal.orientation-requires-clause-b_in_range
orientation-requires-clause-b_in_range g c = grind (arith, common_steps)

pub orientation-requires-clause-c_in_range : goal.orientation-requires-clause-c_in_range
orientation-requires-clause-c_in_range g c = grind (arith, common_steps)

pub returns : goal.returns
returns g c = grind (arith, common_steps)
