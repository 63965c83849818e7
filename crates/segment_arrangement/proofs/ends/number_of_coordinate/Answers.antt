use Rattle.std.proofs.Common.{arith}
use Rattle.std.proofs.lemmas.Grind.{common_steps}
use Rattle.segment_arrangement.proofs.ends.number_of_coordinate.Goals as goal

pub overflow_add-result : goal.overflow_add-result
overflow_add-result g c = grind (arith, common_steps)

pub overflow_cast-result : goal.overflow_cast-result
overflow_cast-result g c = grind (arith, common_steps)

pub returns-clause-below : goal.returns-clause-below
returns-clause-below g c = grind (arith, common_steps)

pub returns-clause-coordinate : goal.returns-clause-coordinate
returns-clause-coordinate g c = grind (arith, common_steps)
