use Rattle.std.proofs.Common.{arith}
use Rattle.std.proofs.lemmas.Grind.{common_steps}
use Rattle.reference.proofs.regions.sum_of_ends.Goals as goal

pub sum-requires-clause-a_in_range : goal.sum-requires-clause-a_in_range
sum-requires-clause-a_in_range g c = grind (arith, common_steps)

pub sum-requires-clause-b_in_range : goal.sum-requires-clause-b_in_range
sum-requires-clause-b_in_range g c = grind (arith, common_steps)

pub sum-requires-2-clause-a_in_range : goal.sum-requires-2-clause-a_in_range
sum-requires-2-clause-a_in_range g c = grind (arith, common_steps)

pub sum-requires-2-clause-b_in_range : goal.sum-requires-2-clause-b_in_range
sum-requires-2-clause-b_in_range g c = grind (arith, common_steps)

pub returns-clause-x : goal.returns-clause-x
returns-clause-x g c = grind (arith, common_steps)

pub returns-clause-y : goal.returns-clause-y
returns-clause-y g c = grind (arith, common_steps)

pub returns-clause-x_small : goal.returns-clause-x_small
returns-clause-x_small g c = grind (arith, common_steps)

pub returns-clause-y_small : goal.returns-clause-y_small
returns-clause-y_small g c = grind (arith, common_steps)
