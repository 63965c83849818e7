use Rattle.std.proofs.Common.{arith}
use Rattle.std.proofs.lemmas.Grind.{common_steps}
use Rattle.segment_split.proofs.count.sum.Goals as goal

pub overflow_add-sum : goal.overflow_add-sum
overflow_add-sum c = grind (arith, common_steps)

pub overflow_sub-from : goal.overflow_sub-from
overflow_sub-from c = grind (arith, common_steps)

pub overflow_cast-result : goal.overflow_cast-result
overflow_cast-result c = grind (arith, common_steps)

pub returns-then-sum-from-clause-is : goal.returns-then-sum-from-clause-is
returns-then-sum-from-clause-is c = grind (arith, common_steps)

pub returns-then-sum-from-clause-fits : goal.returns-then-sum-from-clause-fits
returns-then-sum-from-clause-fits c = grind (arith, common_steps)

pub returns-else-from-sum-clause-is : goal.returns-else-from-sum-clause-is
returns-else-from-sum-clause-is c = grind (arith, common_steps)

pub returns-else-from-sum-clause-fits : goal.returns-else-from-sum-clause-fits
returns-else-from-sum-clause-fits c = grind (arith, common_steps)
