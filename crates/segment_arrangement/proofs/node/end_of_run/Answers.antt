use Rattle.std.proofs.Common.{arith}
use Rattle.std.proofs.lemmas.Grind.{common_steps}
use Rattle.segment_arrangement.proofs.node.end_of_run.Goals as goal

pub loop-to-init : goal.loop-to-init
loop-to-init g c = grind (arith, common_steps)

pub offset_bounds-ends-to : goal.offset_bounds-ends-to
offset_bounds-ends-to g c = grind (arith, common_steps)

pub bounds-ends-to : goal.bounds-ends-to
bounds-ends-to g c = grind (arith, common_steps)

pub returns-then-not-lies_with-clause-beyond : goal.returns-then-not-lies_with-clause-beyond
returns-then-not-lies_with-clause-beyond g c = grind (arith, common_steps)

pub returns-then-not-lies_with-clause-within : goal.returns-then-not-lies_with-clause-within
returns-then-not-lies_with-clause-within g c = grind (arith, common_steps)

pub returns-then-not-lies_with-clause-together : goal.returns-then-not-lies_with-clause-together
returns-then-not-lies_with-clause-together g c = grind (arith, common_steps)

pub returns-then-not-lies_with-clause-ended : goal.returns-then-not-lies_with-clause-ended
returns-then-not-lies_with-clause-ended g c = grind (arith, common_steps)

pub overflow_add-to : goal.overflow_add-to
overflow_add-to g c = grind (arith, common_steps)

pub loop-to-smaller : goal.loop-to-smaller
loop-to-smaller g c = grind (arith, common_steps)

pub returns-clause-beyond : goal.returns-clause-beyond
returns-clause-beyond g c = grind (arith, common_steps)

pub returns-clause-within : goal.returns-clause-within
returns-clause-within g c = grind (arith, common_steps)

pub returns-clause-together : goal.returns-clause-together
returns-clause-together g c = grind (arith, common_steps)

pub returns-clause-ended : goal.returns-clause-ended
returns-clause-ended g c = grind (arith, common_steps)
