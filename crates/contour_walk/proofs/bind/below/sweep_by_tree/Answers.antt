use Rattle.std.proofs.Common.{arith}
use Rattle.std.proofs.lemmas.Grind.{common_steps}
use Rattle.contour_walk.proofs.bind.below.sweep_by_tree.Goals as goal

pub returns-in_err-live-clause-memory : goal.returns-in_err-live-clause-memory
returns-in_err-live-clause-memory g c = grind (arith, common_steps)

pub new-steps-requires-clause-name : goal.new-steps-requires-clause-name
new-steps-requires-clause-name g c = grind (arith, common_steps)

pub new-steps-requires-clause-parts : goal.new-steps-requires-clause-parts
new-steps-requires-clause-parts g c = grind (arith, common_steps)

pub new-steps-requires-clause-two : goal.new-steps-requires-clause-two
new-steps-requires-clause-two g c = grind (arith, common_steps)

pub sweep-requires-clause-in_range : goal.sweep-requires-clause-in_range
sweep-requires-clause-in_range g c = grind (arith, common_steps)

pub sweep-requires-clause-anchors_in_range : goal.sweep-requires-clause-anchors_in_range
sweep-requires-clause-anchors_in_range g c = grind (arith, common_steps)

pub sweep-requires-clause-few : goal.sweep-requires-clause-few
sweep-requires-clause-few g c = grind (arith, common_steps)

pub sweep-requires-clause-sweepable : goal.sweep-requires-clause-sweepable
sweep-requires-clause-sweepable g c = grind (arith, common_steps)

pub sweep-requires-clause-sought : goal.sweep-requires-clause-sought
sweep-requires-clause-sought g c = grind (arith, common_steps)

pub sweep-requires-clause-rising : goal.sweep-requires-clause-rising
sweep-requires-clause-rising g c = grind (arith, common_steps)

pub sweep-requires-clause-numbers : goal.sweep-requires-clause-numbers
sweep-requires-clause-numbers g c = grind (arith, common_steps)

pub sweep-requires-clause-nothing : goal.sweep-requires-clause-nothing
sweep-requires-clause-nothing g c = grind (arith, common_steps)

pub returns-clause-len : goal.returns-clause-len
returns-clause-len g c = grind (arith, common_steps)

pub returns-clause-is : goal.returns-clause-is
returns-clause-is g c = grind (arith, common_steps)

pub returns-clause-rest : goal.returns-clause-rest
returns-clause-rest g c = c.sweep.ensures.rest

pub returns-clause-memory : goal.returns-clause-memory
returns-clause-memory g c = grind (arith, common_steps)
