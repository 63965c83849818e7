use Rattle.std.proofs.Common.{arith}
use Rattle.std.proofs.lemmas.Grind.{common_steps}
use Rattle.contour_walk.proofs.bind.below.sweep_edges.Goals as goal

pub sweep_by_list-requires-clause-name : goal.sweep_by_list-requires-clause-name
sweep_by_list-requires-clause-name g c = grind (arith, common_steps)

pub sweep_by_list-requires-clause-parts : goal.sweep_by_list-requires-clause-parts
sweep_by_list-requires-clause-parts g c = grind (arith, common_steps)

pub sweep_by_list-requires-clause-two : goal.sweep_by_list-requires-clause-two
sweep_by_list-requires-clause-two g c = grind (arith, common_steps)

pub sweep_by_list-requires-clause-in_range : goal.sweep_by_list-requires-clause-in_range
sweep_by_list-requires-clause-in_range g c = grind (arith, common_steps)

pub sweep_by_list-requires-clause-anchors_in_range :
    goal.sweep_by_list-requires-clause-anchors_in_range
sweep_by_list-requires-clause-anchors_in_range g c = grind (arith, common_steps)

pub sweep_by_list-requires-clause-few : goal.sweep_by_list-requires-clause-few
sweep_by_list-requires-clause-few g c = grind (arith, common_steps)

pub sweep_by_list-requires-clause-sweepable : goal.sweep_by_list-requires-clause-sweepable
sweep_by_list-requires-clause-sweepable g c = grind (arith, common_steps)

pub sweep_by_list-requires-clause-sought : goal.sweep_by_list-requires-clause-sought
sweep_by_list-requires-clause-sought g c = grind (arith, common_steps)

pub sweep_by_list-requires-clause-rising : goal.sweep_by_list-requires-clause-rising
sweep_by_list-requires-clause-rising g c = grind (arith, common_steps)

pub sweep_by_list-requires-clause-numbers : goal.sweep_by_list-requires-clause-numbers
sweep_by_list-requires-clause-numbers g c = grind (arith, common_steps)

pub returns-then-contours-lt-MANY_CONTOURS-clause-len :
    goal.returns-then-contours-lt-MANY_CONTOURS-clause-len
returns-then-contours-lt-MANY_CONTOURS-clause-len g c = grind (arith, common_steps)

pub returns-then-contours-lt-MANY_CONTOURS-clause-is :
    goal.returns-then-contours-lt-MANY_CONTOURS-clause-is
returns-then-contours-lt-MANY_CONTOURS-clause-is g c = grind (arith, common_steps)

pub returns-then-contours-lt-MANY_CONTOURS-clause-memory :
    goal.returns-then-contours-lt-MANY_CONTOURS-clause-memory
returns-then-contours-lt-MANY_CONTOURS-clause-memory g c = grind (arith, common_steps)

pub sweep_by_tree-requires-clause-name : goal.sweep_by_tree-requires-clause-name
sweep_by_tree-requires-clause-name g c = grind (arith, common_steps)

pub sweep_by_tree-requires-clause-parts : goal.sweep_by_tree-requires-clause-parts
sweep_by_tree-requires-clause-parts g c = grind (arith, common_steps)

pub sweep_by_tree-requires-clause-two : goal.sweep_by_tree-requires-clause-two
sweep_by_tree-requires-clause-two g c = grind (arith, common_steps)

pub sweep_by_tree-requires-clause-in_range : goal.sweep_by_tree-requires-clause-in_range
sweep_by_tree-requires-clause-in_range g c = grind (arith, common_steps)

pub sweep_by_tree-requires-clause-anchors_in_range :
    goal.sweep_by_tree-requires-clause-anchors_in_range
sweep_by_tree-requires-clause-anchors_in_range g c = grind (arith, common_steps)

pub sweep_by_tree-requires-clause-few : goal.sweep_by_tree-requires-clause-few
sweep_by_tree-requires-clause-few g c = grind (arith, common_steps)

pub sweep_by_tree-requires-clause-sweepable : goal.sweep_by_tree-requires-clause-sweepable
sweep_by_tree-requires-clause-sweepable g c = grind (arith, common_steps)

pub sweep_by_tree-requires-clause-sought : goal.sweep_by_tree-requires-clause-sought
sweep_by_tree-requires-clause-sought g c = grind (arith, common_steps)

pub sweep_by_tree-requires-clause-rising : goal.sweep_by_tree-requires-clause-rising
sweep_by_tree-requires-clause-rising g c = grind (arith, common_steps)

pub sweep_by_tree-requires-clause-numbers : goal.sweep_by_tree-requires-clause-numbers
sweep_by_tree-requires-clause-numbers g c = grind (arith, common_steps)

pub returns-clause-len : goal.returns-clause-len
returns-clause-len g c = grind (arith, common_steps)

pub returns-clause-is : goal.returns-clause-is
returns-clause-is g c = grind (arith, common_steps)

pub returns-then-contours-lt-MANY_CONTOURS-clause-rest :
    goal.returns-then-contours-lt-MANY_CONTOURS-clause-rest
returns-then-contours-lt-MANY_CONTOURS-clause-rest g c = c.sweep_by_list.ensures.rest

pub returns-clause-rest : goal.returns-clause-rest
returns-clause-rest g c = c.sweep_by_tree.ensures.rest

pub returns-clause-memory : goal.returns-clause-memory
returns-clause-memory g c = grind (arith, common_steps)
