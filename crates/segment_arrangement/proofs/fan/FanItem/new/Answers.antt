use Rattle.std.proofs.Common.{arith}
use Rattle.std.proofs.lemmas.Grind.{common_steps}
use Rattle.segment_arrangement.proofs.fan.FanItem.new.Goals as goal

pub difference-requires-clause-b_in_range : goal.difference-requires-clause-b_in_range
difference-requires-clause-b_in_range g c = grind (arith, common_steps)

pub difference-requires-clause-a_in_range : goal.difference-requires-clause-a_in_range
difference-requires-clause-a_in_range g c = grind (arith, common_steps)

pub difference-requires-2-clause-b_in_range : goal.difference-requires-2-clause-b_in_range
difference-requires-2-clause-b_in_range g c = grind (arith, common_steps)

pub difference-requires-2-clause-a_in_range : goal.difference-requires-2-clause-a_in_range
difference-requires-2-clause-a_in_range g c = grind (arith, common_steps)

pub returns-clause-index : goal.returns-clause-index
returns-clause-index g c = grind (arith, common_steps)

pub returns-clause-width : goal.returns-clause-width
returns-clause-width g c = grind (arith, common_steps)

pub returns-clause-climb : goal.returns-clause-climb
returns-clause-climb g c = grind (arith, common_steps)
