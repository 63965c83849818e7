use Rattle.std.proofs.Common.{arith}
use Rattle.std.proofs.lemmas.Grind.{common_steps}
use Rattle.contour_walk.proofs.walk.spoke.spoke_at.Goals as goal

pub bounds-states-place : goal.bounds-states-place
bounds-states-place g c = grind (arith, common_steps)

pub returns-then-not-is_left-clause-is : goal.returns-then-not-is_left-clause-is
returns-then-not-is_left-clause-is g c = grind (arith, common_steps)

pub offset_bounds-links-place : goal.offset_bounds-links-place
offset_bounds-links-place g c = grind (arith, common_steps)

pub bounds-links-place : goal.bounds-links-place
bounds-links-place g c = grind (arith, common_steps)

pub spoke_from-requires : goal.spoke_from-requires
spoke_from-requires g c = grind (arith, common_steps)

pub returns-then-starts-clause-is : goal.returns-then-starts-clause-is
returns-then-starts-clause-is g c = grind (arith, common_steps)

pub returns-then-starts-clause-in_range : goal.returns-then-starts-clause-in_range
returns-then-starts-clause-in_range g c = grind (arith, common_steps)

pub spoke_from-requires-2 : goal.spoke_from-requires-2
spoke_from-requires-2 g c = grind (arith, common_steps)

pub returns-clause-is : goal.returns-clause-is
returns-clause-is g c = grind (arith, common_steps)

pub returns-clause-in_range : goal.returns-clause-in_range
returns-clause-in_range g c = grind (arith, common_steps)
