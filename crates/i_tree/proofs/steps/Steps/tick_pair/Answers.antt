use Rattle.std.proofs.Common.{arith}
use Rattle.i_tree.proofs.steps.Steps.tick_pair.Goals as goal

pub returns-clause-comparisons : goal.returns-clause-comparisons
returns-clause-comparisons g c = rw (← c.self.view_is) (omega arith)

pub returns-clause-pairs : goal.returns-clause-pairs
returns-clause-pairs g c = rw (← c.self.view_is) (omega arith)
