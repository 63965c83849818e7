use Rattle.std.proofs.Common.{arith}
use Rattle.i_tree.proofs.key.row.within.Goals as goal

pub returns-clause-from : goal.returns-clause-from
returns-clause-from g c = omega arith

pub returns-clause-end : goal.returns-clause-end
returns-clause-end g c = omega arith

pub returns-clause-order : goal.returns-clause-order
returns-clause-order g c = omega arith

pub returns-clause-within : goal.returns-clause-within
returns-clause-within g c = omega arith
