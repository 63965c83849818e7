use Rattle.std.proofs.Common.{◌∙◌}
use Rattle.uses.proofs.queries.shape_counts.Goals as goal

pub returns-in_err-common-clause-options : goal.returns-in_err-common-clause-options
returns-in_err-common-clause-options g c = c.in_err-common.ensures.left.options ∙ c.in_ok-union.ensures.left.options

pub returns-in_err-common-clause-solver : goal.returns-in_err-common-clause-solver
returns-in_err-common-clause-solver g c = c.in_err-common.ensures.left.solver ∙ c.in_ok-union.ensures.left.solver

pub returns-clause-options : goal.returns-clause-options
returns-clause-options g c = c.in_ok-common.ensures.left.options ∙ c.in_ok-union.ensures.left.options

pub returns-clause-solver : goal.returns-clause-solver
returns-clause-solver g c = c.in_ok-common.ensures.left.solver ∙ c.in_ok-union.ensures.left.solver
