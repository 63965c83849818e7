use Rattle.plane_base.proofs.Facts.Maps.LinearSums.{linear_sum_normal, passing_sum_normal}
use Rattle.plane_base.proofs.laws.sums_pass_joining.Goals as goal

pub returns-clause-linear : goal.returns-clause-linear
returns-clause-linear g c = λ kind n additive. linear_sum_normal additive

pub returns-clause-passing : goal.returns-clause-passing
returns-clause-passing g c = λ kind n additive. passing_sum_normal additive
