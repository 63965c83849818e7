use Rattle.plane_base.proofs.Facts.Maps.Balance.{test_function_sum, column_sum_zero}
use Rattle.plane_base.proofs.laws.columns_sum_to_zero.Goals as goal

pub returns : goal.returns
returns g c = λ n x es directed balanced. column_sum_zero n x es directed (test_function_sum n es balanced)
