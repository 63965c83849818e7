use Rattle.plane_base.proofs.Facts.Maps.Balance.{test_function_sum, balanced_at_each}
use Rattle.plane_base.proofs.laws.balance_is_for_every_function.Goals as goal

pub returns : goal.returns
returns g c = λ n es. (test_function_sum n es, balanced_at_each n es)
