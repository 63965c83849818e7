use Rattle.i_tree.proofs.Keys.Places.{IsMonotone-order}
use Rattle.i_tree.proofs.laws.orders_are_monotone.Goals as goal

pub returns : goal.returns
returns g c = λ order key entries rising lawful. IsMonotone-order order key entries rising lawful
