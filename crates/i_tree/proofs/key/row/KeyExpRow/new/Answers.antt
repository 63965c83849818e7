use Rattle.std.proofs.Common.{refl}
use Rattle.std.proofs.lemmas.Result.{err_from_is_err_and}
use Rattle.i_tree.proofs.key.row.KeyExpRow.new.Goals as goal

pub returns : goal.returns
returns g c = rw c.in_ok-with_capacity.ensures.items refl

pub returns-in_err-with_capacity : goal.returns-in_err-with_capacity
returns-in_err-with_capacity g c = rw ((err_from_is_err_and c.from_residual.result c.from_residual.ensures.1).1) tt
