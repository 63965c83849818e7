use Rattle.std.proofs.lemmas.Result.{err_from_is_err_and}
use Rattle.contour_walk.proofs.walk.sorting.add_way.Goals as goal

pub returns-in_err-push-clause-is : goal.returns-in_err-push-clause-is
returns-in_err-push-clause-is g c = rw ((err_from_is_err_and c.from_residual.result c.from_residual.ensures.1).1) tt
