use Rattle.std.proofs.lemmas.Result.{err_from_is_err_and}
use Rattle.reference.proofs.contours.keep_unless_passed.Goals as goal

pub returns-in_err-push-clause-is : goal.returns-in_err-push-clause-is
returns-in_err-push-clause-is g c = rw ((err_from_is_err_and c.from_residual.result c.from_residual.ensures.1).1) tt
