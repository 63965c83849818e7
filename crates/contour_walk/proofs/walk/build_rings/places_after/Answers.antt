use Rattle.std.proofs.lemmas.Result.{err_from_is_err_and}
use Rattle.contour_walk.proofs.walk.build_rings.places_after.Goals as goal

pub returns-in_err-push-clause-length : goal.returns-in_err-push-clause-length
returns-in_err-push-clause-length c = rw ((err_from_is_err_and c.from_residual.result c.from_residual.ensures.1).1) tt

pub returns-in_err-push-clause-each : goal.returns-in_err-push-clause-each
returns-in_err-push-clause-each c = rw ((err_from_is_err_and c.from_residual.result c.from_residual.ensures.1).1) tt
