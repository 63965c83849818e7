use Rattle.std.proofs.lemmas.Result.{err_from_is_err_and}
use Rattle.contour_walk.proofs.walk.build_rings.rings_of.Goals as goal

pub returns-in_err-add_if_many-clause-rings : goal.returns-in_err-add_if_many-clause-rings
returns-in_err-add_if_many-clause-rings g c = rw ((err_from_is_err_and c.from_residual.result c.from_residual.ensures.1).1) tt
