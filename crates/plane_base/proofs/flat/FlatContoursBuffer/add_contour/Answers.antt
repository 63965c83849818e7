use Rattle.std.proofs.lemmas.Result.{err_from_is_err_and}
use Rattle.plane_base.proofs.flat.FlatContoursBuffer.add_contour.Goals as goal

pub returns-in_err-extend_from_slice-clause-points : goal.returns-in_err-extend_from_slice-clause-points
returns-in_err-extend_from_slice-clause-points g c = rw ((err_from_is_err_and c.from_residual.result c.from_residual.ensures.1).1) tt

pub returns-in_err-extend_from_slice-clause-ranges : goal.returns-in_err-extend_from_slice-clause-ranges
returns-in_err-extend_from_slice-clause-ranges g c = rw ((err_from_is_err_and c.from_residual.result c.from_residual.ensures.1).1) tt
