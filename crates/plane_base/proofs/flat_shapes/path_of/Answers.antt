use Rattle.std.proofs.lemmas.Result.{err_from_is_err_and}
use Rattle.std.proofs.lemmas.Iterator.{YieldsList-from_slice, items_from_collect}
use Rattle.std.proofs.lemmas.Iterator.Consumers.{YieldsList-from_copied}
use Rattle.plane_base.proofs.flat_shapes.path_of.Goals as goal

pub returns-in_err-collect-clause-points : goal.returns-in_err-collect-clause-points
returns-in_err-collect-clause-points g c = rw ((err_from_is_err_and c.from_residual.result c.from_residual.ensures.1).1) tt

pub returns-clause-points : goal.returns-clause-points
returns-clause-points g c =
    rw c.in_ok-collect.was at (items_from_collect c.collect.result c.collect.ensures.ran (YieldsList-from_copied (YieldsList-from_slice c.args.points.now cc)))
