use Rattle.std.proofs.lemmas.Result.{err_from_is_err_and}
use Rattle.reference.proofs.passes.lay_path.Goals as goal

pub returns-in_err-lay_step : goal.returns-in_err-lay_step
returns-in_err-lay_step g c = rw ((err_from_is_err_and c.from_residual.result c.from_residual.ensures.1).1) tt
