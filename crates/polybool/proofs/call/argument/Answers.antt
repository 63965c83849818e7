use Rattle.std.proofs.Common.{arith}
use Rattle.std.proofs.lemmas.Result.{err_from_is_err_and}
use Rattle.std.proofs.lemmas.List.{length-take-le}
use Rattle.polybool.proofs.CallLaws.{fault_read}
use Rattle.polybool.proofs.call.argument.Goals as goal

pub returns-in_err-length : goal.returns-in_err-length
returns-in_err-length g c = λ all is.
    let p = err_from_is_err_and c.from_residual.result c.from_residual.ensures.1 in
    rw (p.1, p.2) (fault_read _ _ _ (omega arith) (c.in_err-length.ensures.told all is))

pub returns-in-Ok : goal.returns-in-Ok
returns-in-Ok g c = λ all is.
    let fits = c.in_ok-length.ensures.bound in
    rw c.in-Ok.ensures.cases.0 (c.in_ok-length.ensures.told all is, (omega (arith, length-take-le _ _ fits, fits), c.in-Ok.ensures.cases.1))

pub returns-in-Err : goal.returns-in-Err
returns-in-Err g c = λ all is. (_, c.in_ok-length.ensures.told all is, λ readable. c.in-Err.ensures.cases.0 readable.1)
