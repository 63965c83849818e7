use Rattle.std.proofs.Common.{◌++◌, ap, ◌∙◌, append-nil}
use Rattle.std.proofs.lemmas.Result.{err_from_is_err_and}
use Rattle.polybool.proofs.piece.Piece.send.Goals as goal

pub returns-in_err-write_whole-clause-empty : goal.returns-in_err-write_whole-clause-empty
returns-in_err-write_whole-clause-empty g c = rw ((err_from_is_err_and c.from_residual.result c.from_residual.ensures.1).1) tt

pub returns-in_err-write_whole-clause-lays : goal.returns-in_err-write_whole-clause-lays
returns-in_err-write_whole-clause-lays g c =
    let p = err_from_is_err_and c.from_residual.result c.from_residual.ensures.1 in
    let s = c.in_err-write_whole.ensures in
    rw p.1 (record { sent = s.0; unsent = s.1; whole = append-nil _ ∙ s.2; went = s.3; left = s.4 })

pub returns-clause-lays : goal.returns-clause-lays
returns-clause-lays g c =
    let s = c.in_ok-write_whole.ensures in
    record { sent = s.0; whole = append-nil _ ∙ s.2 ∙ ap (λ u. s.0 ++ u) s.4; went = s.3 }
