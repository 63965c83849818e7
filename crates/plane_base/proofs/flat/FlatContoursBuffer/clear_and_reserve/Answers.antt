use Rattle.std.proofs.lemmas.Result.{err_from_is_err_and}
use Rattle.plane_base.proofs.flat.FlatContoursBuffer.clear_and_reserve.Goals as goal

pub returns-in_err-reserve-clause-room_for_points : goal.returns-in_err-reserve-clause-room_for_points
returns-in_err-reserve-clause-room_for_points g c = rw ((err_from_is_err_and c.from_residual.result c.from_residual.ensures.1).1) tt

pub returns-in_err-reserve-clause-room_for_contours : goal.returns-in_err-reserve-clause-room_for_contours
returns-in_err-reserve-clause-room_for_contours g c = rw ((err_from_is_err_and c.from_residual.result c.from_residual.ensures.1).1) tt

pub returns-in_err-reserve-2-clause-room_for_points : goal.returns-in_err-reserve-2-clause-room_for_points
returns-in_err-reserve-2-clause-room_for_points g c = rw ((err_from_is_err_and c.from_residual-in_err-reserve-2.result c.from_residual-in_err-reserve-2.ensures.1).1) tt

pub returns-in_err-reserve-2-clause-room_for_contours : goal.returns-in_err-reserve-2-clause-room_for_contours
returns-in_err-reserve-2-clause-room_for_contours g c = rw ((err_from_is_err_and c.from_residual-in_err-reserve-2.result c.from_residual-in_err-reserve-2.ensures.1).1) tt
