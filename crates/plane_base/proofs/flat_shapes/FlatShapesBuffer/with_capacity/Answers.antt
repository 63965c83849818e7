use Rattle.std.proofs.lemmas.Result.{err_from_is_err_and}
use Rattle.plane_base.proofs.flat_shapes.FlatShapesBuffer.with_capacity.Goals as goal

pub returns-in_err-with_capacity-clause-points : goal.returns-in_err-with_capacity-clause-points
returns-in_err-with_capacity-clause-points g c = rw ((err_from_is_err_and c.from_residual.result c.from_residual.ensures.1).1) tt

pub returns-in_err-with_capacity-clause-contours : goal.returns-in_err-with_capacity-clause-contours
returns-in_err-with_capacity-clause-contours g c = rw ((err_from_is_err_and c.from_residual.result c.from_residual.ensures.1).1) tt

pub returns-in_err-with_capacity-clause-shapes : goal.returns-in_err-with_capacity-clause-shapes
returns-in_err-with_capacity-clause-shapes g c = rw ((err_from_is_err_and c.from_residual.result c.from_residual.ensures.1).1) tt

pub returns-in_err-with_capacity-clause-room_for_points : goal.returns-in_err-with_capacity-clause-room_for_points
returns-in_err-with_capacity-clause-room_for_points g c = rw ((err_from_is_err_and c.from_residual.result c.from_residual.ensures.1).1) tt

pub returns-in_err-with_capacity-clause-room_for_contours : goal.returns-in_err-with_capacity-clause-room_for_contours
returns-in_err-with_capacity-clause-room_for_contours g c = rw ((err_from_is_err_and c.from_residual.result c.from_residual.ensures.1).1) tt

pub returns-in_err-with_capacity-clause-room_for_shapes : goal.returns-in_err-with_capacity-clause-room_for_shapes
returns-in_err-with_capacity-clause-room_for_shapes g c = rw ((err_from_is_err_and c.from_residual.result c.from_residual.ensures.1).1) tt

pub returns-in_err-with_capacity-2-clause-points : goal.returns-in_err-with_capacity-2-clause-points
returns-in_err-with_capacity-2-clause-points g c = rw ((err_from_is_err_and c.from_residual-in_err-with_capacity-2.result c.from_residual-in_err-with_capacity-2.ensures.1).1) tt

pub returns-in_err-with_capacity-2-clause-contours : goal.returns-in_err-with_capacity-2-clause-contours
returns-in_err-with_capacity-2-clause-contours g c = rw ((err_from_is_err_and c.from_residual-in_err-with_capacity-2.result c.from_residual-in_err-with_capacity-2.ensures.1).1) tt

pub returns-in_err-with_capacity-2-clause-shapes : goal.returns-in_err-with_capacity-2-clause-shapes
returns-in_err-with_capacity-2-clause-shapes g c = rw ((err_from_is_err_and c.from_residual-in_err-with_capacity-2.result c.from_residual-in_err-with_capacity-2.ensures.1).1) tt

pub returns-in_err-with_capacity-2-clause-room_for_points : goal.returns-in_err-with_capacity-2-clause-room_for_points
returns-in_err-with_capacity-2-clause-room_for_points g c = rw ((err_from_is_err_and c.from_residual-in_err-with_capacity-2.result c.from_residual-in_err-with_capacity-2.ensures.1).1) tt

pub returns-in_err-with_capacity-2-clause-room_for_contours : goal.returns-in_err-with_capacity-2-clause-room_for_contours
returns-in_err-with_capacity-2-clause-room_for_contours g c = rw ((err_from_is_err_and c.from_residual-in_err-with_capacity-2.result c.from_residual-in_err-with_capacity-2.ensures.1).1) tt

pub returns-in_err-with_capacity-2-clause-room_for_shapes : goal.returns-in_err-with_capacity-2-clause-room_for_shapes
returns-in_err-with_capacity-2-clause-room_for_shapes g c = rw ((err_from_is_err_and c.from_residual-in_err-with_capacity-2.result c.from_residual-in_err-with_capacity-2.ensures.1).1) tt

pub returns-in_err-with_capacity-3-clause-points : goal.returns-in_err-with_capacity-3-clause-points
returns-in_err-with_capacity-3-clause-points g c = rw ((err_from_is_err_and c.from_residual-in_err-with_capacity-3.result c.from_residual-in_err-with_capacity-3.ensures.1).1) tt

pub returns-in_err-with_capacity-3-clause-contours : goal.returns-in_err-with_capacity-3-clause-contours
returns-in_err-with_capacity-3-clause-contours g c = rw ((err_from_is_err_and c.from_residual-in_err-with_capacity-3.result c.from_residual-in_err-with_capacity-3.ensures.1).1) tt

pub returns-in_err-with_capacity-3-clause-shapes : goal.returns-in_err-with_capacity-3-clause-shapes
returns-in_err-with_capacity-3-clause-shapes g c = rw ((err_from_is_err_and c.from_residual-in_err-with_capacity-3.result c.from_residual-in_err-with_capacity-3.ensures.1).1) tt

pub returns-in_err-with_capacity-3-clause-room_for_points : goal.returns-in_err-with_capacity-3-clause-room_for_points
returns-in_err-with_capacity-3-clause-room_for_points g c = rw ((err_from_is_err_and c.from_residual-in_err-with_capacity-3.result c.from_residual-in_err-with_capacity-3.ensures.1).1) tt

pub returns-in_err-with_capacity-3-clause-room_for_contours : goal.returns-in_err-with_capacity-3-clause-room_for_contours
returns-in_err-with_capacity-3-clause-room_for_contours g c = rw ((err_from_is_err_and c.from_residual-in_err-with_capacity-3.result c.from_residual-in_err-with_capacity-3.ensures.1).1) tt

pub returns-in_err-with_capacity-3-clause-room_for_shapes : goal.returns-in_err-with_capacity-3-clause-room_for_shapes
returns-in_err-with_capacity-3-clause-room_for_shapes g c = rw ((err_from_is_err_and c.from_residual-in_err-with_capacity-3.result c.from_residual-in_err-with_capacity-3.ensures.1).1) tt
