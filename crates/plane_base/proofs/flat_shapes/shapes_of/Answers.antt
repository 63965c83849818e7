use Rattle.std.proofs.lemmas.Result.{err_from_is_err_and}
use Rattle.plane_base.specs.Flat.{part, parts}
use Rattle.plane_base.specs.PathViews.{paths_of_shape}
use Rattle.plane_base.proofs.Facts.Lists.Parts.{more_groups}
use Rattle.plane_base.proofs.flat_shapes.shapes_of.Goals as goal

pub returns-in_err-shapes-clause-shapes : goal.returns-in_err-shapes-clause-shapes
returns-in_err-shapes-clause-shapes g c = rw ((err_from_is_err_and c.from_residual.result c.from_residual.ensures.1).1) tt

pub returns-in_err-shape_of-clause-shapes : goal.returns-in_err-shape_of-clause-shapes
returns-in_err-shape_of-clause-shapes g c = rw ((err_from_is_err_and c.from_residual-in_err-shape_of.result c.from_residual-in_err-shape_of.ensures.1).1) tt

pub returns-in_err-push-clause-shapes : goal.returns-in_err-push-clause-shapes
returns-in_err-push-clause-shapes g c = rw ((err_from_is_err_and c.from_residual-in_err-push.result c.from_residual-in_err-push.ensures.1).1) tt

pub slice_bounds-shape_of-count : goal.slice_bounds-shape_of-count
slice_bounds-shape_of-count g c = (c.requires.shapes c.loop-range.range-index (record { start = 0; end = 0 }) c.loop-range-test.true).0

pub slice_bounds-shape_of-start : goal.slice_bounds-shape_of-start
slice_bounds-shape_of-start g c = (c.requires.shapes c.loop-range.range-index (record { start = 0; end = 0 }) c.loop-range-test.true).0

pub slice_bounds-shape_of-end : goal.slice_bounds-shape_of-end
slice_bounds-shape_of-end g c = (c.requires.shapes c.loop-range.range-index (record { start = 0; end = 0 }) c.loop-range-test.true).1

pub loop-range-preserved : goal.loop-range-preserved
loop-range-preserved g c =
    more_groups c.loop-range.shapes.items c.push.new.self.items c.in_ok-shape_of.field-0 paths_of_shape c.args.ranges.now (parts c.args.points.now) (part c.args.contours.now) c.loop-range.range-index (record { start = 0; end = 0 }) c.loop-range-test.true c.in_ok-push.ensures.items c.in_ok-shape_of.ensures.contours c.loop-range.invariant
