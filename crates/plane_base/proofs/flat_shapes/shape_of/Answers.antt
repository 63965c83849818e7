use Rattle.std.proofs.lemmas.Result.{err_from_is_err_and}
use Rattle.plane_base.specs.Flat.{part}
use Rattle.plane_base.proofs.Facts.Lists.Parts.{more_parts}
use Rattle.plane_base.proofs.flat_shapes.shape_of.Goals as goal

pub returns-in_err-contours-clause-contours : goal.returns-in_err-contours-clause-contours
returns-in_err-contours-clause-contours g c = rw ((err_from_is_err_and c.from_residual.result c.from_residual.ensures.1).1) tt

pub returns-in_err-path_of-clause-contours : goal.returns-in_err-path_of-clause-contours
returns-in_err-path_of-clause-contours g c = rw ((err_from_is_err_and c.from_residual-in_err-path_of.result c.from_residual-in_err-path_of.ensures.1).1) tt

pub returns-in_err-push-clause-contours : goal.returns-in_err-push-clause-contours
returns-in_err-push-clause-contours g c = rw ((err_from_is_err_and c.from_residual-in_err-push.result c.from_residual-in_err-push.ensures.1).1) tt

pub slice_bounds-path_of-count : goal.slice_bounds-path_of-count
slice_bounds-path_of-count g c = (c.requires c.loop-range.range-index (record { start = 0; end = 0 }) c.loop-range-test.true).0

pub slice_bounds-path_of-start : goal.slice_bounds-path_of-start
slice_bounds-path_of-start g c = (c.requires c.loop-range.range-index (record { start = 0; end = 0 }) c.loop-range-test.true).0

pub slice_bounds-path_of-end : goal.slice_bounds-path_of-end
slice_bounds-path_of-end g c = (c.requires c.loop-range.range-index (record { start = 0; end = 0 }) c.loop-range-test.true).1

pub loop-range-preserved : goal.loop-range-preserved
loop-range-preserved g c =
    more_parts c.loop-range.contours.items c.push.new.self.items c.in_ok-path_of.field-0 (λ p. p.points.items) c.args.ranges.now (part c.args.points.now) c.loop-range.range-index (record { start = 0; end = 0 }) c.loop-range-test.true c.in_ok-push.ensures.items c.in_ok-path_of.ensures.points c.loop-range.invariant
