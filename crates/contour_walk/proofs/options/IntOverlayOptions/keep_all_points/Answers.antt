use Rattle.std.proofs.Common.{ap, true}
use Rattle.contour_walk.specs.declared.options.IntOverlayOptions.{IntOverlayOptions}
use Rattle.contour_walk.proofs.options.IntOverlayOptions.keep_all_points.Goals as goal

pub returns : goal.returns
returns c =
    ap (λ (o : IntOverlayOptions). record { preserve_input_collinear = true; output_direction = o.output_direction; preserve_output_collinear = true; min_output_area = o.min_output_area; ogc = o.ogc }) c.default.ensures
