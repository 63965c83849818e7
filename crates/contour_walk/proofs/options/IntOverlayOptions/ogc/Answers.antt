use Rattle.std.proofs.Common.{ap, true}
use Rattle.contour_walk.specs.declared.options.IntOverlayOptions.{IntOverlayOptions}
use Rattle.contour_walk.proofs.options.IntOverlayOptions.ogc.Goals as goal

pub returns : goal.returns
returns c =
    ap (λ (o : IntOverlayOptions). record { preserve_input_collinear = o.preserve_input_collinear; output_direction = o.output_direction; preserve_output_collinear = o.preserve_output_collinear; min_output_area = o.min_output_area; ogc = true }) c.default.ensures
