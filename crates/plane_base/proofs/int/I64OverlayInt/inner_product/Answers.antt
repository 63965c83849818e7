use Rattle.std.proofs.Common.{◌∙◌, refl}
use Rattle.std.specs.Int.{w128}
use Rattle.std.proofs.lemmas.Int.{to_z-of_z}
use Rattle.plane_base.proofs.Facts.Numbers.Kernels128.{widened, way_widened}
use Rattle.plane_base.proofs.int.I64OverlayInt.inner_product.Goals as goal

pub inner_product-requires-clause-x_fits : goal.inner_product-requires-clause-x_fits
inner_product-requires-clause-x_fits c = way_widened c.from.result c.args.x c.ranges.x c.from.ensures c.requires.x_fits

pub inner_product-requires-clause-y_fits : goal.inner_product-requires-clause-y_fits
inner_product-requires-clause-y_fits c = way_widened c.from-2.result c.args.y c.ranges.y c.from-2.ensures c.requires.y_fits

pub inner_product-requires-clause-other_x_fits : goal.inner_product-requires-clause-other_x_fits
inner_product-requires-clause-other_x_fits c = way_widened c.from-3.result c.args.other_x c.ranges.other_x c.from-3.ensures c.requires.other_x_fits

pub inner_product-requires-clause-other_y_fits : goal.inner_product-requires-clause-other_y_fits
inner_product-requires-clause-other_y_fits c = way_widened c.from-4.result c.args.other_y c.ranges.other_y c.from-4.ensures c.requires.other_y_fits

pub returns-clause-is : goal.returns-clause-is
returns-clause-is c =
    to_z-of_z w128 c.inner_product.result (record { sfits = c.inner_product.type_inv })
    ∙ (c.inner_product.ensures.is
    ∙ rw (widened c.from.result c.args.x c.ranges.x c.from.ensures, widened c.from-2.result c.args.y c.ranges.y c.from-2.ensures, widened c.from-3.result c.args.other_x c.ranges.other_x c.from-3.ensures, widened c.from-4.result c.args.other_y c.ranges.other_y c.from-4.ensures) refl)

pub returns-clause-fits : goal.returns-clause-fits
returns-clause-fits c = rw (to_z-of_z w128 c.inner_product.result (record { sfits = c.inner_product.type_inv })) (c.inner_product.ensures.above, c.inner_product.ensures.below)
