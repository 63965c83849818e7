use Rattle.std.proofs.Common.{◌∙◌, refl, w64}
use Rattle.std.proofs.lemmas.Int.{to_z-of_z}
use Rattle.plane_base.proofs.Facts.Numbers.Kernels64.{way_read}
use Rattle.plane_base.proofs.int.I16OverlayInt.inner_product.Goals as goal

pub inner_product-requires-clause-x_fits : goal.inner_product-requires-clause-x_fits
inner_product-requires-clause-x_fits c = way_read c.args.x c.requires.x_fits

pub inner_product-requires-clause-y_fits : goal.inner_product-requires-clause-y_fits
inner_product-requires-clause-y_fits c = way_read c.args.y c.requires.y_fits

pub inner_product-requires-clause-other_x_fits : goal.inner_product-requires-clause-other_x_fits
inner_product-requires-clause-other_x_fits c = way_read c.args.other_x c.requires.other_x_fits

pub inner_product-requires-clause-other_y_fits : goal.inner_product-requires-clause-other_y_fits
inner_product-requires-clause-other_y_fits c = way_read c.args.other_y c.requires.other_y_fits

pub returns-clause-is : goal.returns-clause-is
returns-clause-is c =
    to_z-of_z w64 c.inner_product.result (record { sfits = c.inner_product.type_inv })
    ∙ (c.inner_product.ensures.is
    ∙ rw (to_z-of_z w64 c.args.x c.ranges.x, to_z-of_z w64 c.args.y c.ranges.y, to_z-of_z w64 c.args.other_x c.ranges.other_x, to_z-of_z w64 c.args.other_y c.ranges.other_y) refl)

pub returns-clause-fits : goal.returns-clause-fits
returns-clause-fits c = rw (to_z-of_z w64 c.inner_product.result (record { sfits = c.inner_product.type_inv })) (c.inner_product.ensures.above, c.inner_product.ensures.below)
