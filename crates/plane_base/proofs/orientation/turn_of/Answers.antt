use Rattle.std.proofs.Common.{◌∙◌, refl, w64}
use Rattle.std.proofs.lemmas.Int.{to_z-of_z}
use Rattle.plane_base.proofs.orientation.turn_of.Goals as goal

pub difference-requires-clause-b_in_range : goal.difference-requires-clause-b_in_range
difference-requires-clause-b_in_range g c = (c.requires.b_in_range.0, c.requires.b_in_range.1)

pub difference-requires-clause-a_in_range : goal.difference-requires-clause-a_in_range
difference-requires-clause-a_in_range g c = (c.requires.a_in_range.0, c.requires.a_in_range.1)

pub difference-requires-2-clause-b_in_range : goal.difference-requires-2-clause-b_in_range
difference-requires-2-clause-b_in_range g c = (c.requires.b_in_range.2, c.requires.b_in_range.3)

pub difference-requires-2-clause-a_in_range : goal.difference-requires-2-clause-a_in_range
difference-requires-2-clause-a_in_range g c = (c.requires.a_in_range.2, c.requires.a_in_range.3)

pub difference-requires-3-clause-b_in_range : goal.difference-requires-3-clause-b_in_range
difference-requires-3-clause-b_in_range g c = (c.requires.c_in_range.0, c.requires.c_in_range.1)

pub difference-requires-3-clause-a_in_range : goal.difference-requires-3-clause-a_in_range
difference-requires-3-clause-a_in_range g c = (c.requires.a_in_range.0, c.requires.a_in_range.1)

pub difference-requires-4-clause-b_in_range : goal.difference-requires-4-clause-b_in_range
difference-requires-4-clause-b_in_range g c = (c.requires.c_in_range.2, c.requires.c_in_range.3)

pub difference-requires-4-clause-a_in_range : goal.difference-requires-4-clause-a_in_range
difference-requires-4-clause-a_in_range g c = (c.requires.a_in_range.2, c.requires.a_in_range.3)

pub cross_product-requires-clause-x_fits : goal.cross_product-requires-clause-x_fits
cross_product-requires-clause-x_fits g c = rw (to_z-of_z w64 c.difference.result (record { sfits = c.difference.type_inv })) c.difference.ensures.fits

pub cross_product-requires-clause-y_fits : goal.cross_product-requires-clause-y_fits
cross_product-requires-clause-y_fits g c = rw (to_z-of_z w64 c.difference-2.result (record { sfits = c.difference-2.type_inv })) c.difference-2.ensures.fits

pub cross_product-requires-clause-other_x_fits : goal.cross_product-requires-clause-other_x_fits
cross_product-requires-clause-other_x_fits g c = rw (to_z-of_z w64 c.difference-3.result (record { sfits = c.difference-3.type_inv })) c.difference-3.ensures.fits

pub cross_product-requires-clause-other_y_fits : goal.cross_product-requires-clause-other_y_fits
cross_product-requires-clause-other_y_fits g c = rw (to_z-of_z w64 c.difference-4.result (record { sfits = c.difference-4.type_inv })) c.difference-4.ensures.fits

pub returns-clause-is : goal.returns-clause-is
returns-clause-is g c =
    c.cross_product.ensures.is
    ∙ rw (to_z-of_z w64 c.difference.result (record { sfits = c.difference.type_inv }), c.difference.ensures.is, to_z-of_z w64 c.difference-2.result (record { sfits = c.difference-2.type_inv }), c.difference-2.ensures.is, to_z-of_z w64 c.difference-3.result (record { sfits = c.difference-3.type_inv }), c.difference-3.ensures.is, to_z-of_z w64 c.difference-4.result (record { sfits = c.difference-4.type_inv }), c.difference-4.ensures.is) refl

pub returns-clause-fits : goal.returns-clause-fits
returns-clause-fits g c = c.cross_product.ensures.fits
