use Rattle.std.proofs.Common.{◌≡◌, pos, ◌-ℤ◌, ◌≤ℤ◌, w64, FitsSigned, refl, ◌∙◌, arith}
use Rattle.std.proofs.lemmas.Int.{ints, to_z-of_z}
use Rattle.plane_base.specs.Segments.{squared_distance}
use Rattle.plane_base.specs.Plane.{Point}
use Rattle.plane_base.specs.Views.{point_of}
use Rattle.plane_base.proofs.Facts.Numbers.Products.{square_not_negative}
use Rattle.plane_base.proofs.distance.squared_distance.Goals as goal
use Rattle.plane_base.proofs.distance.squared_distance.Given.{Over}
use Rattle.plane_base.proofs.distance.squared_distance.Goals.{After-inner_product}

-- a sum of squares
not_below : (a b : Point) → pos 0 ≤ℤ squared_distance a b
not_below a b = omega (arith, ints, square_not_negative (b.x -ℤ a.x), square_not_negative (b.y -ℤ a.y))

first_fits : (g : Over) (c : After-inner_product g) → FitsSigned w64 c.difference-x.result
first_fits g c = record { sfits = c.difference-x.type_inv }

second_fits : (g : Over) (c : After-inner_product g) → FitsSigned w64 c.difference-y.result
second_fits g c = record { sfits = c.difference-y.type_inv }

whole : (g : Over) (c : After-inner_product g) → g.I.Wide.WideIntNumber.number c.inner_product.result ≡ squared_distance (point_of g.I.OverlayInt.value c.args.a) (point_of g.I.OverlayInt.value c.args.b)
whole g c =
    c.inner_product.ensures.is
    ∙ rw (to_z-of_z w64 c.difference-x.result (first_fits g c), to_z-of_z w64 c.difference-y.result (second_fits g c), c.difference-x.ensures.is, c.difference-y.ensures.is) refl

pub returns-clause-is : goal.returns-clause-is
returns-clause-is g c = whole g c

pub returns-clause-not_negative : goal.returns-clause-not_negative
returns-clause-not_negative g c = rw (whole g c) (not_below (point_of g.I.OverlayInt.value c.args.a) (point_of g.I.OverlayInt.value c.args.b))

pub difference-x-requires-clause-b_in_range : goal.difference-x-requires-clause-b_in_range
difference-x-requires-clause-b_in_range g c = (c.requires.b_in_range.0, c.requires.b_in_range.1)

pub difference-x-requires-clause-a_in_range : goal.difference-x-requires-clause-a_in_range
difference-x-requires-clause-a_in_range g c = (c.requires.a_in_range.0, c.requires.a_in_range.1)

pub difference-y-requires-clause-b_in_range : goal.difference-y-requires-clause-b_in_range
difference-y-requires-clause-b_in_range g c = (c.requires.b_in_range.2, c.requires.b_in_range.3)

pub difference-y-requires-clause-a_in_range : goal.difference-y-requires-clause-a_in_range
difference-y-requires-clause-a_in_range g c = (c.requires.a_in_range.2, c.requires.a_in_range.3)

pub inner_product-requires-clause-x_fits : goal.inner_product-requires-clause-x_fits
inner_product-requires-clause-x_fits g c = rw (to_z-of_z w64 c.difference-x.result (record { sfits = c.difference-x.type_inv })) c.difference-x.ensures.fits

pub inner_product-requires-clause-y_fits : goal.inner_product-requires-clause-y_fits
inner_product-requires-clause-y_fits g c = rw (to_z-of_z w64 c.difference-y.result (record { sfits = c.difference-y.type_inv })) c.difference-y.ensures.fits

pub inner_product-requires-clause-other_x_fits : goal.inner_product-requires-clause-other_x_fits
inner_product-requires-clause-other_x_fits g c = rw (to_z-of_z w64 c.difference-x.result (record { sfits = c.difference-x.type_inv })) c.difference-x.ensures.fits

pub inner_product-requires-clause-other_y_fits : goal.inner_product-requires-clause-other_y_fits
inner_product-requires-clause-other_y_fits g c = rw (to_z-of_z w64 c.difference-y.result (record { sfits = c.difference-y.type_inv })) c.difference-y.ensures.fits
