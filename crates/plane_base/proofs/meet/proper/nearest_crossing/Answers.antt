use Rattle.std.proofs.Common.{ap, ap₂, ◌∙◌}
use Rattle.plane_base.proofs.meet.proper.nearest_crossing.Goals as goal

pub nearest_coordinate-requires-clause-a_in_range : goal.nearest_coordinate-requires-clause-a_in_range
nearest_coordinate-requires-clause-a_in_range g c = (c.requires.in_range.0.0, c.requires.in_range.0.1)

pub nearest_coordinate-requires-clause-b_in_range : goal.nearest_coordinate-requires-clause-b_in_range
nearest_coordinate-requires-clause-b_in_range g c = (c.requires.in_range.1.0, c.requires.in_range.1.1)

pub nearest_coordinate-requires-clause-u_fits : goal.nearest_coordinate-requires-clause-u_fits
nearest_coordinate-requires-clause-u_fits g c = c.requires.u_fits

pub nearest_coordinate-requires-clause-v_fits : goal.nearest_coordinate-requires-clause-v_fits
nearest_coordinate-requires-clause-v_fits g c = c.requires.v_fits

pub nearest_coordinate-requires-2-clause-a_in_range : goal.nearest_coordinate-requires-2-clause-a_in_range
nearest_coordinate-requires-2-clause-a_in_range g c = (c.requires.in_range.0.2, c.requires.in_range.0.3)

pub nearest_coordinate-requires-2-clause-b_in_range : goal.nearest_coordinate-requires-2-clause-b_in_range
nearest_coordinate-requires-2-clause-b_in_range g c = (c.requires.in_range.1.2, c.requires.in_range.1.3)

pub nearest_coordinate-requires-2-clause-u_fits : goal.nearest_coordinate-requires-2-clause-u_fits
nearest_coordinate-requires-2-clause-u_fits g c = c.requires.u_fits

pub nearest_coordinate-requires-2-clause-v_fits : goal.nearest_coordinate-requires-2-clause-v_fits
nearest_coordinate-requires-2-clause-v_fits g c = c.requires.v_fits

pub returns-clause-is : goal.returns-clause-is
returns-clause-is g c =
    let value = g.I.OverlayInt.value in
    ap₂ (λ x y. record { x = x; y = y }) (ap value c.new.ensures.x ∙ c.nearest_coordinate.ensures.is) (ap value c.new.ensures.y ∙ c.nearest_coordinate-2.ensures.is)

pub returns-clause-within : goal.returns-clause-within
returns-clause-within g c =
    rw (c.new.ensures.x, c.new.ensures.y) (c.nearest_coordinate.ensures.within.0, c.nearest_coordinate.ensures.within.1, c.nearest_coordinate-2.ensures.within.0, c.nearest_coordinate-2.ensures.within.1)
