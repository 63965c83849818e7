use Rattle.polygon_overlay.proofs.point_location.outline.outline_of.Goals as goal

pub returns-clause-outlined : goal.returns-clause-outlined
returns-clause-outlined g c = record { bounds = c.with_all-bounds.ensures.within; stretches = c.in_ok-stretches.ensures.are }
