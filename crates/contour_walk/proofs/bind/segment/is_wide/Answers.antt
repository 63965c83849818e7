use Rattle.contour_walk.proofs.bind.segment.is_wide.Goals as goal

pub returns : goal.returns
returns g c = c.is_less.ensures
