use Rattle.contour_walk.proofs.bind.below.ends_beyond.Goals as goal

pub returns : goal.returns
returns g c = c.is_less.ensures
