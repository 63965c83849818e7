use Rattle.contour_walk.proofs.vector.along.place_among.Goals as goal

pub returns-then-is_along-clause-within : goal.returns-then-is_along-clause-within
returns-then-is_along-clause-within g c = c.is_along.ensures.within c.if-is_along.true

pub returns-then-is_along-clause-is : goal.returns-then-is_along-clause-is
returns-then-is_along-clause-is g c = c.is_along.ensures.is c.if-is_along.true
