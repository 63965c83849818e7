use Rattle.contour_walk.proofs.vector.along.place_near.Goals as goal

pub returns-in_default-clause-within : goal.returns-in_default-clause-within
returns-in_default-clause-within g c = c.place_of_link.ensures.within

pub returns-in_default-clause-is : goal.returns-in_default-clause-is
returns-in_default-clause-is g c = c.place_of_link.ensures.is

pub returns-clause-within : goal.returns-clause-within
returns-clause-within g c = c.in-Some.ensures.within

pub returns-clause-is : goal.returns-clause-is
returns-clause-is g c = c.in-Some.ensures.is
