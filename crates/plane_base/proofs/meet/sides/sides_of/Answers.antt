use Rattle.plane_base.proofs.meet.sides.sides_of.Goals as goal

pub turn_of-requires-clause-a_in_range : goal.turn_of-requires-clause-a_in_range
turn_of-requires-clause-a_in_range g c = c.requires.s_in_range.0

pub turn_of-requires-clause-b_in_range : goal.turn_of-requires-clause-b_in_range
turn_of-requires-clause-b_in_range g c = c.requires.s_in_range.1

pub turn_of-requires-clause-c_in_range : goal.turn_of-requires-clause-c_in_range
turn_of-requires-clause-c_in_range g c = c.requires.t_in_range.0

pub turn_of-requires-2-clause-a_in_range : goal.turn_of-requires-2-clause-a_in_range
turn_of-requires-2-clause-a_in_range g c = c.requires.s_in_range.0

pub turn_of-requires-2-clause-b_in_range : goal.turn_of-requires-2-clause-b_in_range
turn_of-requires-2-clause-b_in_range g c = c.requires.s_in_range.1

pub turn_of-requires-2-clause-c_in_range : goal.turn_of-requires-2-clause-c_in_range
turn_of-requires-2-clause-c_in_range g c = c.requires.t_in_range.1

pub returns : goal.returns
returns g c = record {
  a = (c.turn_of.ensures.is, c.turn_of.ensures.fits);
  b = (c.turn_of-2.ensures.is, c.turn_of-2.ensures.fits);
}
