use Rattle.plane_base.proofs.cross.strictly_inside.Goals as goal

pub turn_of-requires-clause-a_in_range : goal.turn_of-requires-clause-a_in_range
turn_of-requires-clause-a_in_range g c = c.requires.segment_in_range.0

pub turn_of-requires-clause-b_in_range : goal.turn_of-requires-clause-b_in_range
turn_of-requires-clause-b_in_range g c = c.requires.segment_in_range.1

pub turn_of-requires-clause-c_in_range : goal.turn_of-requires-clause-c_in_range
turn_of-requires-clause-c_in_range g c = c.requires.point_in_range

pub is_inside-requires : goal.is_inside-requires
is_inside-requires g c = c.turn_of.ensures.is

pub returns : goal.returns
returns g c = c.is_inside.ensures
