use Rattle.contour_walk.proofs.Walks.Nodes.{all_are_walked}
use Rattle.contour_walk.proofs.laws.all_are_walked.Goals as goal

pub returns : goal.returns
returns c = all_are_walked c.points_have_rings.ensures c.node_ring.ensures
