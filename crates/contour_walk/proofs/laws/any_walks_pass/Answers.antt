use Rattle.contour_walk.proofs.Walks.Nodes.{walks_of_any_turns_pass}
use Rattle.contour_walk.proofs.laws.any_walks_pass.Goals as goal

pub returns : goal.returns
returns c = walks_of_any_turns_pass c.points_have_rings.ensures c.node_ring.ensures
