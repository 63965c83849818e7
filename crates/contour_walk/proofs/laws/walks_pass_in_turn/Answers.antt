use Rattle.contour_walk.proofs.Walks.Least.{walks_pass}
use Rattle.contour_walk.proofs.laws.walks_pass_in_turn.Goals as goal

pub returns : goal.returns
returns c = walks_pass c.points_have_rings.ensures c.node_ring.ensures
