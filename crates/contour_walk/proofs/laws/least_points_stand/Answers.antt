use Rattle.contour_walk.proofs.Walks.Least.{least_points_stand}
use Rattle.contour_walk.proofs.laws.least_points_stand.Goals as goal

pub returns : goal.returns
returns c = least_points_stand c.points_have_rings.ensures c.node_ring.ensures
