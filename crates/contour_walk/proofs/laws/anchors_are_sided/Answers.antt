use Rattle.contour_walk.proofs.Walks.Anchors.{anchors_are_sided}
use Rattle.contour_walk.proofs.laws.anchors_are_sided.Goals as goal

pub returns : goal.returns
returns c = anchors_are_sided c.points_have_rings.ensures c.node_ring.ensures
