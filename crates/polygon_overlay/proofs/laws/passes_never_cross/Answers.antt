use Rattle.polygon_overlay.proofs.Nesting.PassLaws.{passes_never_cross}
use Rattle.polygon_overlay.proofs.laws.passes_never_cross.Goals as goal

pub returns : goal.returns
returns c = passes_never_cross c.points_have_rings.ensures c.node_ring.ensures
