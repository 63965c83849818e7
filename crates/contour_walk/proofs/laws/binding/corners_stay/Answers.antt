use Rattle.contour_walk.proofs.Straight.Cycles.{corners_stay}
use Rattle.contour_walk.proofs.laws.binding.corners_stay.Goals as goal

pub returns : goal.returns
returns c = corners_stay
