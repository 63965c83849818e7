use Rattle.contour_walk.proofs.Straight.Laws.{straight_points_dont_wind}
use Rattle.contour_walk.proofs.laws.binding.straight_points_dont_wind.Goals as goal

pub returns : goal.returns
returns c = straight_points_dont_wind
