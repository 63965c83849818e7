use Rattle.contour_walk.proofs.Cutting.Winds.{two_points_wind_nothing}
use Rattle.contour_walk.proofs.laws.loops.two_points_wind_nothing.Goals as goal

pub returns : goal.returns
returns c = two_points_wind_nothing
