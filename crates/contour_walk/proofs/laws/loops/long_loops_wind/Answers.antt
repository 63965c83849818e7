use Rattle.contour_walk.proofs.Cutting.Winds.{long_loops_wind}
use Rattle.contour_walk.proofs.laws.loops.long_loops_wind.Goals as goal

pub returns : goal.returns
returns c = long_loops_wind
