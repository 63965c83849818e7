use Rattle.contour_walk.proofs.Cutting.Points.{loops_repeat_no_point}
use Rattle.contour_walk.proofs.laws.loops.loops_repeat_no_point.Goals as goal

pub returns : goal.returns
returns c = loops_repeat_no_point
