use Rattle.contour_walk.proofs.Cutting.Winds.{loops_keep_steps}
use Rattle.contour_walk.proofs.laws.loops.loops_keep_steps.Goals as goal

pub returns : goal.returns
returns c = loops_keep_steps
