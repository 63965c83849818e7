use Rattle.plane_base.proofs.Facts.Points.OneLine.{on_one_line}
use Rattle.plane_base.proofs.laws.steps_on_one_line_add_up.Goals as goal

pub returns : goal.returns
returns c = on_one_line
