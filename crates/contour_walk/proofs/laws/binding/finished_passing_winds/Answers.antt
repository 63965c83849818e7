use Rattle.contour_walk.proofs.Binding.Walks.{finished_passing_winds}
use Rattle.contour_walk.proofs.laws.binding.finished_passing_winds.Goals as goal

pub returns : goal.returns
returns c = finished_passing_winds c.passing_winds.ensures
