use Rattle.contour_walk.proofs.Binding.Walks.{finished_walks_wind}
use Rattle.contour_walk.proofs.laws.binding.finished_walks_wind.Goals as goal

pub returns : goal.returns
returns c = finished_walks_wind c.all_are_walked.ensures c.finished_passing_winds.ensures
