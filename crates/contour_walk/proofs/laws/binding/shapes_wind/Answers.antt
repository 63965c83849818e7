use Rattle.contour_walk.proofs.Binding.Walks.{shapes_wind}
use Rattle.contour_walk.proofs.laws.binding.shapes_wind.Goals as goal

pub returns : goal.returns
returns c = shapes_wind c.answer_has_all_walks.ensures c.finished_walks_wind.ensures
