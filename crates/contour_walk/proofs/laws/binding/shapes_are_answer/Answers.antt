use Rattle.contour_walk.proofs.Binding.Walks.{shapes_are_answer}
use Rattle.contour_walk.proofs.laws.binding.shapes_are_answer.Goals as goal

pub returns : goal.returns
returns c = shapes_are_answer c.shapes_wind.ensures
