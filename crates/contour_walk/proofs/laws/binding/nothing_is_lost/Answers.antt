use Rattle.contour_walk.proofs.Binding.Answers.{nothing_is_lost}
use Rattle.contour_walk.proofs.laws.binding.nothing_is_lost.Goals as goal

pub returns : goal.returns
returns c = nothing_is_lost
