use Rattle.contour_walk.proofs.Binding.Highest.{way_down_is_last}
use Rattle.contour_walk.proofs.laws.binding.way_down_is_last.Goals as goal

pub returns : goal.returns
returns c = way_down_is_last
