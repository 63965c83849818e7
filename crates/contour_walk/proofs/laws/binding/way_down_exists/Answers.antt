use Rattle.contour_walk.proofs.Binding.Owners.{way_down_exists}
use Rattle.contour_walk.proofs.laws.binding.way_down_exists.Goals as goal

pub returns : goal.returns
returns c = way_down_exists
