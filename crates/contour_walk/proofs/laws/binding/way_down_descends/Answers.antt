use Rattle.contour_walk.proofs.Binding.Ranks.{way_down_descends}
use Rattle.contour_walk.proofs.laws.binding.way_down_descends.Goals as goal

pub returns : goal.returns
returns c = way_down_descends
