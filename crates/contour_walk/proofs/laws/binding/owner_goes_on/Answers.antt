use Rattle.contour_walk.proofs.Binding.Ranks.{owner_goes_on}
use Rattle.contour_walk.proofs.laws.binding.owner_goes_on.Goals as goal

pub returns : goal.returns
returns c = owner_goes_on
