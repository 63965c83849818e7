use Rattle.contour_walk.proofs.Binding.Highest.{under_is_earlier}
use Rattle.contour_walk.proofs.laws.binding.under_is_earlier.Goals as goal

pub returns : goal.returns
returns c = under_is_earlier
