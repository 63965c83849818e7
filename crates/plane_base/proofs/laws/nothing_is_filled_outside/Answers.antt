use Rattle.plane_base.proofs.Facts.Windings.Sums.{region_of_nothing}
use Rattle.plane_base.proofs.laws.nothing_is_filled_outside.Goals as goal

pub returns : goal.returns
returns c = region_of_nothing
