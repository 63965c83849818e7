use Rattle.plane_base.proofs.Facts.Thinning.Laws.{thinned_unique}
use Rattle.plane_base.proofs.laws.order_of_thinning_is_lost.Goals as goal

pub returns : goal.returns
returns c = λ contour u v thinned also. thinned_unique thinned also
