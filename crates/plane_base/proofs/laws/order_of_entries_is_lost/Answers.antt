use Rattle.plane_base.proofs.Facts.Maps.Normal.{normal_permutation}
use Rattle.plane_base.proofs.Facts.Maps.Laying.{boolean_counting}
use Rattle.plane_base.proofs.laws.order_of_entries_is_lost.Goals as goal

pub returns : goal.returns
returns c = normal_permutation boolean_counting
