use Rattle.segment_split.proofs.Redrawing.Iterates.{leaves_as_it_is}
use Rattle.segment_split.proofs.laws.redrawing_is_stable.Goals as goal

pub returns : goal.returns
returns g c = leaves_as_it_is
