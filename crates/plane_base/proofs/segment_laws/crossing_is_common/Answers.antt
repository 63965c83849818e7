use Rattle.plane_base.proofs.Facts.Crossings.Place.{crossing_is_common}
use Rattle.plane_base.proofs.segment_laws.crossing_is_common.Goals as goal

pub returns : goal.returns
returns c = crossing_is_common
