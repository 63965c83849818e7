use Rattle.plane_base.proofs.Facts.Crossings.Whole.{whole_is_point}
use Rattle.plane_base.proofs.segment_laws.whole_is_point.Goals as goal

pub returns : goal.returns
returns c = whole_is_point
