use Rattle.plane_base.proofs.Facts.Crossings.Parted.{mark_unless_parted}
use Rattle.plane_base.proofs.segment_laws.mark_unless_parted.Goals as goal

pub returns : goal.returns
returns c = mark_unless_parted
