use Rattle.plane_base.proofs.Facts.Columns.Parted.{parted_meet_in_ends}
use Rattle.plane_base.proofs.segment_laws.parted_meet_in_ends.Goals as goal

pub returns : goal.returns
returns c = parted_meet_in_ends
