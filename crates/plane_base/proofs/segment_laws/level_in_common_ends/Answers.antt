use Rattle.plane_base.proofs.Facts.Columns.Levels.{level_in_common_ends}
use Rattle.plane_base.proofs.segment_laws.level_in_common_ends.Goals as goal

pub returns : goal.returns
returns c = level_in_common_ends
