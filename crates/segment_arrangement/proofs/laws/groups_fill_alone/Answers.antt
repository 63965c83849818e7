use Rattle.segment_arrangement.proofs.Facts.GroupSides.{groups_fill_alone}
use Rattle.segment_arrangement.proofs.laws.groups_fill_alone.Goals as goal

pub returns : goal.returns
returns c = groups_fill_alone
