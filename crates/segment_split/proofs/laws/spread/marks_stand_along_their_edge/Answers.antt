use Rattle.segment_split.proofs.Spread.StaircaseMembers.{marks_stand_along}
use Rattle.segment_split.proofs.laws.spread.marks_stand_along_their_edge.Goals as goal

pub returns : goal.returns
returns c = marks_stand_along
