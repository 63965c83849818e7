use Rattle.segment_split.proofs.PlaceSet.{highest}
use Rattle.segment_split.proofs.lines.place_set.highest_bit.Goals as goal

pub returns : goal.returns
returns c = highest c.args.word c.ilog2.result c.ilog2.ensures.bound c.ilog2.ensures.power_le c.ilog2.ensures.next_power_gt
