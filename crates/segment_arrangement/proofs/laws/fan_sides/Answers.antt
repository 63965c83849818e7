use Rattle.segment_arrangement.proofs.Facts.FanSums.{fan_sides}
use Rattle.segment_arrangement.proofs.laws.fan_sides.Goals as goal

pub returns : goal.returns
returns c = fan_sides
