use Rattle.segment_arrangement.proofs.Facts.Rings.{sectors_are_whole}
use Rattle.segment_arrangement.proofs.laws.sectors_are_whole.Goals as goal

pub returns : goal.returns
returns c = sectors_are_whole
