use Rattle.segment_arrangement.proofs.Facts.Angles.{live_list_tells}
use Rattle.segment_arrangement.proofs.laws.live_list_tells.Goals as goal

pub returns : goal.returns
returns c = live_list_tells
