use Rattle.segment_arrangement.proofs.Facts.LiveLists.{live_list_is_kept}
use Rattle.segment_arrangement.proofs.laws.live_list_is_kept.Goals as goal

pub returns : goal.returns
returns c = live_list_is_kept
