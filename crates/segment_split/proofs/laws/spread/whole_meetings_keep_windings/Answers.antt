use Rattle.segment_split.proofs.Whole.Redrawing.{whole_meetings_keep_windings}
use Rattle.segment_split.proofs.laws.spread.whole_meetings_keep_windings.Goals as goal

pub returns : goal.returns
returns c = whole_meetings_keep_windings
