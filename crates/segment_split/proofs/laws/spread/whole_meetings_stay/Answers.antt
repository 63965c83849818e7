use Rattle.segment_split.proofs.Whole.Redrawing.{whole_meetings_stay}
use Rattle.segment_split.proofs.laws.spread.whole_meetings_stay.Goals as goal

pub returns : goal.returns
returns g c = whole_meetings_stay
