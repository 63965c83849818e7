use Rattle.plane_base.proofs.Facts.Crossings.Whole.{whole_marks_stay}
use Rattle.plane_base.proofs.segment_laws.whole_marks_stay.Goals as goal

pub returns : goal.returns
returns c = whole_marks_stay
