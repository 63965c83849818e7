use Rattle.plane_base.proofs.Facts.Crossings.MarkLaws.{marks_agree}
use Rattle.plane_base.proofs.segment_laws.marks_agree.Goals as goal

pub returns : goal.returns
returns c = marks_agree
