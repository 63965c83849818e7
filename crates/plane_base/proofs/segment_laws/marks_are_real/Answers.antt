use Rattle.plane_base.proofs.Facts.Crossings.MarkLaws.{marks_are_real}
use Rattle.plane_base.proofs.segment_laws.marks_are_real.Goals as goal

pub returns : goal.returns
returns c = marks_are_real
