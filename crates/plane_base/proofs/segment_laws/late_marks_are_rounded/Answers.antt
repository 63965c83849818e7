use Rattle.plane_base.proofs.Facts.Crossings.Staircases.{late_marks_are_rounded}
use Rattle.plane_base.proofs.segment_laws.late_marks_are_rounded.Goals as goal

pub returns : goal.returns
returns c = late_marks_are_rounded
