use Rattle.plane_base.proofs.Facts.Crossings.MarkCases.{marks_by_case}
use Rattle.plane_base.proofs.segment_laws.marks_by_case.Goals as goal

pub returns : goal.returns
returns c = marks_by_case
