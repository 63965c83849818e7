use Rattle.plane_base.proofs.Facts.Crossings.MarkLaws.{marks_stay_in_boxes}
use Rattle.plane_base.proofs.segment_laws.marks_stay_in_boxes.Goals as goal

pub returns : goal.returns
returns c = marks_stay_in_boxes
