use Rattle.plane_base.proofs.Facts.Crossings.Parted.{marks_need_boxes_that_meet}
use Rattle.plane_base.proofs.segment_laws.marks_need_boxes_that_meet.Goals as goal

pub returns : goal.returns
returns c = marks_need_boxes_that_meet
