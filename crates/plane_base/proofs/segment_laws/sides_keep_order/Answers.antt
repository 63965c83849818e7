use Rattle.plane_base.proofs.Facts.Columns.Sides.{sides_keep_order}
use Rattle.plane_base.proofs.segment_laws.sides_keep_order.Goals as goal

pub returns : goal.returns
returns c = sides_keep_order
