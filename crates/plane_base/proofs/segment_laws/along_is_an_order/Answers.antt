use Rattle.plane_base.proofs.Facts.Points.AlongOrder.{along_is_order}
use Rattle.plane_base.proofs.segment_laws.along_is_an_order.Goals as goal

pub returns : goal.returns
returns c = along_is_order
