use Rattle.plane_base.proofs.Facts.Columns.Order.{order_is_place}
use Rattle.plane_base.proofs.segment_laws.order_is_place.Goals as goal

pub returns : goal.returns
returns c = order_is_place
