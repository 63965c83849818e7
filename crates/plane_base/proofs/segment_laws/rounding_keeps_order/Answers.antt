use Rattle.plane_base.proofs.Facts.Crossings.Staircases.{rounding_keeps_order}
use Rattle.plane_base.proofs.segment_laws.rounding_keeps_order.Goals as goal

pub returns : goal.returns
returns c = rounding_keeps_order
