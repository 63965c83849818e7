use Rattle.plane_base.proofs.segment.VSegment.angle_order.Goals as goal

pub returns : goal.returns
returns g c = rw (← c.other.view_is) c.order_against.ensures
