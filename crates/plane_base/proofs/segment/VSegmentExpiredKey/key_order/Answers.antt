use Rattle.plane_base.proofs.segment.VSegmentExpiredKey.key_order.Goals as goal

pub returns : goal.returns
returns g c = cc
