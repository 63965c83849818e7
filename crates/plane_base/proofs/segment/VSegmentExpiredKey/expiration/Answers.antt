use Rattle.plane_base.proofs.segment.VSegmentExpiredKey.expiration.Goals as goal

pub returns : goal.returns
returns g c = rw (← c.self.view_is)
