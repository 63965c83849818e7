use Rattle.plane_base.proofs.point.IntPointPartialOrd.partial_cmp.Goals as goal

pub returns : goal.returns
returns g c = rw c.partial_cmp.ensures at c.or_partial_cmp.ensures
