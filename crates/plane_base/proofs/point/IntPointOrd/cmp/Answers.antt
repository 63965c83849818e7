use Rattle.plane_base.proofs.point.IntPointOrd.cmp.Goals as goal

pub returns : goal.returns
returns g c = rw c.cmp.ensures at c.or_cmp.ensures
