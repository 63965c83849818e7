use Rattle.i_tree.proofs.seg.pool.is_live.Goals as goal

pub bounds-pool-at : goal.bounds-pool-at
bounds-pool-at g c = c.requires

pub expiration-requires : goal.expiration-requires
expiration-requires g c κs = λ h. h

pub cmp-requires : goal.cmp-requires
cmp-requires g c κs = λ h. h
