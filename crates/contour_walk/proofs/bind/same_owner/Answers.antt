use contract.BorrowLft.{⊑_static}
use Rattle.std.proofs.lemmas.Result.{err_from_is_err_and}
use Rattle.contour_walk.proofs.bind.same_owner.Goals as goal

pub returns-in_err-owners-clause-len : goal.returns-in_err-owners-clause-len
returns-in_err-owners-clause-len c = rw ((err_from_is_err_and c.from_residual.result c.from_residual.ensures.1).1) tt

pub returns-in_err-owners-clause-same : goal.returns-in_err-owners-clause-same
returns-in_err-owners-clause-same c = rw ((err_from_is_err_and c.from_residual.result c.from_residual.ensures.1).1) tt

pub returns-in_err-push-clause-len : goal.returns-in_err-push-clause-len
returns-in_err-push-clause-len c = rw ((err_from_is_err_and c.from_residual-in_err-push.result c.from_residual-in_err-push.ensures.1).1) tt

pub returns-in_err-push-clause-same : goal.returns-in_err-push-clause-same
returns-in_err-push-clause-same c = rw ((err_from_is_err_and c.from_residual-in_err-push.result c.from_residual-in_err-push.ensures.1).1) tt

pub with_capacity-requires : goal.with_capacity-requires
with_capacity-requires c κs = (⊑_static κs.0, ⊑_static κs.1.0)

pub branch-owners-requires : goal.branch-owners-requires
branch-owners-requires c κs = (⊑_static κs.0, ⊑_static κs.1.0)

pub branch-push-requires : goal.branch-push-requires
branch-push-requires c κs = (⊑_static κs.0, ⊑_static κs.1.0)

pub drop-owners-requires : goal.drop-owners-requires
drop-owners-requires c κs = (⊑_static κs.0, ⊑_static κs.1.0)

pub from_residual-requires : goal.from_residual-requires
from_residual-requires c κs = (⊑_static κs.0, (⊑_static κs.1.0, ⊑_static κs.1.1.0))

pub from_residual-requires-in_err-push : goal.from_residual-requires-in_err-push
from_residual-requires-in_err-push c κs = (⊑_static κs.0, (⊑_static κs.1.0, ⊑_static κs.1.1.0))

pub push-requires : goal.push-requires
push-requires c κs = (⊑_static κs.1.0, ⊑_static κs.1.1.0)

pub returns-clause-memory : goal.returns-clause-memory
returns-clause-memory c = tt
