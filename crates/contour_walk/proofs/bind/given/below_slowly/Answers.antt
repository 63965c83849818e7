use Rattle.std.proofs.Common.{◌∙◌}
use contract.BorrowLft.{⊑_static}
use Rattle.std.proofs.lemmas.Result.{err_from_is_err_and}
use Rattle.contour_walk.proofs.bind.given.below_slowly.Goals as goal

pub returns-in_err-contour_below-clause-len : goal.returns-in_err-contour_below-clause-len
returns-in_err-contour_below-clause-len g c = rw ((err_from_is_err_and c.from_residual.result c.from_residual.ensures.1).1) tt

pub returns-in_err-contour_below-clause-is : goal.returns-in_err-contour_below-clause-is
returns-in_err-contour_below-clause-is g c = rw ((err_from_is_err_and c.from_residual.result c.from_residual.ensures.1).1) tt

pub returns-in_err-push-clause-len : goal.returns-in_err-push-clause-len
returns-in_err-push-clause-len g c = rw ((err_from_is_err_and c.from_residual-in_err-push.result c.from_residual-in_err-push.ensures.1).1) tt

pub returns-in_err-push-clause-is : goal.returns-in_err-push-clause-is
returns-in_err-push-clause-is g c = rw ((err_from_is_err_and c.from_residual-in_err-push.result c.from_residual-in_err-push.ensures.1).1) tt

pub new-below-requires : goal.new-below-requires
new-below-requires g c κs = (⊑_static κs.0, ⊑_static κs.1.0)

pub branch-contour_below-requires : goal.branch-contour_below-requires
branch-contour_below-requires g c κs = (⊑_static κs.0, ⊑_static κs.1.0)

pub branch-push-requires : goal.branch-push-requires
branch-push-requires g c κs = (⊑_static κs.0, ⊑_static κs.1.0)

pub drop-below-requires : goal.drop-below-requires
drop-below-requires g c κs = (⊑_static κs.0, ⊑_static κs.1.0)

pub drop-below-requires-in_err-push : goal.drop-below-requires-in_err-push
drop-below-requires-in_err-push g c κs = (⊑_static κs.0, ⊑_static κs.1.0)

pub from_residual-requires : goal.from_residual-requires
from_residual-requires g c κs = (⊑_static κs.0, (⊑_static κs.1.0, ⊑_static κs.1.1.0))

pub from_residual-requires-in_err-push : goal.from_residual-requires-in_err-push
from_residual-requires-in_err-push g c κs = (⊑_static κs.0, (⊑_static κs.1.0, ⊑_static κs.1.1.0))

pub push-requires : goal.push-requires
push-requires g c κs = (⊑_static κs.1.0, ⊑_static κs.1.1.0)

pub returns-in_err-contour_below-clause-memory : goal.returns-in_err-contour_below-clause-memory
returns-in_err-contour_below-clause-memory g c = let p = err_from_is_err_and c.from_residual.result c.from_residual.ensures.1 in rw p.1 (p.2 ∙ c.in_err-contour_below.ensures.memory)

pub returns-clause-memory : goal.returns-clause-memory
returns-clause-memory g c = tt
