use Rattle.std.proofs.lemmas.Grind.{common_steps}
use Rattle.std.proofs.Common.{arith, [], ◌++◌}
use Rattle.std.proofs.lemmas.Result.{err_from_is_err_and}
use Rattle.segment_arrangement.proofs.node.collect_ends.Goals as goal
use contract.BorrowLft.{⊑_meet, ⊑_static}

pub returns-in_err-ends-clause-ok : goal.returns-in_err-ends-clause-ok
returns-in_err-ends-clause-ok g c = rw ((err_from_is_err_and c.from_residual.result c.from_residual.ensures.1).1) tt

pub returns-in_err-push-clause-ok : goal.returns-in_err-push-clause-ok
returns-in_err-push-clause-ok g c = rw ((err_from_is_err_and c.from_residual-in_err-push.result c.from_residual-in_err-push.ensures.1).1) tt

pub returns-clause-memory : goal.returns-clause-memory
returns-clause-memory g c = tt

pub returns-in_err-ends-clause-memory : goal.returns-in_err-ends-clause-memory
returns-in_err-ends-clause-memory g c =
    let p = err_from_is_err_and c.from_residual.result c.from_residual.ensures.1 in
    rw p.1 p.2

pub returns-in_err-push-clause-memory : goal.returns-in_err-push-clause-memory
returns-in_err-push-clause-memory g c =
    let p = err_from_is_err_and c.from_residual-in_err-push.result c.from_residual-in_err-push.ensures.1 in
    rw p.1 p.2

pub bounds-links-place : goal.bounds-links-place
bounds-links-place g c = c.loop-place-test.true

pub with_capacity-requires : goal.with_capacity-requires
with_capacity-requires g c κs = λ h. (h, ⊑_static κs.1.0)

pub push-requires : goal.push-requires
push-requires g c κs = λ h. (h, ⊑_static κs.1.1.0)

pub branch-ends-requires : goal.branch-ends-requires
branch-ends-requires g c κs = λ h.
    let l = g.row.N.lives in
    (⊑_meet κs.0 (l ++ []) [] (⊑_meet κs.0 l [] h (⊑_static κs.0)) (⊑_static κs.0), ⊑_static κs.1.0)

pub from_residual-requires : goal.from_residual-requires
from_residual-requires g c κs = λ h.
    let l = g.row.N.lives in
    (⊑_meet κs.0 (l ++ []) [] (⊑_meet κs.0 l [] h (⊑_static κs.0)) (⊑_static κs.0), (⊑_static κs.1.0, ⊑_static κs.1.1.0))

pub branch-push-requires : goal.branch-push-requires
branch-push-requires g c κs = λ h.
    let l = g.row.N.lives in
    let one = ⊑_meet κs.1.0 l [] h (⊑_static κs.1.0) in
    (⊑_static κs.0, ⊑_meet κs.1.0 (l ++ []) (l ++ []) one one)

pub loop-place-init : goal.loop-place-init
loop-place-init g c = grind (arith, common_steps)

pub loop-place-preserved : goal.loop-place-preserved
loop-place-preserved g c = grind (arith, common_steps)

pub returns-clause-ok : goal.returns-clause-ok
returns-clause-ok g c = grind (arith, common_steps)
