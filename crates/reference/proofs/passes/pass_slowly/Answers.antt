use Rattle.reference.proofs.Lives.{counted_lives, within_point, within_counted}
use Rattle.std.proofs.Common.{[], ◌++◌}
use contract.BorrowLft.{⊑_meet, ⊑_static}
use Rattle.std.proofs.lemmas.Result.{err_from_is_err_and}
use Rattle.reference.proofs.passes.pass_slowly.Goals as goal

pub returns-in_err-cut_all : goal.returns-in_err-cut_all
returns-in_err-cut_all g c = rw ((err_from_is_err_and c.from_residual.result c.from_residual.ensures.1).1) (record { pass = tt })

pub new-pieces-requires : goal.new-pieces-requires
new-pieces-requires g c κs = λ h. (within_counted κs.0 g.row.C.lives g.row.I.lives h.0 h.1, ⊑_static κs.1.0)

pub new-marks-requires : goal.new-marks-requires
new-marks-requires g c κs = λ h. (within_point κs.0 g.row.I.lives h, ⊑_static κs.1.0)

pub branch-cut_all-requires : goal.branch-cut_all-requires
branch-cut_all-requires g c κs = (⊑_static κs.0, ⊑_static κs.1.0)

pub from_residual-requires : goal.from_residual-requires
from_residual-requires g c κs = λ h.
    let lives = counted_lives g.row.C.lives g.row.I.lives in
    let within = within_counted κs.0 g.row.C.lives g.row.I.lives h.0 h.1 in (
      ⊑_meet κs.0 (lives ++ []) [] (⊑_meet κs.0 lives [] within (⊑_static κs.0)) (⊑_static κs.0),
      (⊑_static κs.1.0, ⊑_static κs.1.1.0),
    )

pub drop-marks-requires : goal.drop-marks-requires
drop-marks-requires g c κs = λ h. (within_point κs.0 g.row.I.lives h, ⊑_static κs.1.0)

pub drop-marks-requires-2 : goal.drop-marks-requires-2
drop-marks-requires-2 g c κs = λ h. (within_point κs.0 g.row.I.lives h, ⊑_static κs.1.0)

pub drop-pieces-requires : goal.drop-pieces-requires
drop-pieces-requires g c κs = λ h. (within_counted κs.0 g.row.C.lives g.row.I.lives h.0 h.1, ⊑_static κs.1.0)

pub drop-pieces-requires-2 : goal.drop-pieces-requires-2
drop-pieces-requires-2 g c κs = λ h. (within_counted κs.0 g.row.C.lives g.row.I.lives h.0 h.1, ⊑_static κs.1.0)

pub deref-requires : goal.deref-requires
deref-requires g c κs = λ h. (within_counted κs.1.0 g.row.C.lives g.row.I.lives h.0 h.1, ⊑_static κs.1.1.0)

pub normal_slowly-requires : goal.normal_slowly-requires
normal_slowly-requires g c κs = λ h. h
