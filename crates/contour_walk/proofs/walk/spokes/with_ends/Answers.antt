use contract.BorrowLft.{⊑_static}
use Rattle.contour_walk.proofs.Lives.{spoke_lives, within_push, within_spoke, within_vec}
use Rattle.std.proofs.lemmas.Result.{err_from_is_err_and}
use Rattle.std.proofs.Common.{◌≡◌, ◌+◌, [], ◌∷◌, ◌++◌, take, sym, ap, ◌∙◌, append_assoc}
use Rattle.std.proofs.lemmas.List.{take_more, take_all}
use Rattle.contour_walk.proofs.walk.spokes.with_ends.Goals as goal

pub returns-in_err-push-clause-is : goal.returns-in_err-push-clause-is
returns-in_err-push-clause-is g c = rw ((err_from_is_err_and c.from_residual.result c.from_residual.ensures.1).1) tt

pub push-requires : goal.push-requires
push-requires g c κs = λ h. (within_spoke κs.1.0 g.row.I.lives h, ⊑_static κs.1.1.0)

pub drop-spokes-requires : goal.drop-spokes-requires
drop-spokes-requires g c κs = λ h. (within_spoke κs.0 g.row.I.lives h, ⊑_static κs.1.0)

pub returns-clause-memory : goal.returns-clause-memory
returns-clause-memory g c = tt

pub branch-push-requires : goal.branch-push-requires
branch-push-requires g c κs = λ h. (⊑_static κs.0, within_push κs.1.0 (spoke_lives g.row.I.lives) (within_spoke κs.1.0 g.row.I.lives h))

pub from_residual-requires : goal.from_residual-requires
from_residual-requires g c κs = λ h. (within_vec κs.0 (spoke_lives g.row.I.lives) (within_spoke κs.0 g.row.I.lives h.0), (within_push κs.1.0 (spoke_lives g.row.I.lives) (within_spoke κs.1.0 g.row.I.lives h.1), ⊑_static κs.1.1.0))

pub loop-spoke-preserved : goal.loop-spoke-preserved
loop-spoke-preserved g c =
    let starts = c.args.starts.items in
    let ends = c.args.ends.now in
    let i = c.loop-spoke.spoke-index in
    let s = c.spoke-item.result in
    let more : take (i + 1) ends ≡ take i ends ++ s ∷ [] = take_more ends i s c.loop-spoke-test.true ∙ ap (λ x. take i ends ++ x ∷ []) (sym c.spoke-item.is) in
    c.in_ok-push.ensures.items
    ∙ (ap (λ xs. xs ++ s ∷ []) c.loop-spoke.invariant ∙ (append_assoc starts (take i ends) (s ∷ []) ∙ ap (λ xs. starts ++ xs) (sym more)))

pub returns-clause-is : goal.returns-clause-is
returns-clause-is g c = c.loop-spoke.invariant ∙ ap (λ xs. c.args.starts.items ++ xs) (take_all c.loop-spoke.spoke-index c.args.ends.now c.loop-spoke-test.false)
