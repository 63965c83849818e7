use contract.BorrowLft.{⊑_static}
use Rattle.std.proofs.lemmas.Result.{err_from_is_err_and}
use Rattle.std.proofs.Common.{◌≡◌, List, get_or, sym, ap, subst, arith, ◌∙◌}
use Rattle.std.specs.Prelude.{Option}
use Rattle.contour_walk.proofs.Binder.Sweeps.{written_back}
use Rattle.contour_walk.proofs.bind.below.contours_below.Goals as goal

pub returns-clause-is : goal.returns-clause-is
returns-clause-is g c met all k a l d =
    subst (λ (xs : List (Option _)). get_or xs (get_or c.args.anchors.now k a).contour d ≡ met (get_or c.args.anchors.now k a).contour)
    (sym (written_back c.sweep_edges.new.below c.in_ok-below.below.items c.in_ok-below.below.len
    (omega (arith, c.sweep_edges.ensures.len, c.deref_mut.ensures.len))))
    (c.in_ok-sweep_edges.ensures.is met all k a l d)

pub returns-clause-rest : goal.returns-clause-rest
returns-clause-rest g c n d l none =
    ap (λ (xs : List (Option _)). get_or xs n d) (written_back c.sweep_edges.new.below c.in_ok-below.below.items c.in_ok-below.below.len
    (omega (arith, c.sweep_edges.ensures.len, c.deref_mut.ensures.len)))
    ∙ (c.in_ok-sweep_edges.ensures.rest n d none ∙ (ap (λ (xs : List (Option _)). get_or xs n d) c.deref_mut.ensures.value ∙ c.in_ok-below.ensures.same n d l))

pub returns-in_err-below-clause-len : goal.returns-in_err-below-clause-len
returns-in_err-below-clause-len g c = rw ((err_from_is_err_and c.from_residual.result c.from_residual.ensures.1).1) tt

pub returns-in_err-sweep_edges-clause-len : goal.returns-in_err-sweep_edges-clause-len
returns-in_err-sweep_edges-clause-len g c = rw ((err_from_is_err_and c.from_residual-in_err-sweep_edges.result c.from_residual-in_err-sweep_edges.ensures.1).1) tt

pub branch-sweep_edges-requires : goal.branch-sweep_edges-requires
branch-sweep_edges-requires g c κs = (⊑_static κs.0, ⊑_static κs.1.0)

pub drop-below-requires : goal.drop-below-requires
drop-below-requires g c κs = (⊑_static κs.0, ⊑_static κs.1.0)

pub from_residual-requires : goal.from_residual-requires
from_residual-requires g c κs = (⊑_static κs.0, (⊑_static κs.1.0, ⊑_static κs.1.1.0))

pub from_residual-requires-in_err-sweep_edges : goal.from_residual-requires-in_err-sweep_edges
from_residual-requires-in_err-sweep_edges g c κs = (⊑_static κs.0, (⊑_static κs.1.0, ⊑_static κs.1.1.0))

pub deref_mut-requires : goal.deref_mut-requires
deref_mut-requires g c κs = (⊑_static κs.1.0, ⊑_static κs.1.1.0)

pub returns-in_err-sweep_edges-clause-memory : goal.returns-in_err-sweep_edges-clause-memory
returns-in_err-sweep_edges-clause-memory g c = let p = err_from_is_err_and c.from_residual-in_err-sweep_edges.result c.from_residual-in_err-sweep_edges.ensures.1 in rw p.1 (p.2 ∙ c.in_err-sweep_edges.ensures.memory)

pub returns-clause-memory : goal.returns-clause-memory
returns-clause-memory g c = tt

pub returns-in_err-below-clause-rest : goal.returns-in_err-below-clause-rest
returns-in_err-below-clause-rest g c = rw ((err_from_is_err_and c.from_residual.result c.from_residual.ensures.1).1) tt

pub returns-in_err-sweep_edges-clause-rest : goal.returns-in_err-sweep_edges-clause-rest
returns-in_err-sweep_edges-clause-rest g c =
    rw ((err_from_is_err_and c.from_residual-in_err-sweep_edges.result c.from_residual-in_err-sweep_edges.ensures.1).1) tt

pub returns-in_err-below-clause-is : goal.returns-in_err-below-clause-is
returns-in_err-below-clause-is g c = λ met all. rw ((err_from_is_err_and c.from_residual.result c.from_residual.ensures.1).1) tt

pub returns-in_err-below-clause-memory : goal.returns-in_err-below-clause-memory
returns-in_err-below-clause-memory g c = let p = err_from_is_err_and c.from_residual.result c.from_residual.ensures.1 in rw p.1
    (p.2 ∙ c.in_err-below.ensures.memory)

pub returns-in_err-sweep_edges-clause-is : goal.returns-in_err-sweep_edges-clause-is
returns-in_err-sweep_edges-clause-is g c = λ met all. rw ((err_from_is_err_and c.from_residual-in_err-sweep_edges.result c.from_residual-in_err-sweep_edges.ensures.1).1) tt

pub sweep_edges-requires-clause-anchors_in_range : goal.sweep_edges-requires-clause-anchors_in_range
sweep_edges-requires-clause-anchors_in_range g c = c.requires.anchors_in_range

pub sweep_edges-requires-clause-few : goal.sweep_edges-requires-clause-few
sweep_edges-requires-clause-few g c = c.requires.few

pub sweep_edges-requires-clause-in_range : goal.sweep_edges-requires-clause-in_range
sweep_edges-requires-clause-in_range g c = c.requires.in_range

pub sweep_edges-requires-clause-rising : goal.sweep_edges-requires-clause-rising
sweep_edges-requires-clause-rising g c = c.requires.rising

pub sweep_edges-requires-clause-sought : goal.sweep_edges-requires-clause-sought
sweep_edges-requires-clause-sought g c = c.requires.sought

pub sweep_edges-requires-clause-sweepable : goal.sweep_edges-requires-clause-sweepable
sweep_edges-requires-clause-sweepable g c = c.requires.sweepable
