use Rattle.std.proofs.lemmas.Grind.{common_steps}
use Rattle.std.proofs.lemmas.Result.{err_from_is_err_and}
use Rattle.std.proofs.Common.{arith, sym, ap, ◌∙◌}
use Rattle.segment_arrangement.specs.GraphViews.{state_of}
use Rattle.segment_arrangement.specs.RuleViews.{overlay_rule_of}
use Rattle.segment_arrangement.specs.declared.graph.VisitState.TheVariants.{Skipped}
use Rattle.segment_arrangement.proofs.Graphs.LinkStates.{state_set}
use Rattle.segment_arrangement.proofs.graph.OverlayGraph.filter_by_overlay_into.Goals as goal
use contract.BorrowLft.{⊑_static}

pub loop-i-preserved : goal.loop-i-preserved
loop-i-preserved g c =
    state_set (λ k. state_of (overlay_rule_of c.args.rule) k.fill) Skipped c.args.self.now.links.now c.loop-i.i c.index-self-i.result c.loop-i-test.true c.index-self-i.is c.loop-i.states.items c.first_state.result
    c.loop-i.invariant (c.first_state.ensures ∙ ap (λ k. state_of (overlay_rule_of c.args.rule) k.fill) (sym c.index-self-i.is))

pub returns-in_err-resize-clause-ok : goal.returns-in_err-resize-clause-ok
returns-in_err-resize-clause-ok g c = rw ((err_from_is_err_and c.from_residual.result c.from_residual.ensures.1).1) tt

pub returns-in_err-resize-clause-err : goal.returns-in_err-resize-clause-err
returns-in_err-resize-clause-err g c =
    let p = err_from_is_err_and c.from_residual.result c.from_residual.ensures.1 in
    rw p.1 (c.in_err-resize.ensures.items ∙ c.clear.ensures.items)

pub returns-in_err-resize-clause-memory : goal.returns-in_err-resize-clause-memory
returns-in_err-resize-clause-memory g c =
    let p = err_from_is_err_and c.from_residual.result c.from_residual.ensures.1 in
    rw p.1 p.2

pub returns-clause-err : goal.returns-clause-err
returns-clause-err g c = tt

pub returns-clause-memory : goal.returns-clause-memory
returns-clause-memory g c = tt

pub bounds-self-i : goal.bounds-self-i
bounds-self-i g c = c.loop-i-test.true

pub resize-requires : goal.resize-requires
resize-requires g c κs = (⊑_static κs.1.0, ⊑_static κs.1.1.0)

pub branch-resize-requires : goal.branch-resize-requires
branch-resize-requires g c κs = (⊑_static κs.0, ⊑_static κs.1.0)

pub from_residual-requires : goal.from_residual-requires
from_residual-requires g c κs = (⊑_static κs.0, (⊑_static κs.1.0, ⊑_static κs.1.1.0))

pub loop-i-init : goal.loop-i-init
loop-i-init g c = grind (arith, common_steps)

pub returns-clause-ok : goal.returns-clause-ok
returns-clause-ok g c = grind (arith, common_steps)

pub index_mut-requires : goal.index_mut-requires
index_mut-requires g c = grind (arith, common_steps)
