use Rattle.std.proofs.Common.{sym, ap, subst}
use Rattle.std.proofs.lemmas.Result.{err_from_is_err_and}
use Rattle.segment_split.specs.Holdings.{holding}
use Rattle.segment_split.proofs.Facts.Adding.Laws.{if_answered, if_refused}
use Rattle.polygon_overlay.specs.Overlays.{IsSweepRefused, IsQueryRefused}
use Rattle.polygon_overlay.proofs.Holding.HoldingLaws.{goes_through}
use Rattle.polygon_overlay.proofs.Answering.QueryLaws.{not_swept}
use Rattle.polygon_overlay.proofs.hierarchies.find_hierarchy.Goals as goal

pub returns-in_err-redraw-clause-refused : goal.returns-in_err-redraw-clause-refused
returns-in_err-redraw-clause-refused g c =
    let p = err_from_is_err_and c.from_residual.result c.from_residual.ensures.1 in
    rw p.1 (subst (IsQueryRefused c.args.query.solver.precision c.args.held.now.edges) (sym p.2) c.in_err-redraw.ensures.refused)

pub returns-in_err-redraw-clause-answered : goal.returns-in_err-redraw-clause-answered
returns-in_err-redraw-clause-answered g c = rw ((err_from_is_err_and c.from_residual.result c.from_residual.ensures.1).1) tt

pub returns-in_err-redraw-clause-redrawn : goal.returns-in_err-redraw-clause-redrawn
returns-in_err-redraw-clause-redrawn g c = rw ((err_from_is_err_and c.from_residual.result c.from_residual.ensures.1).1) tt

-- ---- redrawn

pub returns-clause-answered : goal.returns-clause-answered
returns-clause-answered g c =
    if_answered c.hierarchy_of_redrawn.result
    (λ shapes told. told c.args.held.now.edges c.requires.held (ap (λ h. h.edges) c.in_ok-redraw.ensures.redrawn))
    c.hierarchy_of_redrawn.ensures.answered

pub returns-clause-redrawn : goal.returns-clause-redrawn
returns-clause-redrawn g c = goes_through c.hierarchy_of_redrawn.result (holding c.hierarchy_of_redrawn.new.held) (holding c.redraw.new.held) _ c.hierarchy_of_redrawn.ensures.stays c.in_ok-redraw.ensures.redrawn

pub returns-clause-refused : goal.returns-clause-refused
returns-clause-refused g c =
    if_refused c.hierarchy_of_redrawn.result
    (λ fault why. not_swept c.args.query.solver.precision c.args.held.now.edges fault
    (subst (λ es. IsSweepRefused es fault) (ap (λ h. h.edges) c.in_ok-redraw.ensures.redrawn) why))
    c.hierarchy_of_redrawn.ensures.refused

pub returns-clause-failed : goal.returns-clause-failed
returns-clause-failed g c = c.hierarchy_of_redrawn.ensures.failed

pub returns-clause-held : goal.returns-clause-held
returns-clause-held g c = c.hierarchy_of_redrawn.ensures.held

pub returns-in_err-redraw-clause-well_formed : goal.returns-in_err-redraw-clause-well_formed
returns-in_err-redraw-clause-well_formed g c = rw ((err_from_is_err_and c.from_residual.result c.from_residual.ensures.1).1) tt

pub returns-clause-well_formed : goal.returns-clause-well_formed
returns-clause-well_formed g c = c.hierarchy_of_redrawn.ensures.well_formed
