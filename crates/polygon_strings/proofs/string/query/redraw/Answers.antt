use Rattle.std.proofs.Common.{sym, ap, subst}
use Rattle.std.proofs.lemmas.Result.{err_from_is_err_and}
use Rattle.segment_split.specs.Strings.{stringed}
use Rattle.polygon_strings.specs.Asking.{IsQueryRefused}
use Rattle.polygon_strings.specs.Builders.{IsStringHeld}
use Rattle.polygon_strings.proofs.ArrangementLaws.{redrawn_arrangement, redrawn_held}
use Rattle.polygon_strings.proofs.HeldLaws.{nothing_held}
use Rattle.polygon_strings.proofs.QueryLaws.{not_redrawn}
use Rattle.polygon_strings.proofs.string.query.redraw.Goals as goal

-- ---- refused

pub returns-in_err-redraw-clause-redrawn : goal.returns-in_err-redraw-clause-redrawn
returns-in_err-redraw-clause-redrawn g c = rw ((err_from_is_err_and c.from_residual.result c.from_residual.ensures.1).1) tt

pub returns-in_err-redraw-clause-arrangement : goal.returns-in_err-redraw-clause-arrangement
returns-in_err-redraw-clause-arrangement g c = rw ((err_from_is_err_and c.from_residual.result c.from_residual.ensures.1).1) tt

pub returns-in_err-redraw-clause-held : goal.returns-in_err-redraw-clause-held
returns-in_err-redraw-clause-held g c =
    subst (IsStringHeld g.I.OverlayInt.least g.I.OverlayInt.greatest) (sym (ap (λ h. h.edges) c.in_err-redraw.ensures.failed))
    (nothing_held g.I.OverlayInt.least g.I.OverlayInt.greatest)

pub returns-in_err-redraw-clause-refused : goal.returns-in_err-redraw-clause-refused
returns-in_err-redraw-clause-refused g c =
    let precision = c.args.solver.now.precision in
    let held = c.args.held.now.edges in
    let p = err_from_is_err_and c.from_residual.result c.from_residual.ensures.1 in
    rw p.1 (subst (IsQueryRefused precision held) (sym p.2) (not_redrawn precision held c.in_err-redraw.field-0.0 c.in_err-redraw.ensures.refused))

-- ---- redrawn

pub returns-clause-arrangement : goal.returns-clause-arrangement
returns-clause-arrangement g c =
    let precision = c.args.solver.now.precision in
    redrawn_arrangement g.I.OverlayInt.least g.I.OverlayInt.greatest precision (c.passes_rearrange.ensures.redrawn stringed precision)
    (c.redrawing_comes_to_rest.ensures.ends stringed precision) c.args.held.now.edges c.requires.held

pub returns-clause-held : goal.returns-clause-held
returns-clause-held g c =
    let precision = c.args.solver.now.precision in
    subst (IsStringHeld g.I.OverlayInt.least g.I.OverlayInt.greatest) (sym (ap (λ h. h.edges) c.in_ok-redraw.ensures.redrawn))
    (redrawn_held g.I.OverlayInt.least g.I.OverlayInt.greatest precision (c.passes_rearrange.ensures.redrawn stringed precision)
    (c.redrawing_comes_to_rest.ensures.ends stringed precision) c.args.held.now.edges c.requires.held)
