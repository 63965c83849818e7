use Rattle.std.proofs.Common.{sym, subst, ap}
use Rattle.plane_base.specs.Counts.{boolean}
use Rattle.segment_split.specs.Holdings.{holding}
use Rattle.segment_arrangement.specs.SideLaws.{IsArrangement}
use Rattle.segment_split.proofs.Facts.Adding.Laws.{if_refused, on_answer}
use Rattle.polygon_overlay.proofs.Answering.ArrangementLaws.{redrawn_arrangement, redrawn_held}
use Rattle.polygon_overlay.proofs.Holding.HoldingLaws.{held_after_asking}
use Rattle.polygon_overlay.proofs.Answering.QueryLaws.{not_redrawn}
use Rattle.polygon_overlay.proofs.query.redraw_with_steps.Goals as goal

pub returns-clause-arrangement : goal.returns-clause-arrangement
returns-clause-arrangement g c =
    let precision = c.args.solver.now.precision in
    let held = c.args.held.now.edges in
    on_answer c.redraw.result
    (λ is. subst IsArrangement (sym (ap (λ h. h.edges) is))
    (redrawn_arrangement g.I.OverlayInt.least g.I.OverlayInt.greatest precision (c.passes_rearrange.ensures.redrawn boolean precision)
    (c.redrawing_comes_to_rest.ensures.ends boolean precision) (c.redrawn_maps_are_balanced.ensures precision) held c.requires.held))
    c.redraw.ensures.redrawn

pub returns-clause-held : goal.returns-clause-held
returns-clause-held g c =
    let precision = c.args.solver.now.precision in
    let held = c.args.held.now.edges in
    held_after_asking g.I.OverlayInt.least g.I.OverlayInt.greatest precision (holding c.args.held.now) (holding c.redraw.new.self) c.redraw.result
    (redrawn_held g.I.OverlayInt.least g.I.OverlayInt.greatest precision (c.passes_rearrange.ensures.redrawn boolean precision)
    (c.redrawing_comes_to_rest.ensures.ends boolean precision) (c.redrawn_maps_are_balanced.ensures precision) held c.requires.held)
    c.redraw.ensures.redrawn c.redraw.ensures.failed

pub returns-clause-refused : goal.returns-clause-refused
returns-clause-refused g c =
    if_refused c.redraw.result (λ fault why. not_redrawn c.args.solver.now.precision c.args.held.now.edges fault why) c.redraw.ensures.refused
