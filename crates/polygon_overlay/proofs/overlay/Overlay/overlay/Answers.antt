use Rattle.std.proofs.Common.{refl, sym, ◌∙◌, subst}
use Rattle.std.proofs.lemmas.Bool.{false≢true}
use Rattle.segment_split.proofs.Facts.Adding.Laws.{answered, if_answered}
use Rattle.segment_split.specs.Holdings.{holding}
use Rattle.segment_arrangement.specs.RuleViews.{fill_rule_of, overlay_rule_of}
use Rattle.contour_walk.specs.Answering.{answering_of}
use Rattle.polygon_overlay.specs.GroupLaws.{AreEachAlone}
use Rattle.polygon_overlay.proofs.Holding.HoldingLaws.{is_asked, leaves_redrawn}
use Rattle.polygon_overlay.proofs.overlay.Overlay.overlay.Goals as goal

pub returns-clause-alone : goal.returns-clause-alone
returns-clause-alone g c =
    let builder = c.args.self.now in
    let o = answering_of builder.options in
    let fill = fill_rule_of c.args.fill_rule in
    let rule = overlay_rule_of c.args.overlay_rule in
    if_answered c.find_shapes-found.result
    (λ shapes is none boxes groups. subst (AreEachAlone o fill rule builder.solver.precision builder.held.edges boxes) (sym is.canonical)
    (c.groups_are_overlaid_alone.ensures g.I.OverlayInt.least g.I.OverlayInt.greatest o fill rule builder.solver.precision builder.held.edges boxes builder.balanced groups none))
    c.find_shapes-found.ensures.answered

pub returns-clause-asked : goal.returns-clause-asked
returns-clause-asked g c =
    is_asked c.args.self.now.solver.precision (holding c.args.self.now.held) (sym c.has_failed.ensures ∙ c.if-has_failed.false) c.find_shapes-found.result
    c.find_shapes-found.ensures.refused

-- (the builder had not failed)
pub returns-clause-left : goal.returns-clause-left
returns-clause-left g c =
    let ready = sym c.has_failed.ensures ∙ c.if-has_failed.false in
    record {
      holding = leaves_redrawn c.args.self.now.solver.precision (holding c.args.self.now.held) ready (holding c.find_shapes-found.new.held) c.find_shapes-found.result
          c.find_shapes-found.ensures.redrawn c.find_shapes-found.ensures.failed;
      unchanged = λ failed. absurd (false≢true (sym ready ∙ failed));
      options = refl;
      solver = refl;
    }

pub returns-clause-buffer : goal.returns-clause-buffer
returns-clause-buffer g c = answered c.find_shapes-found.result refl
