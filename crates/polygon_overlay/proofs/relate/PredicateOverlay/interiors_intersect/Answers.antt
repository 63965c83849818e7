use Rattle.std.proofs.Common.{Bool}
use Rattle.plane_base.specs.Regions.{OverlayRule, Intersect}
use Rattle.segment_arrangement.specs.RuleViews.{fill_rule_of}
use Rattle.polygon_overlay.specs.OverlayLaws.{overlay_of}
use Rattle.polygon_overlay.specs.PredicateCalls.{links_of}
use Rattle.polygon_overlay.specs.Predicates.{interiors_intersect}
use Rattle.polygon_overlay.specs.RelationLaws.{has_contour}
use Rattle.polygon_overlay.proofs.Relating.AgreementLaws.{is_told}
use Rattle.polygon_overlay.proofs.relate.PredicateOverlay.interiors_intersect.Goals as goal

pub returns-clause-agrees : goal.returns-clause-agrees
returns-clause-agrees g c =
    let builder = c.args.self.now in
    λ o none.
    let has : OverlayRule → Bool = λ rule. has_contour (overlay_of o (fill_rule_of builder.fill_rule) rule builder.solver.precision builder.held.edges) in
    is_told c.evaluate.result (interiors_intersect (links_of builder)) (has Intersect)
    (c.predicates_agree_with_overlays.ensures.of_one g.I.OverlayInt.least g.I.OverlayInt.greatest o (fill_rule_of builder.fill_rule) builder.solver.precision
    builder.held.edges builder.balanced none).of_interiors
    c.evaluate.ensures.is

pub returns-clause-is : goal.returns-clause-is
returns-clause-is g c = c.evaluate.ensures.is

pub returns-clause-asked : goal.returns-clause-asked
returns-clause-asked g c = c.evaluate.ensures.asked

pub returns-clause-left : goal.returns-clause-left
returns-clause-left g c = c.evaluate.ensures.left
