use Rattle.std.proofs.Common.{refl, sym, ◌∙◌}
use Rattle.std.proofs.lemmas.Bool.{false≢true}
use Rattle.segment_split.specs.Holdings.{holding}
use Rattle.polygon_overlay.proofs.Holding.HoldingLaws.{is_asked, leaves_redrawn}
use Rattle.polygon_overlay.proofs.relate.PredicateOverlay.evaluate.Goals as goal

pub returns-clause-asked : goal.returns-clause-asked
returns-clause-asked g c =
    is_asked c.args.self.now.solver.precision (holding c.args.self.now.held) (sym c.has_failed.ensures ∙ c.if-has_failed.false) c.sweep_held.result
    c.sweep_held.ensures.refused

-- (the builder had not failed)
pub returns-clause-left : goal.returns-clause-left
returns-clause-left g c =
    let ready = sym c.has_failed.ensures ∙ c.if-has_failed.false in
    record {
      holding = leaves_redrawn c.args.self.now.solver.precision (holding c.args.self.now.held) ready (holding c.sweep_held.new.held) c.sweep_held.result
          c.sweep_held.ensures.redrawn c.sweep_held.ensures.failed;
      unchanged = λ failed. absurd (false≢true (sym ready ∙ failed));
      stays = record { solver = refl; fill_rule = refl };
    }
