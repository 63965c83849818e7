use Rattle.std.proofs.Common.{refl, sym, ◌∙◌}
use Rattle.std.proofs.lemmas.Bool.{false≢true}
use Rattle.segment_split.specs.Holdings.{holding}
use Rattle.polygon_overlay.proofs.Holding.HoldingLaws.{is_asked, leaves_redrawn}
use Rattle.polygon_overlay.proofs.overlay.Overlay.make_graph.Goals as goal

pub returns-clause-asked : goal.returns-clause-asked
returns-clause-asked g c =
    is_asked c.args.self.now.solver.precision (holding c.args.self.now.held) (sym c.has_failed.ensures ∙ c.if-has_failed.false) c.make_graph.result
    c.make_graph.ensures.refused

-- (the builder had not failed)
pub returns-clause-left : goal.returns-clause-left
returns-clause-left g c =
    let ready = sym c.has_failed.ensures ∙ c.if-has_failed.false in
    record {
      holding = leaves_redrawn c.args.self.now.solver.precision (holding c.args.self.now.held) ready (holding c.make_graph.new.held) c.make_graph.result
          c.make_graph.ensures.redrawn c.make_graph.ensures.failed;
      unchanged = λ failed. absurd (false≢true (sym ready ∙ failed));
      options = refl;
      solver = refl;
    }
