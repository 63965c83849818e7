use Rattle.std.proofs.Common.{refl, sym, ◌∙◌}
use Rattle.std.proofs.lemmas.Bool.{false≢true}
use Rattle.segment_split.proofs.Facts.Adding.Laws.{answered}
use Rattle.segment_split.specs.Holdings.{holding}
use Rattle.polygon_overlay.proofs.Answering.FlatLaws.{emptied_flat}
use Rattle.polygon_overlay.proofs.Holding.HoldingLaws.{is_asked, leaves_redrawn}
use Rattle.polygon_overlay.proofs.overlay.Overlay.overlay_into.Goals as goal

pub returns-then-has_failed-clause-laid : goal.returns-then-has_failed-clause-laid
returns-then-has_failed-clause-laid g c = record { is = tt; well_formed = emptied_flat c.empty.new.output c.empty.ensures; refused = c.empty.ensures }

pub find_contours_into-laid-requires-clause-empty : goal.find_contours_into-laid-requires-clause-empty
find_contours_into-laid-requires-clause-empty g c = c.empty.ensures

pub returns-clause-laid : goal.returns-clause-laid
returns-clause-laid g c = c.find_contours_into-laid.ensures.laid

pub returns-clause-asked : goal.returns-clause-asked
returns-clause-asked g c =
    is_asked c.args.self.now.solver.precision (holding c.args.self.now.held) (sym c.has_failed.ensures ∙ c.if-has_failed.false) c.find_contours_into-laid.result
    c.find_contours_into-laid.ensures.refused

-- (the builder had not failed)
pub returns-clause-left : goal.returns-clause-left
returns-clause-left g c =
    let ready = sym c.has_failed.ensures ∙ c.if-has_failed.false in
    record {
      holding = leaves_redrawn c.args.self.now.solver.precision (holding c.args.self.now.held) ready (holding c.find_contours_into-laid.new.held) c.find_contours_into-laid.result
          c.find_contours_into-laid.ensures.redrawn c.find_contours_into-laid.ensures.failed;
      unchanged = λ failed. absurd (false≢true (sym ready ∙ failed));
      options = refl;
      solver = refl;
    }

pub returns-clause-buffer : goal.returns-clause-buffer
returns-clause-buffer g c = answered c.find_contours_into-laid.result refl
