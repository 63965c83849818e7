use Rattle.std.proofs.Common.{◌∙◌, sym, ap, subst}
use Rattle.std.proofs.lemmas.Result.{err_from_is_err_and}
use Rattle.polygon_overlay.specs.Builders.{IsHeld}
use Rattle.polygon_overlay.proofs.Holding.HeldLaws.{nothing_held}
use Rattle.polygon_overlay.proofs.overlay.Overlay.new_custom.Goals as goal

pub returns-in_err-held : goal.returns-in_err-held
returns-in_err-held g c =
    let p = err_from_is_err_and c.from_residual.result c.from_residual.ensures.1 in
    record { made = rw p.1 tt; refused = rw p.1 (p.2 ∙ c.in_err-held.ensures.memory); room = rw p.1 tt }

pub returns-in_err-graph_builder : goal.returns-in_err-graph_builder
returns-in_err-graph_builder g c =
    let p = err_from_is_err_and c.from_residual-in_err-graph_builder.result c.from_residual-in_err-graph_builder.ensures.1 in
    record { made = rw p.1 tt; refused = rw p.1 (p.2 ∙ c.in_err-graph_builder.ensures.memory); room = rw p.1 tt }

pub invariant_of-result : goal.invariant_of-result
invariant_of-result g c = record {
  balanced =
      subst (IsHeld g.I.OverlayInt.least g.I.OverlayInt.greatest) (sym (ap (λ h. h.edges) c.in_ok-held.ensures.empty))
      (nothing_held g.I.OverlayInt.least g.I.OverlayInt.greatest);
}
