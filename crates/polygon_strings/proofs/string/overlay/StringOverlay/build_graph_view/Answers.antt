use Rattle.std.proofs.Common.{refl}
use Rattle.polygon_strings.proofs.string.overlay.StringOverlay.build_graph_view.Goals as goal

pub returns : goal.returns
returns g c = (
  (refl, (λ _. tt), rw c.default.ensures at c.build_graph_view_with_solver.follows.holds-at-none),
  record {
    lent = rw c.default.ensures at c.build_graph_view_with_solver.ensures.lent;
    asked = rw c.default.ensures at c.build_graph_view_with_solver.ensures.asked;
    after = tt;
  },
)
