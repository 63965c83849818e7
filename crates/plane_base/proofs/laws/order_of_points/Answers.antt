use Rattle.std.proofs.Common.{sym, ap, ap₂, ◌∙◌}
use Rattle.std.specs.Ordering.{ordering_then}
use Rattle.std.proofs.lemmas.Cmp.{tied_itself}
use Rattle.plane_base.proofs.Facts.Points.Orders.{equal_then, int_equal}
use Rattle.plane_base.proofs.laws.order_of_points.Goals as goal

pub returns-clause-equal : goal.returns-clause-equal
returns-clause-equal g c = λ a b. (
  λ e.
      let parts = equal_then (g.I.Ord.cmp a.x b.x) (g.I.Ord.cmp a.y b.y) e in
      let value = g.I.OverlayInt.value in
      let same_x = g.met.I.OverlayInt.value_tells a.x b.x (int_equal (value a.x) (value b.x) (sym (g.met.I.OverlayInt.ordered a.x b.x) ∙ parts.0)) in
      let same_y = g.met.I.OverlayInt.value_tells a.y b.y (int_equal (value a.y) (value b.y) (sym (g.met.I.OverlayInt.ordered a.y b.y) ∙ parts.1)) in
      λ i. record { x = same_x i; y = same_y i },
  λ e.
      let itself = tied_itself g.met.I.Ord.total in
      rw e (ap (λ o. ordering_then o (g.I.Ord.cmp b.y b.y)) (itself b.x) ∙ itself b.y),
)

pub returns-clause-by_values : goal.returns-clause-by_values
returns-clause-by_values g c = λ a b. ap₂ ordering_then (g.met.I.OverlayInt.ordered a.x b.x) (g.met.I.OverlayInt.ordered a.y b.y)
