use Rattle.std.proofs.Common.{◌≡◌, Equal, refl, sym, ◌∙◌}
use Rattle.std.proofs.lemmas.Cmp.{tied_itself}
use Rattle.plane_base.proofs.Facts.Points.Orders.{equal_then, int_equal}
use Rattle.plane_base.proofs.segment_laws.order_of_segments.Given.{Over}
use Rattle.plane_base.proofs.segment_laws.order_of_segments.Goals as goal

same : (g : Over) (x y : g.row.I.Denot) → g.I.Ord.cmp x y ≡ Equal → x ≡ y
same g x y e =
    let value = g.I.OverlayInt.value in
    g.met.I.OverlayInt.value_tells x y (int_equal (value x) (value y) (sym (g.met.I.OverlayInt.ordered x y) ∙ e))

pub returns-clause-equal : goal.returns-clause-equal
returns-clause-equal g c = λ s t. (
  λ e.
      let ends = equal_then _ _ e in
      let a = equal_then (g.I.Ord.cmp s.a.x t.a.x) (g.I.Ord.cmp s.a.y t.a.y) ends.0 in
      let b = equal_then (g.I.Ord.cmp s.b.x t.b.x) (g.I.Ord.cmp s.b.y t.b.y) ends.1 in
      λ i. record {
        a = record { x = same g s.a.x t.a.x a.0 i; y = same g s.a.y t.a.y a.1 i };
        b = record { x = same g s.b.x t.b.x b.0 i; y = same g s.b.y t.b.y b.1 i };
      },
  λ e.
      let itself = tied_itself g.met.I.Ord.total in
      rw (e, itself t.a.x, itself t.a.y, itself t.b.x, itself t.b.y) refl,
)
