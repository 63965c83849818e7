-- Horizontal edges over one column are in the order of their heights.
use Rattle.std.proofs.Common.{◌≡◌, ℤ, pos, ◌-ℤ◌, ◌*ℤ◌, ◌<ℤ◌, refl, sym, ap, ◌∙◌, arith}
use Rattle.std.specs.Cmp.{int_cmp_is, int_cmp_total}
use Rattle.std.specs.Ordering.{int_cmp, ordering_reverse}
use Rattle.std.specs.declared.cmp.Ordering.{Ordering}
use Rattle.std.specs.declared.cmp.Ordering.TheVariants.{Less, Equal, Greater}
use Rattle.std.proofs.Math.IntN.{zero-*ℤ, *ℤ-zero}
use Rattle.std.proofs.lemmas.Int.{ints}
use Rattle.plane_base.specs.Plane.{Point, Edge, turn, point_order}
use Rattle.plane_base.specs.Segments.{order_against, column_order}
use Rattle.plane_base.proofs.Facts.Numbers.Products.{product_positive, product_negative}
use Rattle.plane_base.proofs.Facts.Points.Orders.{int_less, int_equal, less_from_greater}

-- a product has the sign of its second factor where the first is positive
scaled_sign : (w m n : ℤ) → pos 0 <ℤ w → int_cmp (pos 0) (w *ℤ (n -ℤ m)) ≡ int_cmp m n
scaled_sign w m n wide = by (int_cmp m n) refl
  where
    flat : (z : ℤ) → z ≡ pos 0 → w *ℤ z ≡ pos 0
    flat z e = ap (λ z. w *ℤ z) e ∙ *ℤ-zero w

    by : (o : Ordering) → int_cmp m n ≡ o → int_cmp (pos 0) (w *ℤ (n -ℤ m)) ≡ o
    by Less e = let l = int_less m n e in sym (int_cmp_is (pos 0) (w *ℤ (n -ℤ m)) Less (product_positive w (n -ℤ m) wide (omega (arith, ints, l))))
    by Equal e = let l = int_equal m n e in sym (int_cmp_is (pos 0) (w *ℤ (n -ℤ m)) Equal (sym (flat (n -ℤ m) (omega (arith, ints, l)))))
    by Greater e = let l = int_less n m (less_from_greater int_cmp_total m n e) in sym (int_cmp_is (pos 0) (w *ℤ (n -ℤ m)) Greater (product_negative w (n -ℤ m) wide (omega (arith, ints, l))))

-- the edge runs along x
pub record IsHorizontalWay (s : Edge) : Type 0 where
  pub level : s.a.y ≡ s.b.y
  pub wide : s.a.x <ℤ s.b.x

module _ (s : Edge) (runs : IsHorizontalWay s) where
  horizontal_turn : (p : Point) → turn s.a s.b p ≡ (s.b.x -ℤ s.a.x) *ℤ (p.y -ℤ s.a.y)
  horizontal_turn p =
      ap (λ z. ((s.b.x -ℤ s.a.x) *ℤ (p.y -ℤ s.a.y)) -ℤ (z *ℤ (p.x -ℤ s.a.x))) (none s.a.y s.b.y runs.level)
      ∙ less_nothing ((s.b.x -ℤ s.a.x) *ℤ (p.y -ℤ s.a.y)) (pos 0 *ℤ (p.x -ℤ s.a.x)) (zero-*ℤ (p.x -ℤ s.a.x))
    where
      none : (y z : ℤ) → y ≡ z → z -ℤ y ≡ pos 0
      none y z e = omega (arith, ints)

      less_nothing : (m n : ℤ) → n ≡ pos 0 → m -ℤ n ≡ m
      less_nothing m n e = omega (arith, ints)

  pub horizontal_against : (p : Point) → order_against s p ≡ int_cmp s.a.y p.y
  horizontal_against p = ap (int_cmp (pos 0)) (horizontal_turn p) ∙ scaled_sign (s.b.x -ℤ s.a.x) s.a.y p.y (omega (arith, ints, runs.wide))

pub horizontals_by_height : (s t : Edge) → IsHorizontalWay s → IsHorizontalWay t → column_order s t ≡ int_cmp s.a.y t.a.y
horizontals_by_height s t s_runs t_runs = by (point_order s.a t.a) refl
  where
    turned : int_cmp (turn t.a t.b s.a) (pos 0) ≡ int_cmp s.a.y t.a.y
    turned =
        int_cmp_total.antisymm (turn t.a t.b s.a) (pos 0)
        ∙ (ap ordering_reverse (horizontal_against t t_runs s.a)
        ∙ sym (int_cmp_total.antisymm s.a.y t.a.y))

    by : (o : Ordering) → point_order s.a t.a ≡ o → column_order s t ≡ int_cmp s.a.y t.a.y
    by Less e = rw (column_order, e) (horizontal_against s s_runs t.a)
    by Equal e = rw (column_order, e) (horizontal_against s s_runs t.b ∙ ap (int_cmp s.a.y) (sym t_runs.level))
    by Greater e = rw (column_order, e) turned
