-- Of two parted segments at a column, the first has a point above it wherever the other has.
--
-- Above, cite `sides_keep_order`.
use Rattle.std.proofs.Common.{◌≡◌, ◌<◌, true, ℤ, pos, ◌+ℤ◌, ◌-ℤ◌, ◌*ℤ◌, ◌≤ℤ◌, ◌<ℤ◌, arith}
use Rattle.std.specs.declared.cmp.Ordering.TheVariants.{Less, Greater}
use Rattle.std.specs.Cmp.{int_cmp_total}
use Rattle.std.proofs.lemmas.Int.{ints, by_lt_z}
use Rattle.plane_base.specs.Plane.{Point, Edge, RationalPoint, turn, side}
use Rattle.plane_base.specs.Segments.{parted, width, order_against, column_order}
use Rattle.plane_base.specs.ColumnLaws.{IsLive, IsOver, SidesKeepOrder}
use Rattle.plane_base.proofs.Facts.Numbers.Products.{product_positive, product_not_negative, factor_positive, factor_not_negative}
use Rattle.plane_base.proofs.Facts.Points.Turns.{whole, side_of_whole, lift_by_sides}
use Rattle.plane_base.proofs.Facts.Points.Orders.{less_from_greater, greater_from_less, int_less, int_cmp_less}
use Rattle.plane_base.proofs.Facts.Columns.Order.{order_is_place}

wide : (x : ℤ) (u : Edge) → IsLive x u → pos 0 <ℤ width u
wide x u h = omega (arith, ints, h.0, h.1)

-- the one above another number by what is above 0
raised : (w v m n : ℤ) {d : ℤ} → d ≡ (w *ℤ m) -ℤ (v *ℤ n) → pos 0 ≤ℤ d → pos 0 <ℤ w → pos 0 <ℤ v → pos 0 <ℤ n → pos 0 <ℤ m
raised w v m n {d} e h some more k = factor_positive w m some (chain d (w *ℤ m) (v *ℤ n) e h (product_positive v n more k))
  where
    chain : (d x y : ℤ) → d ≡ x -ℤ y → pos 0 ≤ℤ d → pos 0 <ℤ y → pos 0 <ℤ x
    chain d x y e h k = omega (arith, ints)

kept : (w v m n : ℤ) {d : ℤ} → d ≡ (w *ℤ m) -ℤ (v *ℤ n) → pos 0 ≤ℤ d → pos 0 <ℤ w → pos 0 <ℤ v → pos 0 ≤ℤ n → pos 0 ≤ℤ m
kept w v m n {d} e h some more k = factor_not_negative w m some (chain d (w *ℤ m) (v *ℤ n) e h (product_not_negative v n (weak v more) k))
  where
    weak : (x : ℤ) → pos 0 <ℤ x → pos 0 ≤ℤ x
    weak x h = omega (arith, ints)

    chain : (d x y : ℤ) → d ≡ x -ℤ y → pos 0 ≤ℤ d → pos 0 ≤ℤ y → pos 0 ≤ℤ x
    chain d x y e h k = omega (arith, ints)

above : (s t : Edge) (x : ℤ) (p : RationalPoint) → 0 < p.q → parted s t ≡ true → IsLive x s → IsLive x t → IsOver x p → column_order s t ≡ Less → pos 0 <ℤ side t.a t.b p → pos 0 <ℤ side s.a s.b p
above s t x p some e hs ht over l k =
    raised (width t) (width s) (side s.a s.b p) (side t.a t.b p) (lift_by_sides t.a t.b s.a s.b p)
    (order_is_place.nowhere_above s t x p.x p.q e hs ht some over.0 over.1 l) (wide x t ht) (wide x s hs) k

not_below : (s t : Edge) (x : ℤ) (p : RationalPoint) → 0 < p.q → parted s t ≡ true → IsLive x s → IsLive x t → IsOver x p → column_order s t ≡ Less → pos 0 ≤ℤ side t.a t.b p → pos 0 ≤ℤ side s.a s.b p
not_below s t x p some e hs ht over l k =
    kept (width t) (width s) (side s.a s.b p) (side t.a t.b p) (lift_by_sides t.a t.b s.a s.b p)
    (order_is_place.nowhere_above s t x p.x p.q e hs ht some over.0 over.1 l) (wide x t ht) (wide x s hs) k

-- ---- whole points

over_whole : (x : ℤ) (p : Point) → x ≤ℤ p.x → p.x ≤ℤ (x +ℤ pos 1) → IsOver x (whole p)
over_whole x p from to = (omega (arith, ints), omega (arith, ints))

less : (s t : Edge) (x : ℤ) (p : Point) → parted s t ≡ true → IsLive x s → IsLive x t → x ≤ℤ p.x → p.x ≤ℤ (x +ℤ pos 1) → column_order s t ≡ Less → order_against t p ≡ Less → order_against s p ≡ Less
less s t x p e hs ht from to l k =
    int_cmp_less (pos 0) (turn s.a s.b p)
    (rw (side_of_whole s.a s.b p) at (above s t x (whole p) (omega arith) e hs ht (over_whole x p from to) l (rw (side_of_whole t.a t.b p) (int_less (pos 0) (turn t.a t.b p) k))))

greater : (s t : Edge) (x : ℤ) (p : Point) → parted s t ≡ true → IsLive x s → IsLive x t → x ≤ℤ p.x → p.x ≤ℤ (x +ℤ pos 1) → column_order s t ≡ Less → order_against s p ≡ Greater → order_against t p ≡ Greater
greater s t x p e hs ht from to l k =
    greater_from_less int_cmp_total (turn t.a t.b p) (pos 0) (int_cmp_less (turn t.a t.b p) (pos 0)
    (by_lt_z (turn t.a t.b p) (pos 0) (λ m. m)
    (λ m. clash _ (rw (side_of_whole s.a s.b p) at (not_below s t x (whole p) (omega arith) e hs ht (over_whole x p from to) l (rw (side_of_whole t.a t.b p) m))) (int_less (turn s.a s.b p) (pos 0) (less_from_greater int_cmp_total (pos 0) (turn s.a s.b p) k)))))
  where
    clash : (x : ℤ) {A : Type 0} → pos 0 ≤ℤ x → x <ℤ pos 0 → A
    clash x h k = absurd (omega (arith, ints))

pub sides_keep_order : SidesKeepOrder
sides_keep_order = record {
  lift_is = λ s t p. lift_by_sides t.a t.b s.a s.b p;
  above = above;
  not_below = not_below;
  less = less;
  greater = greater;
}
