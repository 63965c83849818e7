-- Edges of a convex contour over one column: at most one of them leads to the right over it, and one that leads
-- to the left lies above it.
use Rattle.std.proofs.Common.{◌≡◌, Bool, true, false, ℤ, pos, ◌+ℤ◌, ◌-ℤ◌, ◌*ℤ◌, neg_ℤ, ◌≤ℤ◌, ◌<ℤ◌, arith}
use Rattle.std.specs.Prelude.{int_le}
use Rattle.std.proofs.lemmas.Int.{ints}
use Rattle.plane_base.specs.Plane.{Point, turn, RationalPoint, IsRational, side}
use Rattle.plane_base.proofs.Facts.Numbers.Products.{product_positive, product_not_negative, product_not_positive, factor_positive, below_of_products}
use Rattle.plane_base.proofs.Facts.Points.Turns.{width, lift, turn_swap, lift_swap, lift_by_ends, lift_by_sides}

-- the point's column is the rational one's or left of it
abbrev pub is_left : RationalPoint → Point → Bool
is_left p a = int_le (pos p.q *ℤ a.x) p.x

-- the edge leads to the right over the point's column
pub record LeadsRight (p : RationalPoint) (a b : Point) : Type 0 where
  pub starts : is_left p a ≡ true
  pub ends : is_left p b ≡ false

-- the weights with which the ends of an edge over the point's column count there
left_weight : (p : RationalPoint) (a : Point) → is_left p a ≡ true → pos 0 ≤ℤ (p.x -ℤ (pos p.q *ℤ a.x))
left_weight p a e = from_test (pos p.q *ℤ a.x) p.x e
  where
    from_test : (u x : ℤ) → int_le u x ≡ true → pos 0 ≤ℤ (x -ℤ u)
    from_test u x e = omega (arith, ints)

right_weight : (p : RationalPoint) (b : Point) → is_left p b ≡ false → pos 0 <ℤ ((pos p.q *ℤ b.x) -ℤ p.x)
right_weight p b e = from_test (pos p.q *ℤ b.x) p.x e
  where
    from_test : (u x : ℤ) → int_le u x ≡ false → pos 0 <ℤ (u -ℤ x)
    from_test u x e = omega (arith, ints)

width_positive : (p : RationalPoint) (a b : Point) → IsRational p → LeadsRight p a b → pos 0 <ℤ width a b
width_positive p a b q e =
    difference a.x b.x (below_of_products (pos p.q) a.x b.x (omega (arith, ints)) (from_tests (pos p.q *ℤ a.x) p.x (pos p.q *ℤ b.x) e.starts e.ends))
  where
    from_tests : (u x v : ℤ) → int_le u x ≡ true → int_le v x ≡ false → u <ℤ v
    from_tests u x v e f = omega (arith, ints)

    difference : (u v : ℤ) → u <ℤ v → pos 0 <ℤ (v -ℤ u)
    difference u v h = omega (arith, ints)

-- Two edges lead to the right over one column. Neither has an end strictly right of the other; then the one
-- doesn't start strictly left of the other.
pub forward_edges_meet : (a b s t : Point) (p : RationalPoint) → LeadsRight p a b → LeadsRight p s t → pos 0 <ℤ turn a b s → pos 0 ≤ℤ turn a b t → pos 0 ≤ℤ turn s t a → pos 0 ≤ℤ turn s t b → ⊥
forward_edges_meet a b s t p e f hs ht ha hb =
    apart
    (((pos p.q *ℤ t.x) -ℤ p.x) *ℤ turn a b s)
    ((p.x -ℤ (pos p.q *ℤ s.x)) *ℤ turn a b t)
    (((pos p.q *ℤ b.x) -ℤ p.x) *ℤ turn s t a)
    ((p.x -ℤ (pos p.q *ℤ a.x)) *ℤ turn s t b)
    (lift s t a b p.x (pos p.q))
    (lift a b s t p.x (pos p.q))
    (lift_by_ends s t a b p.x (pos p.q))
    (lift_by_ends a b s t p.x (pos p.q))
    (lift_swap s t a b p.x (pos p.q))
    (product_positive _ (turn a b s) (right_weight p t f.ends) hs)
    (product_not_negative _ (turn a b t) (left_weight p s f.starts) ht)
    (product_not_negative _ (turn s t a) (weaker _ (right_weight p b e.ends)) ha)
    (product_not_negative _ (turn s t b) (left_weight p a e.starts) hb)
  where
    weaker : (w : ℤ) → pos 0 <ℤ w → pos 0 ≤ℤ w
    weaker w h = omega (arith, ints)

    apart : (u v x y l m : ℤ) → u +ℤ v ≡ l → x +ℤ y ≡ m → l ≡ neg_ℤ m → pos 0 <ℤ u → pos 0 ≤ℤ v → pos 0 ≤ℤ x → pos 0 ≤ℤ y → ⊥
    apart u v x y l m e f g hu hv hx hy = omega (arith, ints)

-- An edge leads to the right over the point's column and another, from s to t, leads to the left over it, with no
-- end of the first strictly right of it. What lies above the second lies above the first.
pub forward_edge_below : (a b s t : Point) (p : RationalPoint) → IsRational p → LeadsRight p a b → LeadsRight p t s → pos 0 ≤ℤ turn s t a → pos 0 ≤ℤ turn s t b → pos 0 <ℤ side t s p → pos 0 <ℤ side a b p
forward_edge_below a b s t p q e f ha hb h =
    factor_positive (width t s) (side a b p) (width_positive p t s q f)
    (more
    (((pos p.q *ℤ b.x) -ℤ p.x) *ℤ turn t s a)
    ((p.x -ℤ (pos p.q *ℤ a.x)) *ℤ turn t s b)
    (lift a b t s p.x (pos p.q))
    (width a b *ℤ side t s p)
    (width t s *ℤ side a b p)
    (lift_by_ends a b t s p.x (pos p.q))
    (lift_by_sides a b t s p)
    (product_not_positive _ (turn t s a) (weaker _ (right_weight p b e.ends)) (negated (turn t s a) (turn s t a) (turn_swap t s a) ha))
    (product_not_positive _ (turn t s b) (left_weight p a e.starts) (negated (turn t s b) (turn s t b) (turn_swap t s b) hb))
    (product_positive (width a b) (side t s p) (width_positive p a b q e) h))
  where
    weaker : (w : ℤ) → pos 0 <ℤ w → pos 0 ≤ℤ w
    weaker w h = omega (arith, ints)

    negated : (u v : ℤ) → u ≡ neg_ℤ v → pos 0 ≤ℤ v → u ≤ℤ pos 0
    negated u v e h = omega (arith, ints)

    more : (u v l x y : ℤ) → u +ℤ v ≡ l → l ≡ x -ℤ y → u ≤ℤ pos 0 → v ≤ℤ pos 0 → pos 0 <ℤ x → pos 0 <ℤ y
    more u v l x y e f hu hv hx = omega (arith, ints)
