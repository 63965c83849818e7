-- The edges of one box, seen from a place in another that is apart from it.
use Rattle.std.proofs.Common.{◌≡◌, Bool, true, false, ◌&&◌, [], ◌∷◌, ℤ, pos, ◌+ℤ◌, ◌-ℤ◌, ◌*ℤ◌, ◌≤ℤ◌, ◌<ℤ◌, int_lt, int_le, refl, ap, arith}
use Rattle.std.proofs.lemmas.Int.{ints}
use Rattle.std.proofs.lemmas.Bool.{and_parts}
use Rattle.plane_base.specs.Plane.{Point, Edge, RationalPoint, IsRational, side, spans, is_below}
use Rattle.plane_base.proofs.Facts.Numbers.Products.{product_monotone, product_increasing, product_positive, product_negative, product_not_negative, product_not_positive, factor_positive, factor_negative}
use Rattle.plane_base.proofs.Facts.Numbers.Polynomials.{var, plus, minus, times, by_ring}
use Rattle.plane_base.proofs.Facts.Points.Turns.{coordinates, place, a_side}
use Rattle.segment_split.specs.Groups.{Bounds, LiesWithin}
use Rattle.segment_split.proofs.Passes.Laws.{EndsAre}
use Rattle.segment_arrangement.specs.GroupSides.{IsPlaceIn}
use Rattle.segment_arrangement.proofs.Facts.ColumnPlaces.{lt_holds, lt_fails, lt_tells, le_fails, le_tells}
use Rattle.plane_base.proofs.Facts.Crossings.Squares.{difference_below}

-- how far the place is above the edge, by how far it is above each end
side_by_ends : (a b : Point) (p : RationalPoint)
    → pos p.q *ℤ side a b p ≡ (((pos p.q *ℤ b.x) -ℤ p.x) *ℤ (p.y -ℤ (pos p.q *ℤ a.y))) +ℤ ((p.x -ℤ (pos p.q *ℤ a.x)) *ℤ (p.y -ℤ (pos p.q *ℤ b.y)))
side_by_ends a b p =
    by_ring (coordinates (a ∷ b ∷ []) (p.x ∷ p.y ∷ pos p.q ∷ []))
    (times (var 6) (a_side (place 0) (place 1) (place 2) (var 6)))
    (plus (times (minus (times (var 6) (var 2)) (var 4)) (minus (var 5) (times (var 6) (var 1)))) (times (minus (var 4) (times (var 6) (var 0))) (minus (var 5) (times (var 6) (var 3)))))
    refl

chain : (x y z w : ℤ) → x ≤ℤ y → y ≤ℤ z → z ≤ℤ w → x ≤ℤ w
chain x y z w l m n = omega (arith, ints)

chain_over : (x y z w : ℤ) → x ≤ℤ y → y <ℤ z → z ≤ℤ w → x <ℤ w
chain_over x y z w l m n = omega (arith, ints)

gap : (x y : ℤ) → x <ℤ y → pos 0 <ℤ (y -ℤ x)
gap x y l = omega (arith, ints)

no_drop : (x y : ℤ) → x ≤ℤ y → pos 0 ≤ℤ (y -ℤ x)
no_drop x y l = omega (arith, ints)

weak : (x y : ℤ) → x <ℤ y → x ≤ℤ y
weak x y l = omega (arith, ints)

not_and : (b c : Bool) → c ≡ false → b && c ≡ false
not_and true c e = e
not_and false c e = refl

module _ (p : RationalPoint) (some : IsRational p) where
  some_q : pos 0 <ℤ pos p.q
  some_q = omega (arith, ints, some)

  -- times q, the order is kept
  times_le : (x y : ℤ) → x ≤ℤ y → (pos p.q *ℤ x) ≤ℤ (pos p.q *ℤ y)
  times_le x y l = product_monotone (pos p.q) x y (weak _ _ some_q) l

  times_lt : (x y : ℤ) → x <ℤ y → (pos p.q *ℤ x) <ℤ (pos p.q *ℤ y)
  times_lt x y l = product_increasing (pos p.q) x y some_q l

  module _ (s : Edge) where
    -- beside: the edge doesn't reach over the place's column
    not_spanned_after : (pos p.q *ℤ s.b.x) ≤ℤ p.x → is_below s.a s.b p ≡ false
    not_spanned_after l =
        ap (λ b. b && int_lt (pos 0) (side s.a s.b p)) (not_and (int_le (pos p.q *ℤ s.a.x) p.x) (int_lt p.x (pos p.q *ℤ s.b.x)) (lt_fails p.x (pos p.q *ℤ s.b.x) l))

    not_spanned_before : p.x <ℤ (pos p.q *ℤ s.a.x) → is_below s.a s.b p ≡ false
    not_spanned_before l =
        ap (λ b. (b && int_lt p.x (pos p.q *ℤ s.b.x)) && int_lt (pos 0) (side s.a s.b p)) (le_fails (pos p.q *ℤ s.a.x) p.x l)

    -- above: the place lies below both ends
    not_below : p.y <ℤ (pos p.q *ℤ s.a.y) → p.y <ℤ (pos p.q *ℤ s.b.y) → is_below s.a s.b p ≡ false
    not_below l m = by (spans s.a s.b p) refl
      where
        by : (over : Bool) → spans s.a s.b p ≡ over → over && int_lt (pos 0) (side s.a s.b p) ≡ false
        by false e = refl
        by true e =
            let ends = and_parts (int_le (pos p.q *ℤ s.a.x) p.x) (int_lt p.x (pos p.q *ℤ s.b.x)) e in
            lt_fails (pos 0) (side s.a s.b p)
            (weak _ _
            (factor_negative (pos p.q) (side s.a s.b p) some_q
            (sum _ _ _ (side_by_ends s.a s.b p)
            (product_negative ((pos p.q *ℤ s.b.x) -ℤ p.x) (p.y -ℤ (pos p.q *ℤ s.a.y)) (gap _ _ (lt_tells p.x (pos p.q *ℤ s.b.x) ends.1)) (difference_below _ _ l))
            (product_not_positive (p.x -ℤ (pos p.q *ℤ s.a.x)) (p.y -ℤ (pos p.q *ℤ s.b.y)) (no_drop _ _ (le_tells (pos p.q *ℤ s.a.x) p.x ends.0)) (weak _ _ (difference_below _ _ m))))))
          where
            sum : (z x y : ℤ) → z ≡ x +ℤ y → x <ℤ pos 0 → y ≤ℤ pos 0 → z <ℤ pos 0
            sum z x y e l m = omega (arith, ints)

    -- below: the place lies above both ends
    below_spanned : (pos p.q *ℤ s.a.y) <ℤ p.y → (pos p.q *ℤ s.b.y) <ℤ p.y → is_below s.a s.b p ≡ spans s.a s.b p
    below_spanned l m = by (spans s.a s.b p) refl
      where
        by : (over : Bool) → spans s.a s.b p ≡ over → over && int_lt (pos 0) (side s.a s.b p) ≡ over
        by false e = refl
        by true e =
            let ends = and_parts (int_le (pos p.q *ℤ s.a.x) p.x) (int_lt p.x (pos p.q *ℤ s.b.x)) e in
            lt_holds (pos 0) (side s.a s.b p)
            (factor_positive (pos p.q) (side s.a s.b p) some_q
            (sum _ _ _ (side_by_ends s.a s.b p)
            (product_positive ((pos p.q *ℤ s.b.x) -ℤ p.x) (p.y -ℤ (pos p.q *ℤ s.a.y)) (gap _ _ (lt_tells p.x (pos p.q *ℤ s.b.x) ends.1)) (gap _ _ l))
            (product_not_negative (p.x -ℤ (pos p.q *ℤ s.a.x)) (p.y -ℤ (pos p.q *ℤ s.b.y)) (no_drop _ _ (le_tells (pos p.q *ℤ s.a.x) p.x ends.0)) (weak _ _ (gap _ _ m)))))
          where
            sum : (z x y : ℤ) → z ≡ x +ℤ y → pos 0 <ℤ x → pos 0 ≤ℤ y → pos 0 <ℤ z
            sum z x y e l m = omega (arith, ints)

  -- ---- boxes

  module _ (box : Bounds) (inside : IsPlaceIn box p) (c : Bounds) (s : Edge) (ends : EndsAre (LiesWithin c) s) where
    pub left_of_place : c.right <ℤ box.left → is_below s.a s.b p ≡ false
    left_of_place l = not_spanned_after s (chain _ _ _ _ (times_le _ _ ends.1.right) (times_le _ _ (weak _ _ l)) inside.left)

    pub right_of_place : box.right <ℤ c.left → is_below s.a s.b p ≡ false
    right_of_place l = not_spanned_before s (chain_over _ _ _ _ inside.right (times_lt _ _ l) (times_le _ _ ends.0.left))

    pub above_place : box.top <ℤ c.bottom → is_below s.a s.b p ≡ false
    above_place l =
        not_below s (chain_over _ _ _ _ inside.top (times_lt _ _ l) (times_le _ _ ends.0.bottom)) (chain_over _ _ _ _ inside.top (times_lt _ _ l) (times_le _ _ ends.1.bottom))

    pub below_place : c.top <ℤ box.bottom → is_below s.a s.b p ≡ spans s.a s.b p
    below_place l =
        below_spanned s (chain_over _ _ _ _ (times_le _ _ ends.0.top) (times_lt _ _ l) inside.bottom) (chain_over _ _ _ _ (times_le _ _ ends.1.top) (times_lt _ _ l) inside.bottom)
