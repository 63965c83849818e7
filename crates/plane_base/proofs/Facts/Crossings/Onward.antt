-- A segment that begins at the x where another ends is parted from it, where neither is vertical.
--
-- Above, cite `onward_parted`.
use Rattle.std.specs.Prelude.{◌≡◌, ◌≢◌, ℤ, pos, ◌-ℤ◌, ◌*ℤ◌, ◌<ℤ◌, ◌⊎◌, true, [], ◌∷◌, unsigned_abs}
use Rattle.std.proofs.Common.{refl, sym, ap, ◌∙◌, subst, inl, inr, arith}
use Rattle.std.proofs.lemmas.Int.{ints}
use Rattle.std.proofs.Math.IntN.{*ℤ-zero}
use Rattle.plane_base.specs.Plane.{Point, Edge, RationalPoint, turn}
use Rattle.plane_base.specs.Segments.{strictly_inside, cross_properly, parted}
use Rattle.plane_base.specs.Crossing.{crossing}
use Rattle.plane_base.proofs.Facts.Numbers.Products.{product_positive, product_negative}
use Rattle.plane_base.proofs.Facts.Numbers.Polynomials.{var, minus, times, by_ring}
use Rattle.plane_base.proofs.Facts.Points.Turns.{coordinates, place, a_turn}
use Rattle.plane_base.proofs.Facts.Points.Orders.{int_less, int_cmp_less}
use Rattle.plane_base.proofs.Facts.Crossings.Tests.{ends_apart, inside_tells}
use Rattle.plane_base.proofs.Facts.Crossings.Place.{after_first, before_second, crossing_swapped, other_apart}
use Rattle.plane_base.proofs.Facts.Crossings.Parted.{none_inside, parted_from}
use Rattle.plane_base.proofs.Facts.Crossings.Beside.{refuted}
use Rattle.plane_base.proofs.Facts.Columns.Verticals.{fall}

-- ---- what lies inside a segment that isn't vertical lies strictly between the x of its ends

from_end : (s : Edge) (p : Point) → turn s.a s.b p ≡ ((s.b.x -ℤ s.a.x) *ℤ (p.y -ℤ s.b.y)) -ℤ ((s.b.y -ℤ s.a.y) *ℤ (p.x -ℤ s.b.x))
from_end s p =
    by_ring (coordinates (s.a ∷ s.b ∷ p ∷ []) [])
    (a_turn (place 0) (place 1) (place 2))
    (minus (times (minus (var 2) (var 0)) (minus (var 5) (var 3))) (times (minus (var 3) (var 1)) (minus (var 4) (var 2))))
    refl

gap : (x y : ℤ) → x <ℤ y → pos 0 <ℤ (y -ℤ x)
gap x y h = omega (arith, ints)

level : (x y z : ℤ) → x ≡ y → z *ℤ (y -ℤ x) ≡ pos 0
level x y z e = ap (λ w. z *ℤ w) (zero x y e) ∙ *ℤ-zero z
  where
    zero : (x y : ℤ) → x ≡ y → y -ℤ x ≡ pos 0
    zero x y e = omega (arith, ints)

above : (m n : ℤ) {A : Type 0} → m -ℤ n ≡ pos 0 → n ≡ pos 0 → pos 0 <ℤ m → A
above m n e f h = absurd (omega (arith, ints))

below : (m n : ℤ) {A : Type 0} → m -ℤ n ≡ pos 0 → n ≡ pos 0 → m <ℤ pos 0 → A
below m n e f h = absurd (omega (arith, ints))

inside_right : (p : Point) (s : Edge) → s.a.x <ℤ s.b.x → strictly_inside p s ≡ true → s.a.x <ℤ p.x
inside_right p s wide e = let h = inside_tells p s e in by h.0 h.1
  where
    by : turn s.a s.b p ≡ pos 0 → (s.a.x <ℤ p.x) ⊎ ((s.a.x ≡ p.x) × (s.a.y <ℤ p.y)) → s.a.x <ℤ p.x
    by flat (inl l) = l
    by flat (inr (e, l)) =
        above ((s.b.x -ℤ s.a.x) *ℤ (p.y -ℤ s.a.y)) ((s.b.y -ℤ s.a.y) *ℤ (p.x -ℤ s.a.x)) flat (level s.a.x p.x (s.b.y -ℤ s.a.y) e)
        (product_positive (s.b.x -ℤ s.a.x) (p.y -ℤ s.a.y) (gap s.a.x s.b.x wide) (gap s.a.y p.y l))

inside_left : (p : Point) (s : Edge) → s.a.x <ℤ s.b.x → strictly_inside p s ≡ true → p.x <ℤ s.b.x
inside_left p s wide e = let h = inside_tells p s e in by (sym (from_end s p) ∙ h.0) h.2
  where
    by : ((s.b.x -ℤ s.a.x) *ℤ (p.y -ℤ s.b.y)) -ℤ ((s.b.y -ℤ s.a.y) *ℤ (p.x -ℤ s.b.x)) ≡ pos 0 → (p.x <ℤ s.b.x) ⊎ ((p.x ≡ s.b.x) × (p.y <ℤ s.b.y)) → p.x <ℤ s.b.x
    by flat (inl l) = l
    by flat (inr (e, l)) =
        below ((s.b.x -ℤ s.a.x) *ℤ (p.y -ℤ s.b.y)) ((s.b.y -ℤ s.a.y) *ℤ (p.x -ℤ s.b.x)) flat (level s.b.x p.x (s.b.y -ℤ s.a.y) (sym e))
        (product_negative (s.b.x -ℤ s.a.x) (p.y -ℤ s.b.y) (gap s.a.x s.b.x wide) (fall p.y s.b.y l))

-- ---- the law

module _ (s t : Edge) (wide : s.a.x <ℤ s.b.x) (on : t.a.x <ℤ t.b.x) (meet : t.a.x ≡ s.b.x) where
  -- the crossing would lie left and right of the common x
  not_proper : cross_properly s t ≢ true
  not_proper e = clash (pos (crossing s t).q *ℤ t.a.x) (crossing s t).x right (subst (λ x. (crossing s t).x <ℤ (pos (crossing s t).q *ℤ x)) (sym meet) left)
    where
      left : (crossing s t).x <ℤ (pos (crossing s t).q *ℤ s.b.x)
      left =
          let u = unsigned_abs (turn t.a t.b s.a) in
          let v = unsigned_abs (turn t.a t.b s.b) in
          int_less _ _ (before_second s.a.x s.b.x u v (ends_apart s t e).1 ∙ int_cmp_less s.a.x s.b.x wide)

      right : (pos (crossing s t).q *ℤ t.a.x) <ℤ (crossing s t).x
      right =
          let u = unsigned_abs (turn s.a s.b t.a) in
          let v = unsigned_abs (turn s.a s.b t.b) in
          let IsRight : RationalPoint → Type 0 = λ p. (pos p.q *ℤ t.a.x) <ℤ p.x in
          subst IsRight (sym (crossing_swapped s t e)) (int_less _ _ (after_first t.a.x t.b.x u v (other_apart s t e).0 ∙ int_cmp_less t.a.x t.b.x on))

      clash : (x y : ℤ) → x <ℤ y → y <ℤ x → ⊥
      clash x y h k = omega (arith, ints)

  pub onward_parted : parted s t ≡ true
  onward_parted =
      parted_from s t (refuted (cross_properly s t) not_proper)
      (none_inside s t (refuted (strictly_inside t.a s) (λ e. first s.b.x t.a.x (inside_left t.a s wide e) meet)) (refuted (strictly_inside t.b s) (λ e. second s.b.x t.a.x t.b.x (inside_left t.b s wide e) on meet)))
      (none_inside t s (refuted (strictly_inside s.a t) (λ e. third s.a.x s.b.x t.a.x (inside_right s.a t on e) wide meet)) (refuted (strictly_inside s.b t) (λ e. fourth s.b.x t.a.x (inside_right s.b t on e) meet)))
    where
      first : (x y : ℤ) → y <ℤ x → y ≡ x → ⊥
      first x y h e = omega (arith, ints)

      second : (x y z : ℤ) → z <ℤ x → y <ℤ z → y ≡ x → ⊥
      second x y z h k e = omega (arith, ints)

      third : (w x y : ℤ) → y <ℤ w → w <ℤ x → y ≡ x → ⊥
      third w x y h k e = omega (arith, ints)

      fourth : (x y : ℤ) → y <ℤ x → y ≡ x → ⊥
      fourth x y h e = omega (arith, ints)
