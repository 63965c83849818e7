-- A vertical segment stands above or below what is parted from it and reaches over its column.
--
-- Above, cite `vertical_is_beside`.
use Rattle.std.proofs.Common.{◌≡◌, ◌<◌, Bool, true, false, ℤ, pos, ◌+ℤ◌, ◌-ℤ◌, ◌*ℤ◌, ◌≤ℤ◌, ◌<ℤ◌, [], ◌∷◌, ◌⊎◌, inl, inr, ⊎_elim, refl, sym, ap, ◌∙◌, arith}
use Rattle.std.proofs.lemmas.Int.{ints, by_lt_z}
use Rattle.std.proofs.Math.IntN.{*ℤ-zero}
use Rattle.std.proofs.lemmas.Bool.{false≢true}
use Rattle.plane_base.specs.Plane.{Point, Edge, RationalPoint, scaled, numerators, turn, side}
use Rattle.plane_base.specs.Segments.{strictly_inside, opposite, cross_properly, width}
use Rattle.plane_base.specs.ColumnLaws.{IsLive, IsVertical, IsInnerOf, VerticalIsBeside}
use Rattle.plane_base.proofs.Facts.Numbers.Products.{product_positive, product_not_negative, product_negative, product_not_positive, factor_zero, factor_positive, factor_negative}
use Rattle.plane_base.proofs.Facts.Numbers.Polynomials.{var, minus, plus, times, by_ring_given}
use Rattle.plane_base.proofs.Facts.Points.Turns.{coordinates, place, a_turn, a_side}
use Rattle.plane_base.proofs.Facts.Points.Orders.{point_less, point_less_by_x, point_less_by_y}
use Rattle.plane_base.proofs.Facts.Crossings.Tests.{opposite_tells}
use Rattle.plane_base.proofs.Facts.Crossings.Parted.{AreParted, parted_tells}
use Rattle.plane_base.proofs.Facts.Columns.Parted.{IsBetween, where_on, opposite_is}
use Rattle.plane_base.proofs.Facts.Columns.Order.{before_of_order, inside_from}

-- ---- turns against a vertical segment

-- of a vertical line to a point, by how far it stands left of it
vertical_turn : (v : Edge) (p : Point) → v.a.x ≡ v.b.x → turn v.a v.b p ≡ (v.b.y -ℤ v.a.y) *ℤ (v.a.x -ℤ p.x)
vertical_turn v p e =
    by_ring_given (coordinates (v.a ∷ v.b ∷ p ∷ []) [])
    (a_turn (place 0) (place 1) (place 2))
    (times (minus (var 3) (var 1)) (minus (var 0) (var 4)))
    (minus (var 5) (var 1)) (var 2) (var 0) (sym e) refl

-- to a point at the column at which the segment starts
start_turn : (s : Edge) (e : Point) → e.x ≡ s.a.x → turn s.a s.b e ≡ width s *ℤ (e.y -ℤ s.a.y)
start_turn s e f =
    by_ring_given (coordinates (s.a ∷ s.b ∷ e ∷ []) [])
    (a_turn (place 0) (place 1) (place 2))
    (times (minus (var 2) (var 0)) (minus (var 5) (var 1)))
    (minus (var 1) (var 3)) (var 4) (var 0) f refl

-- to a place straight above or below a point
side_from_point : (s : Edge) (e : Point) (p : RationalPoint) → p.x ≡ pos p.q *ℤ e.x → side s.a s.b p ≡ (width s *ℤ (p.y -ℤ (pos p.q *ℤ e.y))) +ℤ (pos p.q *ℤ turn s.a s.b e)
side_from_point s e p f =
    by_ring_given (coordinates (s.a ∷ s.b ∷ e ∷ []) (p.x ∷ p.y ∷ pos p.q ∷ []))
    (a_side (place 0) (place 1) (place 3) (var 8))
    (plus (times (minus (var 2) (var 0)) (minus (var 7) (times (var 8) (var 5)))) (times (var 8) (a_turn (place 0) (place 1) (place 2))))
    (minus (var 1) (var 3)) (var 6) (times (var 8) (var 4)) f refl

rise_of_turns : (s v : Edge) → v.a.x ≡ v.b.x → turn s.a s.b v.b -ℤ turn s.a s.b v.a ≡ width s *ℤ (v.b.y -ℤ v.a.y)
rise_of_turns s v e =
    by_ring_given (coordinates (s.a ∷ s.b ∷ v.a ∷ v.b ∷ []) [])
    (minus (a_turn (place 0) (place 1) (place 3)) (a_turn (place 0) (place 1) (place 2)))
    (times (minus (var 2) (var 0)) (minus (var 7) (var 5)))
    (minus (var 1) (var 3)) (var 6) (var 4) (sym e) refl

-- ---- an inner point

pub record IsInside (p : RationalPoint) (v : Edge) : Type 0 where
  pub over : p.x ≡ pos p.q *ℤ v.a.x
  pub above : (pos p.q *ℤ v.a.y) <ℤ p.y
  pub under : p.y <ℤ (pos p.q *ℤ v.b.y)

between_vertical : (p : RationalPoint) (v : Edge) → v.a.x ≡ v.b.x → IsBetween p v → IsInside p v
between_vertical p v e h = by (point_less (scaled p.q v.a) (numerators p) h.after) (point_less (numerators p) (scaled p.q v.b) h.before)
  where
    same : pos p.q *ℤ v.a.x ≡ pos p.q *ℤ v.b.x
    same = ap (λ z. pos p.q *ℤ z) e

    clash : (x y z : ℤ) {A : Type 0} → x ≡ z → x <ℤ y → y <ℤ z → A
    clash x y z e h k = absurd (omega (arith, ints))

    clash_end : (x y z : ℤ) {A : Type 0} → x ≡ z → x <ℤ y → y ≡ z → A
    clash_end x y z e h k = absurd (omega (arith, ints))

    clash_start : (x y z : ℤ) {A : Type 0} → x ≡ z → x ≡ y → y <ℤ z → A
    clash_start x y z e h k = absurd (omega (arith, ints))

    by : ((pos p.q *ℤ v.a.x) <ℤ p.x) ⊎ ((pos p.q *ℤ v.a.x ≡ p.x) × ((pos p.q *ℤ v.a.y) <ℤ p.y)) → (p.x <ℤ (pos p.q *ℤ v.b.x)) ⊎ ((p.x ≡ pos p.q *ℤ v.b.x) × (p.y <ℤ (pos p.q *ℤ v.b.y))) → IsInside p v
    by (inl l) (inl m) = clash _ _ _ same l m
    by (inl l) (inr m) = clash_end _ _ _ same l m.0
    by (inr l) (inl m) = clash_start _ _ _ same l.0 m
    by (inr l) (inr m) = record { over = sym l.0; above = l.1; under = m.1 }

inner_inside : (p : RationalPoint) (v : Edge) → v.a.x ≡ v.b.x → IsInnerOf p v → IsInside p v
inner_inside p v e h = ⊎_elim (λ k. absurd (h.1 k)) (λ k. between_vertical p v e k) (where_on p v h.0)

gap : (x y : ℤ) → x <ℤ y → pos 0 <ℤ (y -ℤ x)
gap x y h = omega (arith, ints)

pub fall : (x y : ℤ) → x <ℤ y → (x -ℤ y) <ℤ pos 0
fall x y h = omega (arith, ints)

refused : {b : Bool} {A : Type 0} → b ≡ false → b ≡ true → A
refused f g = absurd (false≢true (sym f ∙ g))

module _ (s v : Edge) (parts : AreParted s v) (vertical : IsVertical v) (live : IsLive v.a.x s) where
  wide : pos 0 <ℤ width s
  wide = omega (arith, ints, live.0, live.1)

  tall : pos 0 <ℤ (v.b.y -ℤ v.a.y)
  tall = gap v.a.y v.b.y vertical.1

  at_column : (e : Point) → (e ≡ v.a) ⊎ (e ≡ v.b) → e.x ≡ v.a.x
  at_column e (inl h) = ap (λ z. z.x) h
  at_column e (inr h) = ap (λ z. z.x) h ∙ sym vertical.0

  not_inside : (e : Point) → (e ≡ v.a) ⊎ (e ≡ v.b) → strictly_inside e s ≡ false
  not_inside e (inl h) = ap (λ z. strictly_inside z s) h ∙ parts.first_end
  not_inside e (inr h) = ap (λ z. strictly_inside z s) h ∙ parts.second_end

  in_start : (e : Point) → (e ≡ v.a) ⊎ (e ≡ v.b) → turn s.a s.b e ≡ pos 0 → e ≡ s.a
  in_start e h f =
      by_lt_z s.a.x e.x
      (λ l. refused (not_inside e h) (inside_from e s f (before_of_order s.a e (point_less_by_x s.a e l)) (before_of_order e s.b (point_less_by_x e s.b (omega (arith, ints, live.1, at_column e h))))))
      (λ l. start (omega (arith, ints, l, live.0, at_column e h)))
    where
      level : (x y : ℤ) → x -ℤ y ≡ pos 0 → x ≡ y
      level x y e = omega (arith, ints)

      start : e.x ≡ s.a.x → e ≡ s.a
      start g = let y = level e.y s.a.y (factor_zero (width s) (e.y -ℤ s.a.y) wide (sym (start_turn s e g) ∙ f)) in λ i. record { x = g i; y = y i }

  rises : turn s.a s.b v.a <ℤ turn s.a s.b v.b
  rises = more _ _ _ (rise_of_turns s v vertical.0) (product_positive (width s) (v.b.y -ℤ v.a.y) wide tall)
    where
      more : (x y z : ℤ) → y -ℤ x ≡ z → pos 0 <ℤ z → x <ℤ y
      more x y z e h = omega (arith, ints)

  -- the segment would pass from below v's second end to above its first one
  across : turn s.a s.b v.a <ℤ pos 0 → pos 0 <ℤ turn s.a s.b v.b → ⊥
  across h k = by_lt_z s.a.x v.a.x (λ l. properly l) (λ l. in_column (omega (arith, ints, l, live.0)))
    where
      level : (x : ℤ) → x -ℤ x ≡ pos 0
      level x = omega (arith, ints)

      above : (x y : ℤ) → pos 0 <ℤ (y -ℤ x) → x <ℤ y
      above x y h = omega (arith, ints)

      below : (x y : ℤ) → (y -ℤ x) <ℤ pos 0 → y <ℤ x
      below x y h = omega (arith, ints)

      properly : s.a.x <ℤ v.a.x → ⊥
      properly l =
          let left : pos 0 <ℤ turn v.a v.b s.a = rw (vertical_turn v s.a vertical.0) (product_positive (v.b.y -ℤ v.a.y) (v.a.x -ℤ s.a.x) tall (gap s.a.x v.a.x l)) in
          let right : turn v.a v.b s.b <ℤ pos 0 = rw (vertical_turn v s.b vertical.0) (product_negative (v.b.y -ℤ v.a.y) (v.a.x -ℤ s.b.x) tall (fall v.a.x s.b.x live.1)) in
          let first = opposite_is (turn s.a s.b v.a) (turn s.a s.b v.b) (inr (h, k)) in
          let second = opposite_is (turn v.a v.b s.a) (turn v.a v.b s.b) (inl (left, right)) in
          let proper : cross_properly s v ≡ true = rw (first, second) refl in
          refused parts.not_proper proper

      in_column : s.a.x ≡ v.a.x → ⊥
      in_column e =
          let low : v.a.y <ℤ s.a.y = below s.a.y v.a.y (factor_negative (width s) (v.a.y -ℤ s.a.y) wide (rw (start_turn s v.a (sym e)) at h)) in
          let high : s.a.y <ℤ v.b.y = above s.a.y v.b.y (factor_positive (width s) (v.b.y -ℤ s.a.y) wide (rw (start_turn s v.b (sym vertical.0 ∙ sym e)) at k)) in
          let flat : turn v.a v.b s.a ≡ pos 0 = vertical_turn v s.a vertical.0 ∙ (ap (λ z. (v.b.y -ℤ v.a.y) *ℤ (v.a.x -ℤ z)) e ∙ (ap (λ z. (v.b.y -ℤ v.a.y) *ℤ z) (level v.a.x) ∙ *ℤ-zero (v.b.y -ℤ v.a.y))) in
          refused parts.own_first (inside_from s.a v flat (before_of_order v.a s.a (point_less_by_y v.a s.a (sym e) low)) (before_of_order s.a v.b (point_less_by_y s.a v.b (e ∙ vertical.0) high)))

  not_across : opposite (turn s.a s.b v.a) (turn s.a s.b v.b) ≡ false
  not_across = by (opposite (turn s.a s.b v.a) (turn s.a s.b v.b)) refl
    where
      falls : (x y : ℤ) → x <ℤ y → pos 0 <ℤ x → y <ℤ pos 0 → ⊥
      falls x y l h k = absurd (omega (arith, ints))

      by : (b : Bool) → opposite (turn s.a s.b v.a) (turn s.a s.b v.b) ≡ b → b ≡ false
      by true e = absurd (⊎_elim (λ h. falls _ _ rises h.0 h.1) (λ h. across h.0 h.1) (opposite_tells (turn s.a s.b v.a) (turn s.a s.b v.b) e))
      by false e = refl

  above_all : pos 0 ≤ℤ turn s.a s.b v.a → (p : RationalPoint) → 0 < p.q → IsInnerOf p v → pos 0 <ℤ side s.a s.b p
  above_all h p some inner =
      let k = inner_inside p v vertical.0 inner in
      rw (side_from_point s v.a p k.over) (both _ _ (product_positive (width s) (p.y -ℤ (pos p.q *ℤ v.a.y)) wide (gap _ _ k.above)) (product_not_negative (pos p.q) (turn s.a s.b v.a) (omega (arith, ints)) h))
    where
      both : (x y : ℤ) → pos 0 <ℤ x → pos 0 ≤ℤ y → pos 0 <ℤ (x +ℤ y)
      both x y h k = omega (arith, ints)

  below_all : turn s.a s.b v.b ≤ℤ pos 0 → (p : RationalPoint) → 0 < p.q → IsInnerOf p v → side s.a s.b p <ℤ pos 0
  below_all h p some inner =
      let k = inner_inside p v vertical.0 inner in
      rw (side_from_point s v.b p (k.over ∙ ap (λ z. pos p.q *ℤ z) vertical.0)) (both _ _ (product_negative (width s) (p.y -ℤ (pos p.q *ℤ v.b.y)) wide (fall _ _ k.under)) (product_not_positive (pos p.q) (turn s.a s.b v.b) (omega (arith, ints)) h))
    where
      both : (x y : ℤ) → x <ℤ pos 0 → y ≤ℤ pos 0 → (x +ℤ y) <ℤ pos 0
      both x y h k = omega (arith, ints)

  inner : ((p : RationalPoint) → 0 < p.q → IsInnerOf p v → pos 0 <ℤ side s.a s.b p) ⊎ ((p : RationalPoint) → 0 < p.q → IsInnerOf p v → side s.a s.b p <ℤ pos 0)
  inner =
      by_lt_z (turn s.a s.b v.a) (pos 0)
      (λ h. by_lt_z (pos 0) (turn s.a s.b v.b) (λ k. absurd (across h k)) (λ k. inr (below_all k)))
      (λ h. inl (above_all h))

pub vertical_is_beside : VerticalIsBeside
vertical_is_beside = record {
  not_across = λ s v e h k. not_across s v (parted_tells s v e) h k;
  in_start = λ s v p e h k. in_start s v (parted_tells s v e) h k p;
  inner = λ s v e h k. inner s v (parted_tells s v e) h k;
}
