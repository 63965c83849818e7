-- Whole points to which points of a segment are rounded stand in its direction, and late marks are such points.
--
-- Above, cite `rounding_keeps_order`, `rounded_climb` and `late_marks_are_rounded`; `inside_rounded` is for a whole point inside.
use Rattle.std.proofs.Common.{◌≡◌, ℕ, ◌<◌, true, ◌&&◌, ℤ, pos, ◌-ℤ◌, ◌*ℤ◌, ◌≤ℤ◌, ◌<ℤ◌, [], ◌∷◌, ◌⊎◌, inl, inr, ⊎_elim, refl, sym, ap, ◌∙◌, arith}
use Rattle.std.specs.declared.cmp.Ordering.{Ordering}
use Rattle.std.specs.declared.cmp.Ordering.TheVariants.{Less, Equal, Greater}
use Rattle.std.specs.Ordering.{int_eq, is_le}
use Rattle.std.proofs.lemmas.Int.{ints, by_lt_z}
use Rattle.std.proofs.Math.IntN.{*ℤ_comm, *ℤ-zero}
use Rattle.std.proofs.lemmas.Bool.Decides.{Decides-int_eq}
use Rattle.plane_base.specs.Plane.{Point, Edge, RationalPoint, scaled, numerators, turn, side, is_before, point_order, lies_on}
use Rattle.plane_base.specs.Segments.{width, strictly_inside, cross_properly}
use Rattle.plane_base.specs.Crossing.{rounded, crossing, pure, touching, late_meeting, Marks, exchanged, laid_by}
use Rattle.plane_base.specs.RoundingLaws.{RoundingKeepsOrder, IsRoundedOn, IsAlong, RoundedClimb, AreRounded, LateMarksAreRounded}
use Rattle.plane_base.proofs.Facts.Numbers.Products.{product_not_negative, product_not_positive, factor_not_negative, factor_not_positive, below_of_products, at_most_of_products, same_of_products}
use Rattle.plane_base.proofs.Facts.Numbers.Polynomials.{var, minus, times, by_ring}
use Rattle.plane_base.proofs.Facts.Points.Turns.{coordinates, place, a_side, whole, side_of_whole, turn_there_and_back, turn_end_twice}
use Rattle.plane_base.proofs.Facts.Points.Orders.{point_equal, point_less, before_is_less}
use Rattle.plane_base.proofs.Facts.Crossings.Tests.{both_true}
use Rattle.plane_base.proofs.Facts.Numbers.Rounding.{nearest_monotone, nearest_whole}
use Rattle.plane_base.proofs.Facts.Crossings.Place.{crossing_is_common}
use Rattle.plane_base.proofs.Facts.Crossings.Marks.{all_unless_end, touching_lays, inside_all}
use Rattle.plane_base.proofs.Facts.Crossings.MarkLaws.{either, late_by}

pub rounding_keeps_order : RoundingKeepsOrder
rounding_keeps_order = record { order = nearest_monotone; whole = λ n q h. nearest_whole (pos q *ℤ n) n q h refl }

-- ---- a point of a segment

-- of two points the first isn't the greater
abbrev IsUpTo : Point → Point → Type 0
IsUpTo a b = (a.x <ℤ b.x) ⊎ ((a.x ≡ b.x) × (a.y ≤ℤ b.y))

up_to : (a b : Point) → is_le (point_order a b) ≡ true → IsUpTo a b
up_to a b e = by (point_order a b) refl e
  where
    level : (x y : ℤ) → x ≡ y → x ≤ℤ y
    level x y e = omega (arith, ints)

    weak : (x y : ℤ) → x <ℤ y → x ≤ℤ y
    weak x y h = omega (arith, ints)

    by : (o : Ordering) → point_order a b ≡ o → is_le o ≡ true → IsUpTo a b
    by Less f e = ⊎_elim (λ h. inl h) (λ h. inr (h.0, weak a.y b.y h.1)) (point_less a b f)
    by Equal f e = let h = point_equal a b f in inr (ap (λ z. z.x) h, level a.y b.y (ap (λ z. z.y) h))
    by Greater f e = absurd (cc)

pub record IsOn (p : RationalPoint) (s : Edge) : Type 0 where
  pub flat : side s.a s.b p ≡ pos 0
  pub from : IsUpTo (scaled p.q s.a) (numerators p)
  pub to : IsUpTo (numerators p) (scaled p.q s.b)

on_tells : (p : RationalPoint) (s : Edge) → lies_on s p ≡ true → IsOn p s
on_tells p s e =
    let h = both_true (int_eq (side s.a s.b p) (pos 0) && is_le (point_order (scaled p.q s.a) (numerators p))) (is_le (point_order (numerators p) (scaled p.q s.b))) e in
    let k = both_true (int_eq (side s.a s.b p) (pos 0)) (is_le (point_order (scaled p.q s.a) (numerators p))) h.0 in
    record { flat = (Decides-int_eq (side s.a s.b p) (pos 0)).0 k.0; from = up_to (scaled p.q s.a) (numerators p) k.1; to = up_to (numerators p) (scaled p.q s.b) h.1 }

-- ---- two points of one segment

-- how far r is beyond p, times both denominators
abbrev beyond_x : RationalPoint → RationalPoint → ℤ
beyond_x p r = (r.x *ℤ pos p.q) -ℤ (p.x *ℤ pos r.q)

abbrev beyond_y : RationalPoint → RationalPoint → ℤ
beyond_y p r = (r.y *ℤ pos p.q) -ℤ (p.y *ℤ pos r.q)

abbrev rise : Edge → ℤ
rise s = s.b.y -ℤ s.a.y

beyond_by_sides : (s : Edge) (p r : RationalPoint) → (pos p.q *ℤ side s.a s.b r) -ℤ (pos r.q *ℤ side s.a s.b p) ≡ (width s *ℤ beyond_y p r) -ℤ (beyond_x p r *ℤ rise s)
beyond_by_sides s p r =
    by_ring (coordinates (s.a ∷ s.b ∷ []) (p.x ∷ p.y ∷ pos p.q ∷ r.x ∷ r.y ∷ pos r.q ∷ []))
    (minus (times (var 6) (a_side (place 0) (place 1) (record { x = var 7; y = var 8 }) (var 9))) (times (var 9) (a_side (place 0) (place 1) (record { x = var 4; y = var 5 }) (var 6))))
    (minus (times (minus (var 2) (var 0)) (minus (times (var 8) (var 6)) (times (var 5) (var 9)))) (times (minus (times (var 7) (var 6)) (times (var 4) (var 9))) (minus (var 3) (var 1))))
    refl

-- at most, for numbers seen by their gap
gap : (x y : ℤ) → pos 0 ≤ℤ (y -ℤ x) → x ≤ℤ y
gap x y h = omega (arith, ints)

gap_back : (x y : ℤ) → (y -ℤ x) ≤ℤ pos 0 → y ≤ℤ x
gap_back x y h = omega (arith, ints)

gap_of : (x y : ℤ) → x ≤ℤ y → pos 0 ≤ℤ (y -ℤ x)
gap_of x y h = omega (arith, ints)

module _ (s : Edge) (p r : RationalPoint) (some : 0 < p.q) (more : 0 < r.q) (flat_p : side s.a s.b p ≡ pos 0) (flat_r : side s.a s.b r ≡ pos 0) where
  slope : width s *ℤ beyond_y p r ≡ beyond_x p r *ℤ rise s
  slope =
      level _ _ (sym (beyond_by_sides s p r) ∙ none _ _ (ap (λ z. pos p.q *ℤ z) flat_r ∙ *ℤ-zero (pos p.q)) (ap (λ z. pos r.q *ℤ z) flat_p ∙ *ℤ-zero (pos r.q)))
    where
      none : (x y : ℤ) → x ≡ pos 0 → y ≡ pos 0 → x -ℤ y ≡ pos 0
      none x y e f = omega (arith, ints)

      level : (x y : ℤ) → x -ℤ y ≡ pos 0 → x ≡ y
      level x y e = omega (arith, ints)

  not_under : (x y : ℤ) → x ≡ y → pos 0 ≤ℤ y → pos 0 ≤ℤ x
  not_under x y e h = omega (arith, ints)

  not_over : (x y : ℤ) → x ≡ y → y ≤ℤ pos 0 → x ≤ℤ pos 0
  not_over x y e h = omega (arith, ints)

  -- by x, on a segment that isn't vertical
  pub climb_wide : pos 0 <ℤ width s → (p.x *ℤ pos r.q) ≤ℤ (r.x *ℤ pos p.q) → IsAlong s (rounded p) (rounded r)
  climb_wide wide h = record {
    right = nearest_monotone p.x r.x p.q r.q some more h;
    up = λ k. nearest_monotone p.y r.y p.q r.q some more (gap _ _ (factor_not_negative (width s) (beyond_y p r) wide (not_under _ _ slope (product_not_negative (beyond_x p r) (rise s) (gap_of _ _ h) (gap_of _ _ k)))));
    down = λ k. nearest_monotone r.y p.y r.q p.q more some (gap_back _ _ (factor_not_positive (width s) (beyond_y p r) wide (not_over _ _ slope (product_not_positive (beyond_x p r) (rise s) (gap_of _ _ h) (fall _ _ k)))));
  }
    where
      fall : (x y : ℤ) → y <ℤ x → (y -ℤ x) ≤ℤ pos 0
      fall x y h = omega (arith, ints)

-- by y, where both stand at one x and the segment doesn't fall
pub climb_horizontal : (s : Edge) (p r : RationalPoint) → 0 < p.q → 0 < r.q → s.a.y ≤ℤ s.b.y → p.x *ℤ pos r.q ≡ r.x *ℤ pos p.q → (p.y *ℤ pos r.q) ≤ℤ (r.y *ℤ pos p.q) → IsAlong s (rounded p) (rounded r)
climb_horizontal s p r some more rises e h = record {
  right = nearest_monotone p.x r.x p.q r.q some more (level _ _ e);
  up = λ k. nearest_monotone p.y r.y p.q r.q some more h;
  down = λ k. clash _ _ rises k;
}
  where
    level : (x y : ℤ) → x ≡ y → x ≤ℤ y
    level x y e = omega (arith, ints)

    clash : (x y : ℤ) {A : Type 0} → x ≤ℤ y → y <ℤ x → A
    clash x y h k = absurd (omega (arith, ints))

-- ---- a segment with a point on it is wide, or vertical and rises

pub record IsVertical (s : Edge) (p : RationalPoint) : Type 0 where
  pub level : s.a.x ≡ s.b.x
  pub rises : s.a.y ≤ℤ s.b.y
  pub over : p.x ≡ pos p.q *ℤ s.a.x
  pub from : (pos p.q *ℤ s.a.y) ≤ℤ p.y
  pub to : p.y ≤ℤ (pos p.q *ℤ s.b.y)

wide_or_vertical : (s : Edge) (p : RationalPoint) → 0 < p.q → IsOn p s → (pos 0 <ℤ width s) ⊎ IsVertical s p
wide_or_vertical s p some on = by on.from on.to
  where
    positive : pos 0 <ℤ pos p.q
    positive = omega (arith, ints)

    wider : s.a.x <ℤ s.b.x → pos 0 <ℤ width s
    wider h = omega (arith, ints)

    through : (x y z : ℤ) → x ≤ℤ y → y ≤ℤ z → x ≤ℤ z
    through x y z h k = omega (arith, ints)

    first_less : (x y z : ℤ) → x <ℤ y → (y <ℤ z) ⊎ (y ≡ z) → x <ℤ z
    first_less x y z h (inl k) = omega (arith, ints)
    first_less x y z h (inr k) = omega (arith, ints)

    second_less : (x y z : ℤ) → x ≡ y → y <ℤ z → x <ℤ z
    second_less x y z e k = omega (arith, ints)

    by : IsUpTo (scaled p.q s.a) (numerators p) → IsUpTo (numerators p) (scaled p.q s.b) → (pos 0 <ℤ width s) ⊎ IsVertical s p
    by (inl h) (inl k) = inl (wider (below_of_products (pos p.q) s.a.x s.b.x (omega (arith, ints)) (first_less _ _ _ h (inl k))))
    by (inl h) (inr k) = inl (wider (below_of_products (pos p.q) s.a.x s.b.x (omega (arith, ints)) (first_less _ _ _ h (inr k.0))))
    by (inr h) (inl k) = inl (wider (below_of_products (pos p.q) s.a.x s.b.x (omega (arith, ints)) (second_less _ _ _ h.0 k)))
    by (inr h) (inr k) = inr (record {
      level = same_of_products (pos p.q) s.a.x s.b.x positive (h.0 ∙ k.0);
      rises = at_most_of_products (pos p.q) s.a.y s.b.y positive (through _ _ _ h.1 k.1);
      over = sym h.0;
      from = h.1;
      to = k.1;
    })

vertical_not_wide : (s : Edge) (p : RationalPoint) {A : Type 0} → IsVertical s p → pos 0 <ℤ width s → A
vertical_not_wide s p h k = let e = h.level in absurd (omega (arith, ints))

-- ---- the staircase

-- both columns, each times the other's denominator
same_column : (s : Edge) (p r : RationalPoint) → IsVertical s p → IsVertical s r → p.x *ℤ pos r.q ≡ r.x *ℤ pos p.q
same_column s p r h k = rw (h.over, k.over) (by_ring (s.a.x ∷ pos p.q ∷ pos r.q ∷ []) (times (times (var 1) (var 0)) (var 2)) (times (times (var 2) (var 0)) (var 1)) refl)

either_way : (s : Edge) (p r : RationalPoint) → 0 < p.q → 0 < r.q → IsOn p s → IsOn r s → IsAlong s (rounded p) (rounded r) ⊎ IsAlong s (rounded r) (rounded p)
either_way s p r some more on_p on_r = by (wide_or_vertical s p some on_p) (wide_or_vertical s r more on_r)
  where
    weak : (x y : ℤ) → x <ℤ y → x ≤ℤ y
    weak x y h = omega (arith, ints)

    by : (pos 0 <ℤ width s) ⊎ IsVertical s p → (pos 0 <ℤ width s) ⊎ IsVertical s r → IsAlong s (rounded p) (rounded r) ⊎ IsAlong s (rounded r) (rounded p)
    by (inl w) k =
        by_lt_z (p.x *ℤ pos r.q) (r.x *ℤ pos p.q)
        (λ h. inl (climb_wide s p r some more on_p.flat on_r.flat w (weak _ _ h)))
        (λ h. inr (climb_wide s r p more some on_r.flat on_p.flat w h))
    by (inr u) (inl w) = vertical_not_wide s p u w
    by (inr u) (inr v) =
        by_lt_z (p.y *ℤ pos r.q) (r.y *ℤ pos p.q)
        (λ h. inl (climb_horizontal s p r some more u.rises (same_column s p r u v) (weak _ _ h)))
        (λ h. inr (climb_horizontal s r p more some u.rises (same_column s r p v u) h))

-- a whole point is rounded to itself
pub whole_itself : (m : Point) → rounded (whole m) ≡ m
whole_itself m = λ i. record { x = nearest_whole m.x m.x 1 (omega arith) (one m.x) i; y = nearest_whole m.y m.y 1 (omega arith) (one m.y) i }
  where
    one : (x : ℤ) → pos 1 *ℤ x ≡ x
    one x = omega (arith, ints)

-- a whole number against a numerator, each times the other's denominator
after_whole : (n z : ℤ) (q : ℕ) → (pos q *ℤ n) ≤ℤ z → (n *ℤ pos q) ≤ℤ (z *ℤ pos 1)
after_whole n z q h = let e = *ℤ_comm n (pos q) in omega (arith, ints)

before_whole : (n z : ℤ) (q : ℕ) → z ≤ℤ (pos q *ℤ n) → (z *ℤ pos 1) ≤ℤ (n *ℤ pos q)
before_whole n z q h = let e = *ℤ_comm n (pos q) in omega (arith, ints)

at_whole : (n z : ℤ) (q : ℕ) → z ≡ pos q *ℤ n → n *ℤ pos q ≡ z *ℤ pos 1
at_whole n z q f = let e = *ℤ_comm n (pos q) in omega (arith, ints)

not_right : (a b : Point) → IsUpTo a b → a.x ≤ℤ b.x
not_right a b (inl h) = omega (arith, ints)
not_right a b (inr h) = let e = h.0 in omega (arith, ints)

from_first : (s : Edge) (p : RationalPoint) → 0 < p.q → IsOn p s → IsAlong s (rounded (whole s.a)) (rounded p)
from_first s p some on = by (wide_or_vertical s p some on)
  where
    by : (pos 0 <ℤ width s) ⊎ IsVertical s p → IsAlong s (rounded (whole s.a)) (rounded p)
    by (inl w) = climb_wide s (whole s.a) p (omega arith) some (side_of_whole s.a s.b s.a ∙ turn_there_and_back s.a s.b) on.flat w (after_whole s.a.x p.x p.q (not_right _ _ on.from))
    by (inr u) = climb_horizontal s (whole s.a) p (omega arith) some u.rises (at_whole s.a.x p.x p.q u.over) (after_whole s.a.y p.y p.q u.from)

to_second : (s : Edge) (p : RationalPoint) → 0 < p.q → IsOn p s → IsAlong s (rounded p) (rounded (whole s.b))
to_second s p some on = by (wide_or_vertical s p some on)
  where
    by : (pos 0 <ℤ width s) ⊎ IsVertical s p → IsAlong s (rounded p) (rounded (whole s.b))
    by (inl w) = climb_wide s p (whole s.b) some (omega arith) on.flat (side_of_whole s.a s.b s.b ∙ turn_end_twice s.a s.b) w (before_whole s.b.x p.x p.q (not_right _ _ on.to))
    by (inr u) = climb_horizontal s p (whole s.b) some (omega arith) u.rises (sym (at_whole s.b.x p.x p.q (u.over ∙ ap (λ z. pos p.q *ℤ z) u.level))) (before_whole s.b.y p.y p.q u.to)

pub rounded_climb : RoundedClimb
rounded_climb = record {
  comparable = λ s u v h k. rw (h.is, k.is) (either_way s h.place k.place h.is_rational k.is_rational (on_tells h.place s h.lies) (on_tells k.place s k.lies));
  after_first = λ s m h. rw h.is (rw (whole_itself s.a) at (from_first s h.place h.is_rational (on_tells h.place s h.lies)));
  before_second = λ s m h. rw h.is (rw (whole_itself s.b) at (to_second s h.place h.is_rational (on_tells h.place s h.lies)));
}

-- ---- late marks

-- a whole point strictly inside the segment is rounded from itself
scaled_one : (a : Point) → scaled 1 a ≡ a
scaled_one a = λ i. record { x = one a.x i; y = one a.y i }
  where
    one : (x : ℤ) → pos 1 *ℤ x ≡ x
    one x = omega (arith, ints)

pub inside_lies : (s : Edge) (m : Point) → strictly_inside m s ≡ true → lies_on s (whole m) ≡ true
inside_lies s m e =
    let h = both_true (int_eq (turn s.a s.b m) (pos 0)) (is_before s.a m && is_before m s.b) e in
    let k = both_true (is_before s.a m) (is_before m s.b) h.1 in
    let f : int_eq (side s.a s.b (whole m)) (pos 0) ≡ true = rw (side_of_whole s.a s.b m) h.0 in
    let g : point_order (scaled 1 s.a) m ≡ Less = ap (λ z. point_order z m) (scaled_one s.a) ∙ before_is_less s.a m k.0 in
    let l : point_order m (scaled 1 s.b) ≡ Less = ap (λ z. point_order m z) (scaled_one s.b) ∙ before_is_less m s.b k.1 in
    rw (f, g, l) refl

pub inside_rounded : (s : Edge) (m : Point) → strictly_inside m s ≡ true → IsRoundedOn s m
inside_rounded s m e = record { place = whole m; is_rational = omega arith; lies = inside_lies s m e; is = sym (whole_itself m) }

crossing_rounded : (s t : Edge) → is_before s.a s.b ≡ true → is_before t.a t.b ≡ true → cross_properly s t ≡ true → AreRounded s t (laid_by s t (pure (rounded (crossing s t))))
crossing_rounded s t h k e = record { first = all_unless_end (IsRoundedOn s) s (rounded (crossing s t)) (λ f. on_first); second = all_unless_end (IsRoundedOn t) t (rounded (crossing s t)) (λ f. on_second) }
  where
    on_first : IsRoundedOn s (rounded (crossing s t))
    on_first = record { place = crossing s t; is_rational = crossing_is_common.is_rational s t e; lies = crossing_is_common.on_first s t h e; is = refl }

    on_second : IsRoundedOn t (rounded (crossing s t))
    on_second = record { place = crossing s t; is_rational = crossing_is_common.is_rational s t e; lies = crossing_is_common.on_second s t k e; is = refl }

touching_rounded : (s t : Edge) → AreRounded s t (laid_by s t (touching s t))
touching_rounded s t =
    let h = touching_lays (IsRoundedOn s) (IsRoundedOn t) s t (inside_all (IsRoundedOn s) s t (inside_rounded s)) (inside_all (IsRoundedOn t) t s (inside_rounded t)) in
    record { first = h.0; second = h.1 }

late_rounded : (s t : Edge) → is_before s.a s.b ≡ true → is_before t.a t.b ≡ true → AreRounded s t (laid_by s t (late_meeting s t))
late_rounded s t h k = late_by (λ m. AreRounded s t (laid_by s t m)) s t (λ e. crossing_rounded s t h k e) (λ e. touching_rounded s t)

swapped_rounded : (s t : Edge) (m : Marks) → AreRounded t s m → AreRounded s t (exchanged m)
swapped_rounded s t m h = record { first = h.second; second = h.first }

pub late_marks_are_rounded : LateMarksAreRounded
late_marks_are_rounded = record { rounded = λ s t h k. either late_meeting (AreRounded s t) s t (swapped_rounded s t _ (late_rounded t s k h)) (late_rounded s t h k) }
