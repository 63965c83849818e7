-- The order of parted segments at a column.
use Rattle.std.specs.Prelude.{◌⊎◌, ◌≡◌, ◌≢◌, ◌↔◌, ℕ, ◌<◌, ℤ, pos, ◌+ℤ◌, ◌-ℤ◌, ◌*ℤ◌, ◌≤ℤ◌, ◌<ℤ◌, true, false}
use Rattle.std.specs.declared.cmp.Ordering.TheVariants.{Less, Equal, Greater}
use Rattle.std.specs.Ordering.{ordering_reverse}
use Rattle.plane_base.specs.Plane.{Point, Edge, RationalPoint, IsRational, scaled, numerators, turn, side, lies_on}
use Rattle.plane_base.specs.Segments.{opposite, parted, width, lift, order_against, column_order, precedes}

-- A column is a whole number x with all places from x up to x + 1. The segment reaches over it.
abbrev pub IsLive : ℤ → Edge → Type 0
IsLive x s = (s.a.x ≤ℤ x) × (x <ℤ s.b.x)

-- Of two parted segments that are live at a column, the one that comes first passes below the other, at each place
-- X / q of the column: nowhere above it, the line at x + 1 included, and strictly below it between the lines at x and x + 1.
pub record OrderIsPlace : Type 0 where
  pub nowhere_above :
      (s t : Edge) (x z : ℤ) (q : ℕ) → parted s t ≡ true → IsLive x s → IsLive x t → 0 < q → (pos q *ℤ x) ≤ℤ z → z ≤ℤ (pos q *ℤ (x +ℤ pos 1)) →
      column_order s t ≡ Less → pos 0 ≤ℤ lift t s z (pos q)
  pub strictly_below :
      (s t : Edge) (x z : ℤ) (q : ℕ) → parted s t ≡ true → IsLive x s → IsLive x t → 0 < q → (pos q *ℤ x) <ℤ z → z <ℤ (pos q *ℤ (x +ℤ pos 1)) →
      column_order s t ≡ Less → pos 0 <ℤ lift t s z (pos q)

-- Two parted segments that are live at a column are level at x only in a common start, and at x + 1 only in a common end.
pub record LevelInCommonEnds : Type 0 where
  pub at_start : (s t : Edge) (x : ℤ) → parted s t ≡ true → IsLive x s → IsLive x t → lift t s x (pos 1) ≡ pos 0 → s.a ≡ t.a
  pub at_end : (s t : Edge) (x : ℤ) → parted s t ≡ true → IsLive x s → IsLive x t → lift t s (x +ℤ pos 1) (pos 1) ≡ pos 0 → s.b ≡ t.b

-- The point lies in the column, the line at x + 1 included.
abbrev pub IsOver : ℤ → RationalPoint → Type 0
IsOver x p = ((pos p.q *ℤ x) ≤ℤ p.x) × (p.x ≤ℤ (pos p.q *ℤ (x +ℤ pos 1)))

-- How far one passes above the other is told by the sides of any point. Of two parted segments that are live at the point's
-- column, the one that comes first has the point above it wherever the other has: seen by sides, and by the answers to a query
-- for a whole point, which along the order are first `Less`, then `Equal`, then `Greater`.
pub record SidesKeepOrder : Type 0 where
  pub lift_is : (s t : Edge) (p : RationalPoint) → lift t s p.x (pos p.q) ≡ (width t *ℤ side s.a s.b p) -ℤ (width s *ℤ side t.a t.b p)
  pub above :
      (s t : Edge) (x : ℤ) (p : RationalPoint) → IsRational p → parted s t ≡ true → IsLive x s → IsLive x t → IsOver x p → column_order s t ≡ Less →
      pos 0 <ℤ side t.a t.b p → pos 0 <ℤ side s.a s.b p
  pub not_below :
      (s t : Edge) (x : ℤ) (p : RationalPoint) → IsRational p → parted s t ≡ true → IsLive x s → IsLive x t → IsOver x p → column_order s t ≡ Less →
      pos 0 ≤ℤ side t.a t.b p → pos 0 ≤ℤ side s.a s.b p
  pub less :
      (s t : Edge) (x : ℤ) (p : Point) → parted s t ≡ true → IsLive x s → IsLive x t → x ≤ℤ p.x → p.x ≤ℤ (x +ℤ pos 1) → column_order s t ≡ Less →
      order_against t p ≡ Less → order_against s p ≡ Less
  pub greater :
      (s t : Edge) (x : ℤ) (p : Point) → parted s t ≡ true → IsLive x s → IsLive x t → x ≤ℤ p.x → p.x ≤ℤ (x +ℤ pos 1) → column_order s t ≡ Less →
      order_against s p ≡ Greater → order_against t p ≡ Greater

-- Among segments that are live at one column, any two different ones of them parted, the order is a strict total one.
-- `precedes` is its test.
pub record OrderIsLawful : Type 0 where
  pub precedes_is : (s t : Edge) → (precedes s t ≡ true) ↔ (column_order s t ≡ Less)
  pub reversed : (s t : Edge) → column_order t s ≡ ordering_reverse (column_order s t)
  pub decided : (s t : Edge) (x : ℤ) → parted s t ≡ true → IsLive x s → IsLive x t → s ≢ t → column_order s t ≢ Equal
  pub through :
      (s t u : Edge) (x : ℤ) → parted s t ≡ true → parted t u ≡ true → (s ≢ u → parted s u ≡ true) → IsLive x s → IsLive x t → IsLive x u →
      column_order s t ≡ Less → column_order t u ≡ Less → column_order s u ≡ Less

-- ---- what parted segments share

-- the place is one of the segment's ends
abbrev pub IsEndOf : RationalPoint → Edge → Type 0
IsEndOf p s = (numerators p ≡ scaled p.q s.a) ⊎ (numerators p ≡ scaled p.q s.b)

-- Two different parted segments share no rational point but common ends.
pub record PartedMeetInEnds : Type 0 where
  pub in_ends :
      (s t : Edge) (p : RationalPoint) → IsRational p → s ≢ t → parted s t ≡ true → lies_on s p ≡ true → lies_on t p ≡ true →
      IsEndOf p s × IsEndOf p t

-- ---- a vertical segment

-- upward, at one x
abbrev pub IsVertical : Edge → Type 0
IsVertical v = (v.a.x ≡ v.b.x) × (v.a.y <ℤ v.b.y)

-- The place lies on the segment, and is none of its ends.
abbrev pub IsInnerOf : RationalPoint → Edge → Type 0
IsInnerOf p s = (lies_on s p ≡ true) × (IsEndOf p s → ⊥)

-- Against a vertical segment v, one that is parted from it and live at its column has not its two ends on opposite sides, has
-- an end of v on its line only in its own start, and has all inner points of v strictly above, or all strictly below.
pub record VerticalIsBeside : Type 0 where
  pub not_across : (s v : Edge) → parted s v ≡ true → IsVertical v → IsLive v.a.x s → opposite (turn s.a s.b v.a) (turn s.a s.b v.b) ≡ false
  pub in_start :
      (s v : Edge) (e : Point) → parted s v ≡ true → IsVertical v → IsLive v.a.x s → (e ≡ v.a) ⊎ (e ≡ v.b) →
      turn s.a s.b e ≡ pos 0 → e ≡ s.a
  pub inner :
      (s v : Edge) → parted s v ≡ true → IsVertical v → IsLive v.a.x s →
      ((p : RationalPoint) → IsRational p → IsInnerOf p v → pos 0 <ℤ side s.a s.b p)
      ⊎ ((p : RationalPoint) → IsRational p → IsInnerOf p v → side s.a s.b p <ℤ pos 0)
