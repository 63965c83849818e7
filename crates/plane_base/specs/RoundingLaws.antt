-- Whole points to which points of a segment are rounded: their order along it.
use Rattle.std.specs.Prelude.{◌≡◌, ◌≢◌, ◌⊎◌, ℕ, ◌+◌, ◌<◌, ℤ, pos, ◌-ℤ◌, ◌*ℤ◌, ◌≤ℤ◌, ◌<ℤ◌, unsigned_abs, true, All}
use Rattle.plane_base.specs.Plane.{Point, Edge, RationalPoint, IsRational, turn, is_before, lies_on}
use Rattle.plane_base.specs.Crossing.{nearest, rounded, Marks, late_marks}

-- Rounding to the nearest keeps the order of fractions, and whole numbers.
pub record RoundingKeepsOrder : Type 0 where
  pub order : (p r : ℤ) (q k : ℕ) → 0 < q → 0 < k → (p *ℤ pos k) ≤ℤ (r *ℤ pos q) → nearest p q ≤ℤ nearest r k
  pub whole : (n : ℤ) (q : ℕ) → 0 < q → nearest (pos q *ℤ n) q ≡ n

-- Some point of the segment is rounded to m.
pub record IsRoundedOn (s : Edge) (m : Point) : Type 0 where
  pub place : RationalPoint
  pub is_rational : IsRational place
  pub lies : lies_on s place ≡ true
  pub is : m ≡ rounded place

-- v stands no less far than u in the direction of the segment, in x and in y.
pub record IsAlong (s : Edge) (u v : Point) : Type 0 where
  pub right : u.x ≤ℤ v.x
  pub up : s.a.y ≤ℤ s.b.y → u.y ≤ℤ v.y
  pub down : s.b.y <ℤ s.a.y → v.y ≤ℤ u.y

-- It is an order of the points in which no two are level, along which distances in x and in y add up. On the line of a segment
-- with its lesser end first it is the order of points.
pub record AlongIsOrder : Type 0 where
  pub itself : (s : Edge) (u : Point) → IsAlong s u u
  pub through : (s : Edge) (u v w : Point) → IsAlong s u v → IsAlong s v w → IsAlong s u w
  pub same : (s : Edge) (u v : Point) → IsAlong s u v → IsAlong s v u → u ≡ v
  pub lengths_x :
      (s : Edge) (u v w : Point) → IsAlong s u v → IsAlong s v w →
      unsigned_abs (w.x -ℤ u.x) ≡ unsigned_abs (v.x -ℤ u.x) + unsigned_abs (w.x -ℤ v.x)
  pub lengths_y :
      (s : Edge) (u v w : Point) → IsAlong s u v → IsAlong s v w →
      unsigned_abs (w.y -ℤ u.y) ≡ unsigned_abs (v.y -ℤ u.y) + unsigned_abs (w.y -ℤ v.y)
  pub forward :
      (s : Edge) (u v : Point) → is_before s.a s.b ≡ true → turn s.a s.b u ≡ pos 0 → turn s.a s.b v ≡ pos 0 →
      IsAlong s u v → u ≢ v → is_before u v ≡ true

-- The whole points to which points of one segment are rounded are a staircase from its first end to its second.
pub record RoundedClimb : Type 0 where
  pub comparable : (s : Edge) (u v : Point) → IsRoundedOn s u → IsRoundedOn s v → IsAlong s u v ⊎ IsAlong s v u
  pub after_first : (s : Edge) (m : Point) → IsRoundedOn s m → IsAlong s s.a m
  pub before_second : (s : Edge) (m : Point) → IsRoundedOn s m → IsAlong s m s.b

-- Each mark of the first is rounded from a point of s, each mark of the second from one of t.
pub record AreRounded (s t : Edge) (m : Marks) : Type 0 where
  pub first : All (IsRoundedOn s) m.first
  pub second : All (IsRoundedOn t) m.second

-- So are late marks, where first ends are the lesser ones: a crossing goes to the nearest whole point, and every other mark
-- is a whole point of its segment.
pub record LateMarksAreRounded : Type 0 where
  pub rounded : (s t : Edge) → is_before s.a s.b ≡ true → is_before t.a t.b ≡ true → AreRounded s t (late_marks s t)
