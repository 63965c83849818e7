-- What decides how two segments meet, as the code holds it: turns, whether points are the same, and how a crossing is rounded.
use Rattle.std.specs.Prelude.{◌≡◌, ℕ, ◌+◌, ℤ, pos, ◌+ℤ◌, ◌*ℤ◌, ◌<ℤ◌, unsigned_abs, Option, Some, Bool, cond, ◌&&◌}
use Rattle.std.specs.Ordering.{int_eq}
use Rattle.plane_base.specs.Plane.{Point, Edge, RationalPoint, turn, HasSize}
use Rattle.plane_base.specs.Segments.{strictly_inside}
use Rattle.plane_base.specs.Crossing.{Meeting, pure, lesser, mean, rounded, rounded_along, snapped}
use Rattle.plane_base.specs.declared.meet.sides.Sides.{Sides}
use Rattle.plane_base.specs.declared.rounding.Rounding.{Rounding}
use Rattle.plane_base.specs.declared.rounding.Rounding.TheVariants.{Near, Nearest}

-- the number is this turn, and as great as one may be
abbrev pub IsTurn : ℤ → ℤ → ℤ → Type 0
IsTurn most number value = (number ≡ value) × HasSize most number

-- the turns of the ends of t against the line of s
pub record AreSides {W : Type 0} (number : W → ℤ) (most : ℤ) (s t : Edge) (sides : Sides W) : Type 0 where
  pub a : IsTurn most (number sides.a) (turn s.a s.b t.a)
  pub b : IsTurn most (number sides.b) (turn s.a s.b t.b)

-- the mean of the segment's ends, weighed by the sizes of two numbers
abbrev pub mean_by : Edge → ℤ → ℤ → RationalPoint
mean_by s u v = mean s (unsigned_abs u) (unsigned_abs v)

-- one coordinate of such a mean, times its bottom
abbrev pub weighed_by : ℤ → ℤ → ℤ → ℤ → ℤ
weighed_by u v a b = (pos (unsigned_abs v) *ℤ a) +ℤ (pos (unsigned_abs u) *ℤ b)

abbrev pub bottom_of : ℤ → ℤ → ℕ
bottom_of u v = unsigned_abs u + unsigned_abs v

-- the lesser of the point, where it lies strictly inside the segment, and what was found
abbrev pub lesser_inside : Point → Edge → Option Point → Option Point
lesser_inside p s found = cond (strictly_inside p s) (Some (lesser p found)) found

abbrev pub is_same : Point → Point → Bool
is_same p q = int_eq p.x q.x && int_eq p.y q.y

-- The first is horizontal and the second vertical, and each has its ends on both sides of the other.
pub record CrossesSquarely (s t : Edge) : Type 0 where
  pub horizontal : s.b.y ≡ s.a.y
  pub vertical : t.b.x ≡ t.a.x
  pub left : s.a.x <ℤ t.a.x
  pub right : t.a.x <ℤ s.b.x
  pub bottom : t.a.y <ℤ s.a.y
  pub top : s.a.y <ℤ t.b.y

-- a proper crossing of s as a whole point, before it goes to an end
abbrev pub rounded_by : Rounding → Edge → RationalPoint → Point
rounded_by (Near radius) s m = rounded_along s m
rounded_by Nearest s m = rounded m

-- what becomes of that point, where the crossing is off the grid
abbrev pub settled_by : Rounding → Edge → Edge → Point → Meeting
settled_by (Near radius) s t p = snapped s t radius p
settled_by Nearest s t p = pure p
