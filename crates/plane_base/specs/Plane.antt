-- Points over whole numbers, their order, edges, and on which side of an edge a rational point lies; how great numbers are.
use Rattle.std.specs.Prelude.{ℕ, ℤ, pos, negsuc, neg_ℤ, ◌-ℤ◌, ◌*ℤ◌, ◌≤ℤ◌, ◌<ℤ◌, ◌<◌, Bool, cond, ◌&&◌, int_lt, int_le}
use Rattle.std.specs.declared.cmp.Ordering.{Ordering}
use Rattle.std.specs.Ordering.{ordering_then, int_cmp, int_eq, is_lt, is_le}

pub record Point : Type 0 where
  pub x : ℤ
  pub y : ℤ

-- by x, then by y
abbrev pub point_order : Point → Point → Ordering
point_order a b = ordering_then (int_cmp a.x b.x) (int_cmp a.y b.y)

abbrev pub is_before : Point → Point → Bool
is_before a b = is_lt (point_order a b)

-- two points, in a map of edges the lesser first
pub record Edge : Type 0 where
  pub a : Point
  pub b : Point

-- by a, then by b
abbrev pub edge_order : Edge → Edge → Ordering
edge_order s t = ordering_then (point_order s.a t.a) (point_order s.b t.b)

-- Twice the signed area of the triangle: above 0 where c lies left of the way from a to b,
-- below 0 where it lies right of it, and 0 where the three lie on one line.
abbrev pub turn : Point → Point → Point → ℤ
turn a b c = ((b.x -ℤ a.x) *ℤ (c.y -ℤ a.y)) -ℤ ((b.y -ℤ a.y) *ℤ (c.x -ℤ a.x))

-- the point (x/q, y/q)
pub record RationalPoint : Type 0 where
  pub x : ℤ
  pub y : ℤ
  pub q : ℕ

-- every fraction has its bottom above 0
abbrev pub IsRational : RationalPoint → Type 0
IsRational p = 0 < p.q

-- a whole point, seen by a rational point's numerators
abbrev pub scaled : ℕ → Point → Point
scaled q a = record { x = pos q *ℤ a.x; y = pos q *ℤ a.y }

abbrev pub numerators : RationalPoint → Point
numerators p = record { x = p.x; y = p.y }

-- Where b is right of a: above 0 where p lies above the line through both, below 0 where it lies below it.
-- Times q it is the turn of a, b and p, seen by the numerators.
abbrev pub side : Point → Point → RationalPoint → ℤ
side a b p = ((b.x -ℤ a.x) *ℤ (p.y -ℤ (pos p.q *ℤ a.y))) -ℤ ((b.y -ℤ a.y) *ℤ (p.x -ℤ (pos p.q *ℤ a.x)))

-- The edge reaches over the point's column: the column of its a belongs to it, that of its b does not.
abbrev pub spans : Point → Point → RationalPoint → Bool
spans a b p = int_le (pos p.q *ℤ a.x) p.x && int_lt p.x (pos p.q *ℤ b.x)

-- the edge spans the point's column, and lies strictly below it there
abbrev pub is_below : Point → Point → RationalPoint → Bool
is_below a b p = spans a b p && int_lt (pos 0) (side a b p)

-- The point lies on the edge, its ends included: on its line, and not outside its ends.
abbrev pub lies_on : Edge → RationalPoint → Bool
lies_on s p =
    int_eq (side s.a s.b p) (pos 0)
    && is_le (point_order (scaled p.q s.a) (numerators p))
    && is_le (point_order (numerators p) (scaled p.q s.b))

-- What a step from u to v adds to the winding at the point: 1 where it runs to the right below the point,
-- -1 where it runs to the left below it.
abbrev pub step_winding : Point → Point → RationalPoint → ℤ
step_winding u v p = cond (is_below u v p) (pos 1) (cond (is_below v u p) (negsuc 0) (pos 0))

-- Both coordinates lie in the range from least to greatest.
abbrev pub IsWithin : ℤ → ℤ → Point → Type 0
IsWithin least greatest a =
    (least ≤ℤ a.x) × (a.x ≤ℤ greatest) × (least ≤ℤ a.y) × (a.y ≤ℤ greatest)

-- the number lies in the range from least to greatest
abbrev pub IsCoordinate : ℤ → ℤ → ℤ → Type 0
IsCoordinate least greatest n = (least ≤ℤ n) × (n ≤ℤ greatest)

-- the number lies from -most to most
abbrev pub HasSize : ℤ → ℤ → Type 0
HasSize most n = (neg_ℤ most ≤ℤ n) × (n ≤ℤ most)

-- the number lies above 0, and not above most
abbrev pub IsWeight : ℤ → ℤ → Type 0
IsWeight most n = (pos 0 <ℤ n) × (n ≤ℤ most)
