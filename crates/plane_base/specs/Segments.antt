-- Two segments: whether they cross, which ends lie inside the other, and which passes below the other.
use Rattle.std.specs.Prelude.{◌≡◌, ◌≢◌, ℤ, pos, ◌+ℤ◌, ◌-ℤ◌, ◌*ℤ◌, Bool, true, not, ◌&&◌, ◌||◌, int_lt, List, [], ◌∷◌, filter, Contains}
use Rattle.std.specs.declared.cmp.Ordering.{Ordering}
use Rattle.std.specs.declared.cmp.Ordering.TheVariants.{Less, Equal, Greater}
use Rattle.std.specs.Ordering.{int_eq, int_cmp, is_lt, is_eq}
use Rattle.plane_base.specs.Plane.{Point, Edge, turn, is_before, point_order, IsWithin}

abbrev pub squared_distance : Point → Point → ℤ
squared_distance a b = ((b.x -ℤ a.x) *ℤ (b.x -ℤ a.x)) +ℤ ((b.y -ℤ a.y) *ℤ (b.y -ℤ a.y))

abbrev pub same_point : Point → Point → Bool
same_point p r = is_eq (point_order p r)

abbrev pub same_edge : Edge → Edge → Bool
same_edge s t = same_point s.a t.a && same_point s.b t.b

-- both ends lie in the range of coordinates
abbrev pub IsEdgeWithin : ℤ → ℤ → Edge → Type 0
IsEdgeWithin least greatest s = IsWithin least greatest s.a × IsWithin least greatest s.b

-- The point lies on the segment, and is none of its ends.
abbrev pub strictly_inside : Point → Edge → Bool
strictly_inside p s = int_eq (turn s.a s.b p) (pos 0) && (is_before s.a p && is_before p s.b)

-- the ends of t that lie strictly inside s
abbrev pub ends_inside : Edge → Edge → List Point
ends_inside s t = filter (λ p. strictly_inside p s) (t.a ∷ t.b ∷ [])

-- one of the two is above 0, and the other below
abbrev pub opposite : ℤ → ℤ → Bool
opposite m n = (int_lt (pos 0) m && int_lt n (pos 0)) || (int_lt m (pos 0) && int_lt (pos 0) n)

-- Each has its ends on the two sides of the other, and none of them on its line.
abbrev pub cross_properly : Edge → Edge → Bool
cross_properly s t =
    opposite (turn s.a s.b t.a) (turn s.a s.b t.b) && opposite (turn t.a t.b s.a) (turn t.a t.b s.b)

abbrev pub on_one_line : Edge → Edge → Bool
on_one_line s t =
    (int_eq (turn s.a s.b t.a) (pos 0) && int_eq (turn s.a s.b t.b) (pos 0))
    && (int_eq (turn t.a t.b s.a) (pos 0) && int_eq (turn t.a t.b s.b) (pos 0))

-- They don't cross properly, and no end of either lies strictly inside the other.
abbrev pub parted : Edge → Edge → Bool
parted s t =
    not (cross_properly s t)
    && ((not (strictly_inside t.a s) && not (strictly_inside t.b s)) && (not (strictly_inside s.a t) && not (strictly_inside s.b t)))

-- any two different ones are parted
abbrev pub MeetsInEnds : List Edge → Type 0
MeetsInEnds es = (s t : Edge) → Contains es s → Contains es t → s ≢ t → parted s t ≡ true

-- ---- which passes below the other

abbrev pub width : Edge → ℤ
width s = s.b.x -ℤ s.a.x

-- q times the width times the ordinate at x / q of the line through the segment
abbrev pub height : Edge → ℤ → ℤ → ℤ
height s x q = (s.a.y *ℤ ((q *ℤ s.b.x) -ℤ x)) +ℤ (s.b.y *ℤ (x -ℤ (q *ℤ s.a.x)))

-- For widths above 0: above 0 where t passes above s at x / q, below 0 where it passes below, 0 where they meet.
abbrev pub lift : Edge → Edge → ℤ → ℤ → ℤ
lift t s x q = (width s *ℤ height t x q) -ℤ (width t *ℤ height s x q)

-- The segment against a point: `Less` where it runs below the point, to whose right is its b.
abbrev pub order_against : Edge → Point → Ordering
order_against s p = int_cmp (pos 0) (turn s.a s.b p)

-- By angle, of two with one start: `Less` where s turns to the left to reach t.
abbrev pub angle_order : Edge → Edge → Ordering
angle_order s t = order_against s t.b

-- Of two parted segments that reach over one column. The one that starts later is held against the other;
-- where they start together, they are held by angle.
abbrev pub column_order : Edge → Edge → Ordering
column_order s t =
    elim (point_order s.a t.a) [
      | Less ↦ order_against s t.a
      | Equal ↦ angle_order s t
      | Greater ↦ int_cmp (turn t.a t.b s.a) (pos 0)
    ]

-- s passes below t
abbrev pub precedes : Edge → Edge → Bool
precedes s t = is_lt (column_order s t)
