-- Boxes of points, and wider ones.
use Rattle.std.proofs.Common.{◌≡◌, ℤ, ◌≤ℤ◌, int_lt, true, arith}
use Rattle.std.proofs.lemmas.Int.{ints}
use Rattle.plane_base.specs.Plane.{Point}
use Rattle.segment_split.specs.Groups.{Bounds, LiesWithin}

pub at_most_itself : (x : ℤ) → x ≤ℤ x
at_most_itself x = omega (arith, ints)

pub less_is_at_most : (x y : ℤ) → int_lt x y ≡ true → x ≤ℤ y
less_is_at_most x y h = omega (arith, ints)

pub through : (x y z : ℤ) → x ≤ℤ y → y ≤ℤ z → x ≤ℤ z
through x y z h k = omega (arith, ints)

-- what lies in a box lies in a wider one
pub widened : (b : Bounds) (left right bottom top : ℤ) → left ≤ℤ b.left → b.right ≤ℤ right → bottom ≤ℤ b.bottom → b.top ≤ℤ top
    → (p : Point) → LiesWithin b p → LiesWithin (record { left = left; right = right; bottom = bottom; top = top }) p
widened b left right bottom top l r u v p h = record {
  left = through left b.left p.x l h.left;
  right = through p.x b.right right h.right r;
  bottom = through bottom b.bottom p.y u h.bottom;
  top = through p.y b.top top h.top v;
}
