-- Where a region is filled, by the windings of subject and clip.
use Rattle.std.specs.Prelude.{ℤ, pos, negsuc, Bool, not, ◌&&◌, ◌||◌, int_lt, int_le, ◌==◌, ◌%◌}
use Rattle.std.specs.Ordering.{int_eq}
use Rattle.plane_base.specs.Counts.{Count}

-- how a winding fills
pub data FillRule : Type 0 where
  EvenOdd : FillRule
  NonZero : FillRule
  Positive : FillRule
  Negative : FillRule
  AtLeast : ℤ → FillRule

-- which points an overlay of subject and clip keeps
pub data OverlayRule : Type 0 where
  Subject : OverlayRule
  Clip : OverlayRule
  Intersect : OverlayRule
  Union : OverlayRule
  Difference : OverlayRule
  InverseDifference : OverlayRule
  Xor : OverlayRule

abbrev pub is_odd : ℤ → Bool
is_odd (pos n) = n % 2 == 1
is_odd (negsuc n) = n % 2 == 0

-- what has this winding is filled
abbrev pub is_filled : FillRule → ℤ → Bool
is_filled EvenOdd w = is_odd w
is_filled NonZero w = not (int_eq w (pos 0))
is_filled Positive w = int_lt (pos 0) w
is_filled Negative w = int_lt w (pos 0)
is_filled (AtLeast n) w = int_lt (pos 0) w && int_le n w

-- the rule holds where subject and clip are filled so
abbrev pub holds : OverlayRule → Bool → Bool → Bool
holds Subject s c = s
holds Clip s c = c
holds Intersect s c = s && c
holds Union s c = s || c
holds Difference s c = s && not c
holds InverseDifference s c = c && not s
holds Xor s c = (s && not c) || (c && not s)

-- a point with these windings belongs to the region
abbrev pub region : FillRule → OverlayRule → Count → Bool
region fill rule w = holds rule (is_filled fill w.subject) (is_filled fill w.clip)
