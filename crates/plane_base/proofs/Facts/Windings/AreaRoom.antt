-- How great areas get, and how 128 bits hold sums of them, whole or in two parts.
use Rattle.std.proofs.Common.{◌≡◌, ℕ, ◌+◌, ◌*◌, ◌^◌, ◌<◌, ◌≤◌, Bool, true, false, ℤ, pos, negsuc, neg_ℤ, ◌+ℤ◌, ◌-ℤ◌, ◌*ℤ◌, ◌≤ℤ◌, ◌<ℤ◌, refl, arith, FitsSigned, to_z, of_z}
use Rattle.std.specs.Int.{w128}
use Rattle.std.specs.Prelude.{unsigned_abs}
use Rattle.std.proofs.lemmas.Nat.{mul-le}
use Rattle.std.proofs.lemmas.Int.{ints, unsigned_abs-mul}
use Rattle.plane_base.specs.Plane.{Point, IsWithin, HasSize}
use Rattle.plane_base.specs.Areas.{step_area, step_room}
use Rattle.plane_base.proofs.Facts.Numbers.Products64.{size_at_most, above_from_size, below_from_size}

-- ---- one step

product_within : (m : ℕ) (x y : ℤ) → unsigned_abs x ≤ m → unsigned_abs y ≤ m → unsigned_abs (x *ℤ y) ≤ m * m
product_within m x y h k = rw (unsigned_abs-mul x y) (mul-le _ _ m m h k)

difference_within : (k : ℕ) (a b : ℤ) → unsigned_abs a ≤ k → unsigned_abs b ≤ k → HasSize (pos (2 * k)) (a -ℤ b)
difference_within k a b h l = (
  omega (arith, ints, above_from_size a k h, below_from_size b k l),
  omega (arith, ints, below_from_size a k h, above_from_size b k l),
)

step_within : (m : ℕ) (least greatest : ℤ) (u v : Point) → neg_ℤ (pos m) ≤ℤ least → greatest ≤ℤ pos m → IsWithin least greatest u → IsWithin least greatest v → HasSize (pos (2 * (m * m))) (step_area u v)
step_within m least greatest u v low high h k =
    difference_within (m * m) (u.x *ℤ v.y) (u.y *ℤ v.x)
    (product_within m u.x v.y (size u.x h.0 h.1) (size v.y k.2 k.3))
    (product_within m u.y v.x (size u.y h.2 h.3) (size v.x k.0 k.1))
  where
    size : (z : ℤ) → least ≤ℤ z → z ≤ℤ greatest → unsigned_abs z ≤ m
    size z l e = size_at_most z m (omega (arith, ints, low, l)) (omega (arith, ints, high, e))

pub step_fits :
    (narrow : Bool) (least greatest : ℤ) (u v : Point) → (narrow ≡ true → (negsuc 524287 ≤ℤ least) × (greatest ≤ℤ pos 524287)) → neg_ℤ (pos (2 ^ 36)) ≤ℤ least → greatest ≤ℤ pos (2 ^ 36)
    → IsWithin least greatest u → IsWithin least greatest v → HasSize (pos (step_room narrow)) (step_area u v)
step_fits true least greatest u v small low high h k =
    step_within (2 ^ 20) least greatest u v (omega (arith, ints, (small refl).0)) (omega (arith, ints, (small refl).1)) h k
step_fits false least greatest u v small low high h k = step_within (2 ^ 36) least greatest u v low high h k

-- ---- a sum of steps

pub first_above : (narrow : Bool) (s : ℤ) → neg_ℤ (pos (step_room narrow)) ≤ℤ s → neg_ℤ (pos (step_room narrow * 1)) ≤ℤ s
first_above true s h = omega (arith, ints)
first_above false s h = omega (arith, ints)

pub first_below : (narrow : Bool) (s : ℤ) → s ≤ℤ pos (step_room narrow) → s ≤ℤ pos (step_room narrow * 1)
first_below true s h = omega (arith, ints)
first_below false s h = omega (arith, ints)

pub more_above : (narrow : Bool) (a s : ℤ) (n : ℕ) → neg_ℤ (pos (step_room narrow * n)) ≤ℤ a → neg_ℤ (pos (step_room narrow)) ≤ℤ s → neg_ℤ (pos (step_room narrow * (n + 1))) ≤ℤ (a +ℤ s)
more_above true a s n h k = omega (arith, ints)
more_above false a s n h k = omega (arith, ints)

pub more_below : (narrow : Bool) (a s : ℤ) (n : ℕ) → a ≤ℤ pos (step_room narrow * n) → s ≤ℤ pos (step_room narrow) → (a +ℤ s) ≤ℤ pos (step_room narrow * (n + 1))
more_below true a s n h k = omega (arith, ints)
more_below false a s n h k = omega (arith, ints)

-- what 128 bits give where n steps of m are summed
pub sum_fits :
    (narrow : Bool) (a s : ℤ) (n m : ℕ) → n < 2 ^ 64 → n ≤ m → (narrow ≡ false → m ≤ 2 ^ 53) → neg_ℤ (pos (step_room narrow * n)) ≤ℤ a → a ≤ℤ pos (step_room narrow * n)
    → HasSize (pos (step_room narrow)) s → FitsSigned w128 (a +ℤ to_z w128 (of_z w128 s))
sum_fits true a s n m h l few low high fits = omega (arith, ints, h, low, high, fits.0, fits.1)
sum_fits false a s n m h l few low high fits = let k = few refl in omega (arith, ints, l, k, low, high, fits.0, fits.1)

pub sum_is :
    (narrow : Bool) (a s : ℤ) (n m : ℕ) → n < 2 ^ 64 → n ≤ m → (narrow ≡ false → m ≤ 2 ^ 53) → neg_ℤ (pos (step_room narrow * n)) ≤ℤ a → a ≤ℤ pos (step_room narrow * n)
    → HasSize (pos (step_room narrow)) s → to_z w128 (of_z w128 (a +ℤ to_z w128 (of_z w128 s))) ≡ a +ℤ s
sum_is true a s n m h l few low high fits = omega (arith, ints, h, low, high, fits.0, fits.1)
sum_is false a s n m h l few low high fits = let k = few refl in omega (arith, ints, l, k, low, high, fits.0, fits.1)

-- ---- two parts

-- whatever the range, a step has so much room
pub step_room_within : (narrow : Bool) (s : ℤ) → HasSize (pos (step_room narrow)) s → HasSize (pos (2 ^ 74)) s
step_room_within true s h = (omega (arith, ints, h.0), omega (arith, ints, h.1))
step_room_within false s h = (omega (arith, ints, h.0), omega (arith, ints, h.1))

-- and so has one with what is left of a sum
pub left_within : (narrow : Bool) (low s : ℤ) → (pos 0 ≤ℤ low) × (low <ℤ pos (2 ^ 64)) → HasSize (pos (step_room narrow)) s → HasSize (pos (2 ^ 74)) (low +ℤ s)
left_within true low s h k = (omega (arith, ints, h.0, h.1, k.0, k.1), omega (arith, ints, h.0, h.1, k.0, k.1))
left_within false low s h k = (omega (arith, ints, h.0, h.1, k.0, k.1), omega (arith, ints, h.0, h.1, k.0, k.1))
