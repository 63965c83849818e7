-- Whole numbers above 0 as weights, and means that are weighed by them.
use Rattle.std.proofs.Common.{◌≡◌, ℕ, ◌+◌, ◌<◌, ◌≤◌, ℤ, pos, negsuc, ◌+ℤ◌, ◌*ℤ◌, ◌≤ℤ◌, ◌<ℤ◌, refl, ap₂, int_eq, arith}
use Rattle.std.specs.Prelude.{unsigned_abs}
use Rattle.std.proofs.lemmas.Int.{ints}
use Rattle.plane_base.specs.Crossing.{floor, nearest}

-- ---- the size of a number above 0

pub size_above : (m : ℤ) → pos 0 <ℤ m → pos (unsigned_abs m) ≡ m
size_above (pos m) h = refl
size_above (negsuc m) h = absurd (omega (arith, ints))

pub weight_size : (n : ℤ) (m : ℕ) → pos 0 <ℤ n → n ≤ℤ pos m → (0 < unsigned_abs n) × (unsigned_abs n ≤ m)
weight_size (pos n) m h k = (omega (arith, ints), omega (arith, ints))
weight_size (negsuc n) m h k = absurd (omega (arith, ints))

pub weights_above : (u v : ℤ) → pos 0 <ℤ u → 0 < unsigned_abs u + unsigned_abs v
weights_above (pos n) v h = omega (arith, ints)
weights_above (negsuc n) v h = absurd (omega (arith, ints))

-- ---- means

pub nearest_weighed : (a b u v : ℤ) → pos 0 <ℤ u → pos 0 <ℤ v → nearest ((pos (unsigned_abs v) *ℤ a) +ℤ (pos (unsigned_abs u) *ℤ b)) (unsigned_abs u + unsigned_abs v) ≡ nearest ((v *ℤ a) +ℤ (u *ℤ b)) (unsigned_abs u + unsigned_abs v)
nearest_weighed a b u v h k = ap₂ (λ x y. nearest ((y *ℤ a) +ℤ (x *ℤ b)) (unsigned_abs u + unsigned_abs v)) (size_above u h) (size_above v k)

pub floor_weighed : (a b u v : ℤ) → pos 0 <ℤ u → pos 0 <ℤ v → floor ((pos (unsigned_abs v) *ℤ a) +ℤ (pos (unsigned_abs u) *ℤ b)) (unsigned_abs u + unsigned_abs v) ≡ floor ((v *ℤ a) +ℤ (u *ℤ b)) (unsigned_abs u + unsigned_abs v)
floor_weighed a b u v h k = ap₂ (λ x y. floor ((y *ℤ a) +ℤ (x *ℤ b)) (unsigned_abs u + unsigned_abs v)) (size_above u h) (size_above v k)

pub mean_weighed : (a b n u v : ℤ) → pos 0 <ℤ u → pos 0 <ℤ v → int_eq (pos (unsigned_abs u + unsigned_abs v) *ℤ n) ((pos (unsigned_abs v) *ℤ a) +ℤ (pos (unsigned_abs u) *ℤ b)) ≡ int_eq ((u +ℤ v) *ℤ n) ((v *ℤ a) +ℤ (u *ℤ b))
mean_weighed a b n u v h k = ap₂ (λ x y. int_eq ((x +ℤ y) *ℤ n) ((y *ℤ a) +ℤ (x *ℤ b))) (size_above u h) (size_above v k)
