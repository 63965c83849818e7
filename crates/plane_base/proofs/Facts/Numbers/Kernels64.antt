-- What kernels are given and give, as 64 bits hold it.
use Rattle.std.proofs.Common.{◌≡◌, ◌+◌, ◌<◌, ◌≤◌, ◌^◌, ℤ, pos, negsuc, ◌+ℤ◌, ◌*ℤ◌, ◌≤ℤ◌, ◌<ℤ◌, ◌∙◌, Bool, int_eq, arith, w64, FitsSigned, to_z, of_z}
use Rattle.std.specs.Prelude.{unsigned_abs}
use Rattle.std.proofs.lemmas.Int.{ints, to_z-of_z}
use Rattle.plane_base.specs.Plane.{HasSize, IsWeight}
use Rattle.plane_base.specs.Crossing.{floor, nearest}
use Rattle.plane_base.proofs.Facts.Numbers.Weights.{weight_size, nearest_weighed, floor_weighed, mean_weighed}

-- ---- what a kernel is given

-- a way between coordinates
pub way_read : (n : ℤ) → HasSize (pos 1048575) n → (negsuc 1048575 ≤ℤ to_z w64 (of_z w64 n)) × (to_z w64 (of_z w64 n) ≤ℤ pos 1048575)
way_read n h = (omega (arith, ints, h.0, h.1), omega (arith, ints, h.0, h.1))

-- a coordinate of a range of 20 bits
pub coordinate_read : (least greatest n : ℤ) → negsuc 524287 ≤ℤ least → greatest ≤ℤ pos 524287 → (least ≤ℤ n) × (n ≤ℤ greatest) → (negsuc 524287 ≤ℤ to_z w64 (of_z w64 n)) × (to_z w64 (of_z w64 n) ≤ℤ pos 524287)
coordinate_read least greatest n l k h = (omega (arith, ints, l, k, h.0, h.1), omega (arith, ints, l, k, h.0, h.1))

-- a weight
pub weight_read : (n : ℤ) → FitsSigned w64 n → IsWeight (pos (2 ^ 41)) n → (0 < unsigned_abs (to_z w64 (of_z w64 n))) × (unsigned_abs (to_z w64 (of_z w64 n)) ≤ 2 ^ 41)
weight_read n f h = rw (to_z-of_z w64 n f) (weight_size n (2 ^ 41) h.0 h.1)

-- ---- what it gives

pub nearest_read : (r a b u v : ℤ) → FitsSigned w64 r → FitsSigned w64 a → FitsSigned w64 b → FitsSigned w64 u → FitsSigned w64 v → pos 0 <ℤ u → pos 0 <ℤ v
    → r ≡ nearest ((pos (unsigned_abs (to_z w64 (of_z w64 v))) *ℤ to_z w64 (of_z w64 a)) +ℤ (pos (unsigned_abs (to_z w64 (of_z w64 u))) *ℤ to_z w64 (of_z w64 b))) (unsigned_abs (to_z w64 (of_z w64 u)) + unsigned_abs (to_z w64 (of_z w64 v)))
    → to_z w64 (of_z w64 r) ≡ nearest ((v *ℤ a) +ℤ (u *ℤ b)) (unsigned_abs u + unsigned_abs v)
nearest_read r a b u v fr fa fb fu fv h k e =
    to_z-of_z w64 r fr
    ∙ (e ∙ rw (to_z-of_z w64 a fa, to_z-of_z w64 b fb, to_z-of_z w64 u fu, to_z-of_z w64 v fv) (nearest_weighed a b u v h k))

pub floor_read : (r a b u v : ℤ) → FitsSigned w64 r → FitsSigned w64 a → FitsSigned w64 b → FitsSigned w64 u → FitsSigned w64 v → pos 0 <ℤ u → pos 0 <ℤ v
    → r ≡ floor ((pos (unsigned_abs (to_z w64 (of_z w64 v))) *ℤ to_z w64 (of_z w64 a)) +ℤ (pos (unsigned_abs (to_z w64 (of_z w64 u))) *ℤ to_z w64 (of_z w64 b))) (unsigned_abs (to_z w64 (of_z w64 u)) + unsigned_abs (to_z w64 (of_z w64 v)))
    → to_z w64 (of_z w64 r) ≡ floor ((v *ℤ a) +ℤ (u *ℤ b)) (unsigned_abs u + unsigned_abs v)
floor_read r a b u v fr fa fb fu fv h k e =
    to_z-of_z w64 r fr
    ∙ (e ∙ rw (to_z-of_z w64 a fa, to_z-of_z w64 b fb, to_z-of_z w64 u fu, to_z-of_z w64 v fv) (floor_weighed a b u v h k))

pub mean_read : (r : Bool) (a b n u v : ℤ) → FitsSigned w64 a → FitsSigned w64 b → FitsSigned w64 n → FitsSigned w64 u → FitsSigned w64 v → pos 0 <ℤ u → pos 0 <ℤ v
    → r ≡ int_eq (pos (unsigned_abs (to_z w64 (of_z w64 u)) + unsigned_abs (to_z w64 (of_z w64 v))) *ℤ to_z w64 (of_z w64 n)) ((pos (unsigned_abs (to_z w64 (of_z w64 v))) *ℤ to_z w64 (of_z w64 a)) +ℤ (pos (unsigned_abs (to_z w64 (of_z w64 u))) *ℤ to_z w64 (of_z w64 b)))
    → r ≡ int_eq ((u +ℤ v) *ℤ n) ((v *ℤ a) +ℤ (u *ℤ b))
mean_read r a b n u v fa fb fn fu fv h k e =
    e ∙ rw (to_z-of_z w64 a fa, to_z-of_z w64 b fb, to_z-of_z w64 n fn, to_z-of_z w64 u fu, to_z-of_z w64 v fv) (mean_weighed a b n u v h k)
