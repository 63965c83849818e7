-- What kernels are given and give in 64 bits, as 128 bits hold it.
use Rattle.std.proofs.Common.{◌≡◌, ◌+◌, ◌<◌, ◌≤◌, ◌^◌, ℤ, pos, negsuc, ◌+ℤ◌, ◌*ℤ◌, ◌≤ℤ◌, ◌<ℤ◌, ◌∙◌, Bool, int_eq, subst, arith, w64, FitsSigned, to_z, of_z}
use Rattle.std.specs.Int.{w128}
use Rattle.std.specs.Prelude.{unsigned_abs}
use Rattle.std.proofs.lemmas.Int.{ints, to_z-of_z}
use Rattle.plane_base.specs.Plane.{IsCoordinate, HasSize, IsWeight}
use Rattle.plane_base.specs.Crossing.{floor, nearest}
use Rattle.plane_base.proofs.Facts.Numbers.Means.{nearest_mean_within, floor_mean_within}
use Rattle.plane_base.proofs.Facts.Numbers.Weights.{weight_size, weights_above, nearest_weighed, floor_weighed, mean_weighed}

-- a coordinate of 37 bits
abbrev pub IsWide : ℤ → Type 0
IsWide n = IsCoordinate (negsuc 68719476735) (pos 68719476735) n

-- ---- what a kernel is given

-- a number of 64 bits is the same of 128 bits
pub widened : (r n : ℤ) → FitsSigned w64 n → r ≡ to_z w64 (of_z w64 n) → to_z w128 (of_z w128 r) ≡ n
widened r n f e = omega (arith, ints)

-- a way between coordinates
pub way_widened : (r n : ℤ) → FitsSigned w64 n → r ≡ to_z w64 (of_z w64 n) → HasSize (pos 2199023255551) n
    → (negsuc 2199023255551 ≤ℤ to_z w128 (of_z w128 r)) × (to_z w128 (of_z w128 r) ≤ℤ pos 2199023255551)
way_widened r n f e h = rw (widened r n f e) (omega (arith, ints, h.0), h.1)

-- a coordinate
pub coordinate_widened : (r n : ℤ) → FitsSigned w64 n → r ≡ to_z w64 (of_z w64 n) → IsWide n
    → (negsuc 1099511627775 ≤ℤ to_z w128 (of_z w128 r)) × (to_z w128 (of_z w128 r) ≤ℤ pos 1099511627775)
coordinate_widened r n f e h = rw (widened r n f e) (omega (arith, ints, h.0), omega (arith, ints, h.1))

-- a weight
pub weight_widened : (n : ℤ) → FitsSigned w128 n → IsWeight (pos (2 ^ 83)) n → (0 < unsigned_abs (to_z w128 (of_z w128 n))) × (unsigned_abs (to_z w128 (of_z w128 n)) ≤ 2 ^ 83)
weight_widened n f h = rw (to_z-of_z w128 n f) (weight_size n (2 ^ 83) h.0 h.1)

-- ---- what it gives

pub nearest_widened : (r a b u v s t : ℤ) → FitsSigned w64 a → FitsSigned w64 b → FitsSigned w128 u → FitsSigned w128 v → pos 0 <ℤ u → pos 0 <ℤ v
    → s ≡ to_z w64 (of_z w64 a) → t ≡ to_z w64 (of_z w64 b)
    → r ≡ nearest ((pos (unsigned_abs (to_z w128 (of_z w128 v))) *ℤ to_z w128 (of_z w128 s)) +ℤ (pos (unsigned_abs (to_z w128 (of_z w128 u))) *ℤ to_z w128 (of_z w128 t))) (unsigned_abs (to_z w128 (of_z w128 u)) + unsigned_abs (to_z w128 (of_z w128 v)))
    → r ≡ nearest ((v *ℤ a) +ℤ (u *ℤ b)) (unsigned_abs u + unsigned_abs v)
nearest_widened r a b u v s t fa fb fu fv h k ea eb e =
    e ∙ rw (widened s a fa ea, widened t b fb eb, to_z-of_z w128 u fu, to_z-of_z w128 v fv) (nearest_weighed a b u v h k)

pub floor_widened : (r a b u v s t : ℤ) → FitsSigned w64 a → FitsSigned w64 b → FitsSigned w128 u → FitsSigned w128 v → pos 0 <ℤ u → pos 0 <ℤ v
    → s ≡ to_z w64 (of_z w64 a) → t ≡ to_z w64 (of_z w64 b)
    → r ≡ floor ((pos (unsigned_abs (to_z w128 (of_z w128 v))) *ℤ to_z w128 (of_z w128 s)) +ℤ (pos (unsigned_abs (to_z w128 (of_z w128 u))) *ℤ to_z w128 (of_z w128 t))) (unsigned_abs (to_z w128 (of_z w128 u)) + unsigned_abs (to_z w128 (of_z w128 v)))
    → r ≡ floor ((v *ℤ a) +ℤ (u *ℤ b)) (unsigned_abs u + unsigned_abs v)
floor_widened r a b u v s t fa fb fu fv h k ea eb e =
    e ∙ rw (widened s a fa ea, widened t b fb eb, to_z-of_z w128 u fu, to_z-of_z w128 v fv) (floor_weighed a b u v h k)

pub mean_widened : (r : Bool) (a b n u v s t m : ℤ) → FitsSigned w64 a → FitsSigned w64 b → FitsSigned w64 n → FitsSigned w128 u → FitsSigned w128 v → pos 0 <ℤ u → pos 0 <ℤ v
    → s ≡ to_z w64 (of_z w64 a) → t ≡ to_z w64 (of_z w64 b) → m ≡ to_z w64 (of_z w64 n)
    → r ≡ int_eq (pos (unsigned_abs (to_z w128 (of_z w128 u)) + unsigned_abs (to_z w128 (of_z w128 v))) *ℤ to_z w128 (of_z w128 m)) ((pos (unsigned_abs (to_z w128 (of_z w128 v))) *ℤ to_z w128 (of_z w128 s)) +ℤ (pos (unsigned_abs (to_z w128 (of_z w128 u))) *ℤ to_z w128 (of_z w128 t)))
    → r ≡ int_eq ((u +ℤ v) *ℤ n) ((v *ℤ a) +ℤ (u *ℤ b))
mean_widened r a b n u v s t m fa fb fn fu fv h k ea eb en e =
    e ∙ rw (widened s a fa ea, widened t b fb eb, widened m n fn en, to_z-of_z w128 u fu, to_z-of_z w128 v fv) (mean_weighed a b n u v h k)

-- ---- a mean of coordinates is one

pub nearest_in : (a b u v : ℤ) → pos 0 <ℤ u → pos 0 <ℤ v → IsWide a → IsWide b
    → IsWide (nearest ((v *ℤ a) +ℤ (u *ℤ b)) (unsigned_abs u + unsigned_abs v))
nearest_in a b u v h k p q =
    subst IsWide (nearest_weighed a b u v h k)
    (nearest_mean_within a b (negsuc 68719476735) (pos 68719476735) (unsigned_abs u) (unsigned_abs v) (weights_above u v h) p.0 p.1 q.0 q.1)

pub floor_in : (a b u v : ℤ) → pos 0 <ℤ u → pos 0 <ℤ v → IsWide a → IsWide b
    → IsWide (floor ((v *ℤ a) +ℤ (u *ℤ b)) (unsigned_abs u + unsigned_abs v))
floor_in a b u v h k p q =
    subst IsWide (floor_weighed a b u v h k)
    (floor_mean_within a b (negsuc 68719476735) (pos 68719476735) (unsigned_abs u) (unsigned_abs v) (weights_above u v h) p.0 p.1 q.0 q.1)

pub shortened_fits : (r n : ℤ) → r ≡ n → IsWide n → FitsSigned w64 (to_z w128 (of_z w128 r))
shortened_fits r n e h = omega (arith, ints, e, h.0, h.1)

pub shortened : (r n : ℤ) → r ≡ n → IsWide n → to_z w64 (of_z w64 (to_z w128 (of_z w128 r))) ≡ n
shortened r n e h = omega (arith, ints, e, h.0, h.1)
