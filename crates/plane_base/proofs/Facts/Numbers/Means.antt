-- The mean of two numbers, weighed, and rounded to a whole number.
use Rattle.std.proofs.Common.{◌≡◌, ℕ, ◌+◌, ◌*◌, ◌<◌, ◌≤◌, ◌^◌, ℤ, pos, negsuc, ◌+ℤ◌, ◌-ℤ◌, ◌*ℤ◌, neg_ℤ, ◌≤ℤ◌, [], ◌∷◌, refl, sym, ap, ◌∙◌, arith, w64, to_z, of_z, FitsSigned, eqb, int_eq, eqb-true, eq-eqb}
use Rattle.std.proofs.lemmas.Bool.Decides.{Decides-int_eq, Decides-like, same_from_decides}
use Rattle.std.proofs.lemmas.Int.{ints, to_z-of_z, fits_signed_from_abs}
use Rattle.std.proofs.Math.IntN.{*ℤ_comm}
use Rattle.plane_base.specs.Crossing.{floor, nearest}
use Rattle.plane_base.proofs.Facts.Numbers.Products.{product_monotone}
use Rattle.plane_base.proofs.Facts.Numbers.Polynomials.{var, const, plus, minus, times, by_ring}
use Rattle.plane_base.proofs.Facts.Numbers.Products64.{size_at_most}
use Rattle.plane_base.proofs.Facts.Numbers.Rounding.{floor_moved, floor_within, nearest_within}

-- ---- a difference of coordinates times a weight

pub weighed_low : (d : ℤ) (w : ℕ) → negsuc 1048575 ≤ℤ d → neg_ℤ (pos (2 ^ 20 * w)) ≤ℤ (d *ℤ pos w)
weighed_low d w h = from_swapped _ _ (*ℤ_comm d (pos w)) (product_monotone (pos w) (negsuc 1048575) d (omega (arith, ints)) h)
  where
    from_swapped : (x y : ℤ) → x ≡ y → (pos w *ℤ negsuc 1048575) ≤ℤ y → neg_ℤ (pos (2 ^ 20 * w)) ≤ℤ x
    from_swapped x y e l = omega (arith, ints)

pub weighed_high : (d : ℤ) (w : ℕ) → d ≤ℤ pos 1048575 → (d *ℤ pos w) ≤ℤ pos (2 ^ 20 * w)
weighed_high d w h = from_swapped _ _ (*ℤ_comm d (pos w)) (product_monotone (pos w) d (pos 1048575) (omega (arith, ints)) h)
  where
    from_swapped : (x y : ℤ) → x ≡ y → y ≤ℤ (pos w *ℤ pos 1048575) → x ≤ℤ pos (2 ^ 20 * w)
    from_swapped x y e l = omega (arith, ints)

-- ---- the mean, from a

pub mean_from_first : (a b : ℤ) (u v : ℕ) → (pos v *ℤ a) +ℤ (pos u *ℤ b) ≡ (pos (u + v) *ℤ a) +ℤ ((b -ℤ a) *ℤ pos u)
mean_from_first a b u v =
    by_ring (a ∷ b ∷ pos u ∷ pos v ∷ [])
    (plus (times (var 3) (var 0)) (times (var 2) (var 1)))
    (plus (times (plus (var 2) (var 3)) (var 0)) (times (minus (var 1) (var 0)) (var 2)))
    refl

pub floor_mean_is : (a b : ℤ) (u v : ℕ) → 0 < u + v → floor ((pos v *ℤ a) +ℤ (pos u *ℤ b)) (u + v) ≡ a +ℤ floor ((b -ℤ a) *ℤ pos u) (u + v)
floor_mean_is a b u v h = rw (mean_from_first a b u v) (floor_moved ((b -ℤ a) *ℤ pos u) a (u + v) h)

pub nearest_mean_is : (a b : ℤ) (u v : ℕ) → 0 < u + v → nearest ((pos v *ℤ a) +ℤ (pos u *ℤ b)) (u + v) ≡ a +ℤ floor ((pos 2 *ℤ ((b -ℤ a) *ℤ pos u)) +ℤ pos (u + v)) (2 * (u + v))
nearest_mean_is a b u v h =
    ap (λ z. floor z (2 * (u + v))) doubled ∙ floor_moved ((pos 2 *ℤ ((b -ℤ a) *ℤ pos u)) +ℤ pos (u + v)) a (2 * (u + v)) (omega arith)
  where
    doubled : (pos 2 *ℤ ((pos v *ℤ a) +ℤ (pos u *ℤ b))) +ℤ pos (u + v) ≡ (pos (2 * (u + v)) *ℤ a) +ℤ ((pos 2 *ℤ ((b -ℤ a) *ℤ pos u)) +ℤ pos (u + v))
    doubled =
        by_ring (a ∷ b ∷ pos u ∷ pos v ∷ [])
        (plus (times (const (pos 2)) (plus (times (var 3) (var 0)) (times (var 2) (var 1)))) (plus (var 2) (var 3)))
        (plus (times (times (const (pos 2)) (plus (var 2) (var 3))) (var 0)) (plus (times (const (pos 2)) (times (minus (var 1) (var 0)) (var 2))) (plus (var 2) (var 3))))
        refl

-- ---- it lies between the two

pub mean_low : (a b low : ℤ) (u v : ℕ) → low ≤ℤ a → low ≤ℤ b → (pos (u + v) *ℤ low) ≤ℤ ((pos v *ℤ a) +ℤ (pos u *ℤ b))
mean_low a b low u v h k =
    joined _ _ _ _ _ split (product_monotone (pos v) low a (omega (arith, ints)) h) (product_monotone (pos u) low b (omega (arith, ints)) k)
  where
    split : pos (u + v) *ℤ low ≡ (pos v *ℤ low) +ℤ (pos u *ℤ low)
    split = by_ring (pos u ∷ pos v ∷ low ∷ []) (times (plus (var 0) (var 1)) (var 2)) (plus (times (var 1) (var 2)) (times (var 0) (var 2))) refl

    joined : (w x y z t : ℤ) → w ≡ x +ℤ y → x ≤ℤ z → y ≤ℤ t → w ≤ℤ (z +ℤ t)
    joined w x y z t e l m = omega (arith, ints)

pub mean_high : (a b high : ℤ) (u v : ℕ) → a ≤ℤ high → b ≤ℤ high → ((pos v *ℤ a) +ℤ (pos u *ℤ b)) ≤ℤ (pos (u + v) *ℤ high)
mean_high a b high u v h k =
    joined _ _ _ _ _ split (product_monotone (pos v) a high (omega (arith, ints)) h) (product_monotone (pos u) b high (omega (arith, ints)) k)
  where
    split : pos (u + v) *ℤ high ≡ (pos v *ℤ high) +ℤ (pos u *ℤ high)
    split = by_ring (pos u ∷ pos v ∷ high ∷ []) (times (plus (var 0) (var 1)) (var 2)) (plus (times (var 1) (var 2)) (times (var 0) (var 2))) refl

    joined : (w x y z t : ℤ) → w ≡ x +ℤ y → z ≤ℤ x → t ≤ℤ y → (z +ℤ t) ≤ℤ w
    joined w x y z t e l m = omega (arith, ints)

pub nearest_mean_within : (a b low high : ℤ) (u v : ℕ) → 0 < u + v → low ≤ℤ a → a ≤ℤ high → low ≤ℤ b → b ≤ℤ high → (low ≤ℤ nearest ((pos v *ℤ a) +ℤ (pos u *ℤ b)) (u + v)) × (nearest ((pos v *ℤ a) +ℤ (pos u *ℤ b)) (u + v) ≤ℤ high)
nearest_mean_within a b low high u v h k l m n =
    nearest_within ((pos v *ℤ a) +ℤ (pos u *ℤ b)) low high (u + v) h (mean_low a b low u v k m) (mean_high a b high u v l n)

pub floor_mean_within : (a b low high : ℤ) (u v : ℕ) → 0 < u + v → low ≤ℤ a → a ≤ℤ high → low ≤ℤ b → b ≤ℤ high → (low ≤ℤ floor ((pos v *ℤ a) +ℤ (pos u *ℤ b)) (u + v)) × (floor ((pos v *ℤ a) +ℤ (pos u *ℤ b)) (u + v) ≤ℤ high)
floor_mean_within a b low high u v h k l m n =
    floor_within ((pos v *ℤ a) +ℤ (pos u *ℤ b)) low high (u + v) h (mean_low a b low u v k m) (mean_high a b high u v l n)

-- the mean of a number with itself
pub nearest_mean_level : (a b : ℤ) (u v : ℕ) → 0 < u + v → a ≡ b → nearest ((pos v *ℤ a) +ℤ (pos u *ℤ b)) (u + v) ≡ a
nearest_mean_level a b u v h e =
    let k = nearest_mean_within a b a a u v h (omega (arith, ints)) (omega (arith, ints)) (omega (arith, ints)) (omega (arith, ints)) in
    between _ k.0 k.1
  where
    between : (x : ℤ) → a ≤ℤ x → x ≤ℤ a → x ≡ a
    between x l m = omega (arith, ints)

-- ---- what 64 bits give

pub machine_gap : (a b : ℤ) → (negsuc 524287 ≤ℤ a) × (a ≤ℤ pos 524287) → (negsuc 524287 ≤ℤ b) × (b ≤ℤ pos 524287) → to_z w64 (of_z w64 (to_z w64 (of_z w64 b) -ℤ to_z w64 (of_z w64 a))) ≡ b -ℤ a
machine_gap a b h k = omega (arith, ints)

-- such a difference has 21 bits
pub gap_fits : (a b : ℤ) → (negsuc 524287 ≤ℤ a) × (a ≤ℤ pos 524287) → (negsuc 524287 ≤ℤ b) × (b ≤ℤ pos 524287) → (negsuc 1048575 ≤ℤ to_z w64 (of_z w64 (to_z w64 (of_z w64 b) -ℤ to_z w64 (of_z w64 a)))) × (to_z w64 (of_z w64 (to_z w64 (of_z w64 b) -ℤ to_z w64 (of_z w64 a))) ≤ℤ pos 1048575)
gap_fits a b h k = rw (machine_gap a b h k) (omega (arith, ints, h.1, k.0), omega (arith, ints, h.0, k.1))

pub machine_number : (n : ℕ) → n ≤ 2 ^ 42 → to_z w64 n ≡ pos n
machine_number n h = omega (arith, ints)

pub machine_double : (n : ℕ) → n ≤ 2 ^ 42 → to_z w64 (of_z w64 (pos 2 *ℤ to_z w64 n)) ≡ pos (2 * n)
machine_double n h = rw (machine_number n h) (omega (arith, ints))

pub machine_numerator : (w : ℤ) (n : ℕ) → neg_ℤ (pos (2 ^ 61)) ≤ℤ w → w ≤ℤ pos (2 ^ 61) → n ≤ 2 ^ 42 → to_z w64 (of_z w64 (to_z w64 (of_z w64 (pos 2 *ℤ to_z w64 (of_z w64 w))) +ℤ to_z w64 n)) ≡ (pos 2 *ℤ w) +ℤ pos n
machine_numerator w n l k h = rw (machine_number n h) (omega (arith, ints))

-- a sum that is a coordinate
pub coordinate_fits : (a q : ℤ) → FitsSigned w64 a → FitsSigned w64 q → (negsuc 524287 ≤ℤ (a +ℤ q)) × ((a +ℤ q) ≤ℤ pos 524287) → FitsSigned w64 (to_z w64 (of_z w64 a) +ℤ to_z w64 (of_z w64 q))
coordinate_fits a q f g h =
    rw (to_z-of_z w64 a f, to_z-of_z w64 q g) (fits_signed_from_abs w64 (a +ℤ q) (omega (arith, size_at_most (a +ℤ q) 524288 (omega (arith, ints, h.0)) (omega (arith, ints, h.1)))))

pub coordinate_is : (a q : ℤ) → FitsSigned w64 a → FitsSigned w64 q → (negsuc 524287 ≤ℤ (a +ℤ q)) × ((a +ℤ q) ≤ℤ pos 524287) → to_z w64 (of_z w64 (to_z w64 (of_z w64 a) +ℤ to_z w64 (of_z w64 q))) ≡ a +ℤ q
coordinate_is a q f g h =
    to_z-of_z w64 _ (coordinate_fits a q f g h) ∙ rw (to_z-of_z w64 a f, to_z-of_z w64 q g) refl

-- what `==` answers of two numbers' bits
pub eqb-machine : (x y : ℤ) → FitsSigned w64 x → FitsSigned w64 y → eqb (of_z w64 x) (of_z w64 y) ≡ int_eq x y
eqb-machine x y f g =
    same_from_decides (eqb (of_z w64 x) (of_z w64 y)) (int_eq x y)
    ((λ h. sym (to_z-of_z w64 x f) ∙ (ap (to_z w64) (eqb-true _ _ h) ∙ to_z-of_z w64 y g)), (λ e. eq-eqb _ _ (ap (of_z w64) e)))
    (Decides-int_eq x y)

-- the mean is the number exactly where their offsets from a agree
pub same_offset : (a b n : ℤ) (u v : ℕ) → int_eq ((n -ℤ a) *ℤ pos (u + v)) ((b -ℤ a) *ℤ pos u) ≡ int_eq (pos (u + v) *ℤ n) ((pos v *ℤ a) +ℤ (pos u *ℤ b))
same_offset a b n u v =
    same_from_decides (int_eq x y) (int_eq z w) (Decides-int_eq x y)
    (Decides-like (int_eq z w) (λ e. to_offset x y z w shifted e) (λ e. from_offset x y z w shifted e) (Decides-int_eq z w))
  where
    x : ℤ
    x = (n -ℤ a) *ℤ pos (u + v)

    y : ℤ
    y = (b -ℤ a) *ℤ pos u

    z : ℤ
    z = pos (u + v) *ℤ n

    w : ℤ
    w = (pos v *ℤ a) +ℤ (pos u *ℤ b)

    shifted : z -ℤ w ≡ x -ℤ y
    shifted =
        by_ring (a ∷ b ∷ n ∷ pos u ∷ pos v ∷ [])
        (minus (times (plus (var 3) (var 4)) (var 2)) (plus (times (var 4) (var 0)) (times (var 3) (var 1))))
        (minus (times (minus (var 2) (var 0)) (plus (var 3) (var 4))) (times (minus (var 1) (var 0)) (var 3)))
        refl

    to_offset : (x y z w : ℤ) → z -ℤ w ≡ x -ℤ y → z ≡ w → x ≡ y
    to_offset x y z w d e = omega (arith, ints)

    from_offset : (x y z w : ℤ) → z -ℤ w ≡ x -ℤ y → x ≡ y → z ≡ w
    from_offset x y z w d e = omega (arith, ints)
