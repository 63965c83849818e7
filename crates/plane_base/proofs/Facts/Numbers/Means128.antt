-- Weighed means, in 128 bits: the lemmas of 64 bits, with other numerals.
use Rattle.std.proofs.Common.{◌≡◌, ℕ, ◌*◌, ◌≤◌, ◌^◌, ℤ, pos, negsuc, ◌+ℤ◌, ◌-ℤ◌, ◌*ℤ◌, neg_ℤ, ◌≤ℤ◌, refl, sym, ap, ◌∙◌, arith, to_z, of_z, FitsSigned, eqb, int_eq, eqb-true, eq-eqb}
use Rattle.std.specs.Int.{w128}
use Rattle.std.proofs.lemmas.Bool.Decides.{Decides-int_eq, same_from_decides}
use Rattle.std.proofs.lemmas.Int.{ints, to_z-of_z, fits_signed_from_abs}
use Rattle.std.proofs.Math.IntN.{*ℤ_comm}
use Rattle.plane_base.proofs.Facts.Numbers.Products.{product_monotone}
use Rattle.plane_base.proofs.Facts.Numbers.Products64.{size_at_most}

-- ---- a difference of coordinates times a weight

pub weighed_low : (d : ℤ) (w : ℕ) → negsuc 2199023255551 ≤ℤ d → neg_ℤ (pos (2 ^ 41 * w)) ≤ℤ (d *ℤ pos w)
weighed_low d w h = from_swapped _ _ (*ℤ_comm d (pos w)) (product_monotone (pos w) (negsuc 2199023255551) d (omega (arith, ints)) h)
  where
    from_swapped : (x y : ℤ) → x ≡ y → (pos w *ℤ negsuc 2199023255551) ≤ℤ y → neg_ℤ (pos (2 ^ 41 * w)) ≤ℤ x
    from_swapped x y e l = omega (arith, ints)

pub weighed_high : (d : ℤ) (w : ℕ) → d ≤ℤ pos 2199023255551 → (d *ℤ pos w) ≤ℤ pos (2 ^ 41 * w)
weighed_high d w h = from_swapped _ _ (*ℤ_comm d (pos w)) (product_monotone (pos w) d (pos 2199023255551) (omega (arith, ints)) h)
  where
    from_swapped : (x y : ℤ) → x ≡ y → y ≤ℤ (pos w *ℤ pos 2199023255551) → x ≤ℤ pos (2 ^ 41 * w)
    from_swapped x y e l = omega (arith, ints)

-- ---- what 128 bits give

pub machine_gap : (a b : ℤ) → (negsuc 1099511627775 ≤ℤ a) × (a ≤ℤ pos 1099511627775) → (negsuc 1099511627775 ≤ℤ b) × (b ≤ℤ pos 1099511627775) → to_z w128 (of_z w128 (to_z w128 (of_z w128 b) -ℤ to_z w128 (of_z w128 a))) ≡ b -ℤ a
machine_gap a b h k = omega (arith, ints)

-- such a difference has 42 bits
pub gap_fits : (a b : ℤ) → (negsuc 1099511627775 ≤ℤ a) × (a ≤ℤ pos 1099511627775) → (negsuc 1099511627775 ≤ℤ b) × (b ≤ℤ pos 1099511627775) → (negsuc 2199023255551 ≤ℤ to_z w128 (of_z w128 (to_z w128 (of_z w128 b) -ℤ to_z w128 (of_z w128 a)))) × (to_z w128 (of_z w128 (to_z w128 (of_z w128 b) -ℤ to_z w128 (of_z w128 a))) ≤ℤ pos 2199023255551)
gap_fits a b h k = rw (machine_gap a b h k) (omega (arith, ints, h.1, k.0), omega (arith, ints, h.0, k.1))

pub machine_number : (n : ℕ) → n ≤ 2 ^ 84 → to_z w128 n ≡ pos n
machine_number n h = omega (arith, ints)

pub machine_double : (n : ℕ) → n ≤ 2 ^ 84 → to_z w128 (of_z w128 (pos 2 *ℤ to_z w128 n)) ≡ pos (2 * n)
machine_double n h = rw (machine_number n h) (omega (arith, ints))

pub machine_numerator : (w : ℤ) (n : ℕ) → neg_ℤ (pos (2 ^ 124)) ≤ℤ w → w ≤ℤ pos (2 ^ 124) → n ≤ 2 ^ 84 → to_z w128 (of_z w128 (to_z w128 (of_z w128 (pos 2 *ℤ to_z w128 (of_z w128 w))) +ℤ to_z w128 n)) ≡ (pos 2 *ℤ w) +ℤ pos n
machine_numerator w n l k h = rw (machine_number n h) (omega (arith, ints))

-- a sum that is a coordinate
pub coordinate_fits : (a q : ℤ) → FitsSigned w128 a → FitsSigned w128 q → (negsuc 1099511627775 ≤ℤ (a +ℤ q)) × ((a +ℤ q) ≤ℤ pos 1099511627775) → FitsSigned w128 (to_z w128 (of_z w128 a) +ℤ to_z w128 (of_z w128 q))
coordinate_fits a q f g h =
    rw (to_z-of_z w128 a f, to_z-of_z w128 q g) (fits_signed_from_abs w128 (a +ℤ q) (omega (arith, size_at_most (a +ℤ q) 1099511627776 (omega (arith, ints, h.0)) (omega (arith, ints, h.1)))))

pub coordinate_is : (a q : ℤ) → FitsSigned w128 a → FitsSigned w128 q → (negsuc 1099511627775 ≤ℤ (a +ℤ q)) × ((a +ℤ q) ≤ℤ pos 1099511627775) → to_z w128 (of_z w128 (to_z w128 (of_z w128 a) +ℤ to_z w128 (of_z w128 q))) ≡ a +ℤ q
coordinate_is a q f g h =
    to_z-of_z w128 _ (coordinate_fits a q f g h) ∙ rw (to_z-of_z w128 a f, to_z-of_z w128 q g) refl

-- what `==` answers of two numbers' bits
pub eqb-machine : (x y : ℤ) → FitsSigned w128 x → FitsSigned w128 y → eqb (of_z w128 x) (of_z w128 y) ≡ int_eq x y
eqb-machine x y f g =
    same_from_decides (eqb (of_z w128 x) (of_z w128 y)) (int_eq x y)
    ((λ h. sym (to_z-of_z w128 x f) ∙ (ap (to_z w128) (eqb-true _ _ h) ∙ to_z-of_z w128 y g)), (λ e. eq-eqb _ _ (ap (of_z w128) e)))
    (Decides-int_eq x y)
