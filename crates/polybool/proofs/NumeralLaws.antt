-- Laws of numbers that may be coordinates.
use Rattle.std.proofs.Common.{◌≡◌, ℕ, ◌<◌, ◌≤◌, ◌⊎◌, ◌^◌, ℤ, pos, neg_ℤ, ◌≤ℤ◌, ◌<ℤ◌, min, inl, inr, subst, arith}
use Rattle.std.proofs.lemmas.Int.{ints}
use Rattle.std.proofs.lemmas.Bool.{cases_lt}
use Rattle.plane_base.specs.Plane.{IsCoordinate}
use Rattle.polybool.specs.Coordinates.{IsFound}
use Rattle.polybool.specs.declared.numeral.Numeral.{Numeral}
use Rattle.polybool.specs.declared.numeral.Numeral.TheVariants.{Within, Beyond}

module _ {I : Type 0} (value : I → ℤ) (least greatest : ℤ) where
  -- of one number that is no coordinate is found what is found of another
  both_beyond : (r : Numeral I) (z w : ℤ) → (IsCoordinate least greatest z → ⊥) → (IsCoordinate least greatest w → ⊥)
      → IsFound value least greatest r z → IsFound value least greatest r w
  both_beyond (Within x) z w out beyond found = absurd (out found.1)
  both_beyond Beyond z w out beyond found = beyond

  -- numbers further from 0 than any coordinate are found alike
  pub found_below : (r : Numeral I) (size n : ℕ) → neg_ℤ (pos (2 ^ 36)) ≤ℤ least → size ≡ min n 68719476737 → IsFound value least greatest r (neg_ℤ (pos size))
      → IsFound value least greatest r (neg_ℤ (pos n))
  found_below r size n low is found = by (cases_lt n 68719476737)
    where
      far : (m : ℕ) → 68719476737 ≤ m → IsCoordinate least greatest (neg_ℤ (pos m)) → ⊥
      far m h at = omega (arith, ints, low, at.0, h)

      by : (n < 68719476737) ⊎ (68719476737 ≤ n) → IsFound value least greatest r (neg_ℤ (pos n))
      by (inl near) = let same : size ≡ n = omega (arith, is, near) in subst (λ m. IsFound value least greatest r (neg_ℤ (pos m))) same found
      by (inr beyond) = both_beyond r (neg_ℤ (pos size)) (neg_ℤ (pos n)) (far size (omega (arith, is, beyond))) (far n beyond) found

  pub found_above : (r : Numeral I) (size n : ℕ) → greatest <ℤ pos (2 ^ 36) → size ≡ min n 68719476737 → IsFound value least greatest r (pos size)
      → IsFound value least greatest r (pos n)
  found_above r size n high is found = by (cases_lt n 68719476737)
    where
      far : (m : ℕ) → 68719476737 ≤ m → IsCoordinate least greatest (pos m) → ⊥
      far m h at = omega (arith, ints, high, at.1, h)

      by : (n < 68719476737) ⊎ (68719476737 ≤ n) → IsFound value least greatest r (pos n)
      by (inl near) = let same : size ≡ n = omega (arith, is, near) in subst (λ m. IsFound value least greatest r (pos m)) same found
      by (inr beyond) = both_beyond r (pos size) (pos n) (far size (omega (arith, is, beyond))) (far n beyond) found
