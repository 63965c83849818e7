-- How often contours wind round a point doesn't depend on how its fractions are written.
use Rattle.std.proofs.Common.{◌≡◌, ◌*◌, Bool, true, false, cond, ◌&&◌, List, [], ◌∷◌, ℤ, pos, negsuc, ◌+ℤ◌, ◌*ℤ◌, ◌≤ℤ◌, ◌<ℤ◌, int_lt, int_le, refl, sym, ap, ap₂, ◌∙◌, arith}
use Rattle.std.proofs.lemmas.Int.{ints}
use Rattle.plane_base.specs.Plane.{Point, RationalPoint, IsRational, side, is_below, step_winding}
use Rattle.plane_base.specs.Windings.{path_winding, cycle_winding}
use Rattle.plane_base.specs.Given.{closed}
use Rattle.plane_base.proofs.Facts.Lists.Totals.{total_pointwise}
use Rattle.plane_base.proofs.Facts.Numbers.Polynomials.{var, times, by_ring}
use Rattle.plane_base.proofs.Facts.Numbers.Products.{product_assoc, product_monotone, at_most_of_products}
use Rattle.plane_base.proofs.Facts.Points.Turns.{coordinates, place, a_side}
use Rattle.plane_base.proofs.Facts.Windings.Sums.{contour_winding_is}
use Rattle.polygon_overlay.proofs.Sized.Terms.{over, WindsAlikeOver}

le_scaled : (k a b : ℤ) → pos 0 <ℤ k → int_le (k *ℤ a) (k *ℤ b) ≡ int_le a b
le_scaled k a b some = by (int_le (k *ℤ a) (k *ℤ b)) (int_le a b) refl refl
  where
    tells : (x y : ℤ) → int_le x y ≡ true → x ≤ℤ y
    tells x y e = omega (arith, ints)

    clash : (x y : ℤ) → int_le x y ≡ false → x ≤ℤ y → ⊥
    clash x y e l = omega (arith, ints)

    by : (m n : Bool) → int_le (k *ℤ a) (k *ℤ b) ≡ m → int_le a b ≡ n → m ≡ n
    by true true e f = refl
    by false false e f = refl
    by true false e f = absurd (clash a b f (at_most_of_products k a b some (tells (k *ℤ a) (k *ℤ b) e)))
    by false true e f = absurd (clash (k *ℤ a) (k *ℤ b) e (product_monotone k a b (omega (arith, ints, some)) (tells a b f)))

lt_scaled : (k a b : ℤ) → pos 0 <ℤ k → int_lt (k *ℤ a) (k *ℤ b) ≡ int_lt a b
lt_scaled k a b some = by (int_lt (k *ℤ a) (k *ℤ b)) (int_lt a b) refl refl
  where
    tells : (x y : ℤ) → int_lt x y ≡ false → y ≤ℤ x
    tells x y e = omega (arith, ints)

    clash : (x y : ℤ) → int_lt x y ≡ true → y ≤ℤ x → ⊥
    clash x y e l = omega (arith, ints)

    by : (m n : Bool) → int_lt (k *ℤ a) (k *ℤ b) ≡ m → int_lt a b ≡ n → m ≡ n
    by true true e f = refl
    by false false e f = refl
    by true false e f = absurd (clash (k *ℤ a) (k *ℤ b) e (product_monotone k b a (omega (arith, ints, some)) (tells a b f)))
    by false true e f = absurd (clash a b f (at_most_of_products k b a some (tells (k *ℤ a) (k *ℤ b) e)))

module _ (m p : RationalPoint) (some : IsRational m) where
  positive : pos 0 <ℤ pos m.q
  positive = omega (arith, ints, some)

  column : (x : ℤ) → pos (m.q * p.q) *ℤ x ≡ pos m.q *ℤ (pos p.q *ℤ x)
  column x = product_assoc (pos m.q) (pos p.q) x

  side_over : (u v : Point) → side u v (over m p) ≡ pos m.q *ℤ side u v p
  side_over u v =
      by_ring (coordinates (u ∷ v ∷ []) (p.x ∷ p.y ∷ pos p.q ∷ pos m.q ∷ []))
      (a_side (place 0) (place 1) (record { x = times (var 7) (var 4); y = times (var 7) (var 5) }) (times (var 7) (var 6)))
      (times (var 7) (a_side (place 0) (place 1) (place 2) (var 6)))
      refl

  below_over : (u v : Point) → is_below u v (over m p) ≡ is_below u v p
  below_over u v =
      ap₂ (λ a b. a && b)
      (ap₂ (λ a b. a && b)
      (ap (λ x. int_le x (pos m.q *ℤ p.x)) (column u.x) ∙ le_scaled (pos m.q) (pos p.q *ℤ u.x) p.x positive)
      (ap (λ x. int_lt (pos m.q *ℤ p.x) x) (column v.x) ∙ lt_scaled (pos m.q) p.x (pos p.q *ℤ v.x) positive))
      (ap₂ int_lt (nothing (pos m.q)) (side_over u v) ∙ lt_scaled (pos m.q) (pos 0) (side u v p) positive)
    where
      nothing : (k : ℤ) → pos 0 ≡ k *ℤ pos 0
      nothing k = omega (arith, ints)

  step_over : (u v : Point) → step_winding u v (over m p) ≡ step_winding u v p
  step_over u v = ap₂ (λ a b. cond a (pos 1) (cond b (negsuc 0) (pos 0))) (below_over u v) (below_over v u)

  path_over : (ps : List Point) → path_winding ps (over m p) ≡ path_winding ps p
  path_over [] = refl
  path_over (u ∷ []) = refl
  path_over (u ∷ v ∷ rest) = ap₂ (λ a b. a +ℤ b) (step_over u v) (path_over (v ∷ rest))

pub winds_alike_over : WindsAlikeOver
winds_alike_over m p cs some =
    contour_winding_is cs (over m p)
    ∙ (total_pointwise (λ c. cycle_winding c (over m p)) (λ c. cycle_winding c p) cs (λ c. path_over m p some (closed c)) ∙ sym (contour_winding_is cs p))
