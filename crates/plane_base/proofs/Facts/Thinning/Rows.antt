-- Four points in a row of which the first three lie on one line, and the last three too.
use Rattle.std.proofs.Common.{◌≡◌, zero, suc, [], ◌∷◌, ℤ, pos, negsuc, ◌+ℤ◌, ◌-ℤ◌, ◌*ℤ◌, neg_ℤ, ◌⊎◌, inl, inr, refl, ap, ◌∙◌, arith}
use Rattle.std.proofs.lemmas.Int.{ints}
use Rattle.std.proofs.Math.IntN.{*ℤ-zero}
use Rattle.plane_base.specs.Plane.{Point, turn}
use Rattle.plane_base.proofs.Facts.Numbers.Products.{factor_zero, negation_product}
use Rattle.plane_base.proofs.Facts.Numbers.Polynomials.{minus, plus, times, by_ring}
use Rattle.plane_base.proofs.Facts.Points.Turns.{coordinates, place, a_turn, turn_quadrangle}

product_zero : (a b : ℤ) → a *ℤ b ≡ pos 0 → (a ≡ pos 0 → ⊥) → b ≡ pos 0
product_zero (pos zero) b e h = absurd (h refl)
product_zero (pos (suc n)) b e h = factor_zero (pos (suc n)) b (omega (arith, ints)) e
product_zero (negsuc n) b e h = factor_zero (pos (suc n)) b (omega (arith, ints)) (negation_product (negsuc n) b ∙ ap neg_ℤ e)

cases_zero : (a : ℤ) → (a ≡ pos 0) ⊎ (a ≡ pos 0 → ⊥)
cases_zero (pos zero) = inl refl
cases_zero (pos (suc n)) = inr (λ e. omega (arith, ints))
cases_zero (negsuc n) = inr (λ e. omega (arith, ints))

same_point : (a b : Point) → b.x -ℤ a.x ≡ pos 0 → b.y -ℤ a.y ≡ pos 0 → a ≡ b
same_point a b e f =
    let x : a.x ≡ b.x = omega (arith, ints) in
    let y : a.y ≡ b.y = omega (arith, ints) in
    ap (λ u. record { x = u; y = a.y }) x ∙ ap (λ u. record { x = b.x; y = u }) y

row_x : (a b c d : Point) → (c.x -ℤ b.x) *ℤ turn a b d ≡ ((d.x -ℤ b.x) *ℤ turn a b c) +ℤ ((b.x -ℤ a.x) *ℤ turn b c d)
row_x a b c d =
    let u = place 0 in let v = place 1 in let w = place 2 in let z = place 3 in
    by_ring (coordinates (a ∷ b ∷ c ∷ d ∷ []) [])
    (times (minus w.x v.x) (a_turn u v z))
    (plus (times (minus z.x v.x) (a_turn u v w)) (times (minus v.x u.x) (a_turn v w z)))
    refl

row_y : (a b c d : Point) → (c.y -ℤ b.y) *ℤ turn a b d ≡ ((d.y -ℤ b.y) *ℤ turn a b c) +ℤ ((b.y -ℤ a.y) *ℤ turn b c d)
row_y a b c d =
    let u = place 0 in let v = place 1 in let w = place 2 in let z = place 3 in
    by_ring (coordinates (a ∷ b ∷ c ∷ d ∷ []) [])
    (times (minus w.y v.y) (a_turn u v z))
    (plus (times (minus z.y v.y) (a_turn u v w)) (times (minus v.y u.y) (a_turn v w z)))
    refl

-- where the middle two differ, the outer two lie on one line with either of them
pub row_straight : (a b c d : Point) → turn a b c ≡ pos 0 → turn b c d ≡ pos 0 → (b ≡ c) ⊎ ((turn a b d ≡ pos 0) × (turn a c d ≡ pos 0))
row_straight a b c d e f = by (cases_zero (c.x -ℤ b.x)) (cases_zero (c.y -ℤ b.y))
  where
    none : (k m t s : ℤ) → t ≡ pos 0 → s ≡ pos 0 → (k *ℤ t) +ℤ (m *ℤ s) ≡ pos 0
    none k m t s p q = ap (λ x. (k *ℤ x) +ℤ (m *ℤ s)) p ∙ (ap (λ x. (k *ℤ pos 0) +ℤ (m *ℤ x)) q ∙ (ap (λ x. x +ℤ (m *ℤ pos 0)) (*ℤ-zero k) ∙ ap (λ x. pos 0 +ℤ x) (*ℤ-zero m)))

    both : turn a b d ≡ pos 0 → (b ≡ c) ⊎ ((turn a b d ≡ pos 0) × (turn a c d ≡ pos 0))
    both z = inr (z, rest (turn a b c) (turn a c d) (turn a b d) (turn b c d) (turn_quadrangle a b c d) e z f)
      where
        rest : (t u v w : ℤ) → t +ℤ u ≡ v +ℤ w → t ≡ pos 0 → v ≡ pos 0 → w ≡ pos 0 → u ≡ pos 0
        rest t u v w s p q r = omega (arith, ints)

    by : (c.x -ℤ b.x ≡ pos 0) ⊎ (c.x -ℤ b.x ≡ pos 0 → ⊥) → (c.y -ℤ b.y ≡ pos 0) ⊎ (c.y -ℤ b.y ≡ pos 0 → ⊥) → (b ≡ c) ⊎ ((turn a b d ≡ pos 0) × (turn a c d ≡ pos 0))
    by (inl x) (inl y) = inl (same_point b c x y)
    by (inl x) (inr y) = both (product_zero (c.y -ℤ b.y) (turn a b d) (row_y a b c d ∙ none (d.y -ℤ b.y) (b.y -ℤ a.y) (turn a b c) (turn b c d) e f) y)
    by (inr x) y = both (product_zero (c.x -ℤ b.x) (turn a b d) (row_x a b c d ∙ none (d.x -ℤ b.x) (b.x -ℤ a.x) (turn a b c) (turn b c d) e f) x)
