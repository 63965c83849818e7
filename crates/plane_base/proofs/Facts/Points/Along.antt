-- Rounding along a horizontal or vertical segment: it gives the crossing itself exactly where the nearest whole point is it.
use Rattle.std.proofs.Common.{◌≡◌, ℕ, ◌+◌, ◌<◌, pos, ◌*ℤ◌, Bool, true, false, ◌&&◌, refl, sym, ap, ◌∙◌, int_eq}
use Rattle.std.proofs.lemmas.Bool.{false≢true}
use Rattle.std.proofs.lemmas.Bool.Decides.{Decides-int_eq}
use Rattle.plane_base.specs.Plane.{Point, Edge, RationalPoint}
use Rattle.plane_base.specs.Crossing.{mean, rounded, rounded_along, is_whole}
use Rattle.plane_base.specs.Sides.{rounded_by}
use Rattle.plane_base.specs.declared.rounding.Rounding.{Rounding}
use Rattle.plane_base.specs.declared.rounding.Rounding.TheVariants.{Near, Nearest}
use Rattle.plane_base.proofs.Facts.Crossings.Tests.{both_true}
use Rattle.plane_base.proofs.Facts.Numbers.Means.{nearest_mean_level}
use Rattle.plane_base.proofs.Facts.Numbers.Rounding.{floor_whole, nearest_whole}

-- whether a is p
abbrev pub is_point : Point → RationalPoint → Bool
is_point a p = int_eq (pos p.q *ℤ a.x) p.x && int_eq (pos p.q *ℤ a.y) p.y

pub along_whole : (s : Edge) (u v : ℕ) → 0 < u + v → is_whole (mean s u v) ≡ true → rounded_along s (mean s u v) ≡ rounded (mean s u v)
along_whole s u v h whole = cases (int_eq s.a.y s.b.y) (int_eq s.a.x s.b.x) refl refl
  where
    m : RationalPoint
    m = mean s u v

    parts : (int_eq (pos (u + v) *ℤ (rounded m).x) m.x ≡ true) × (int_eq (pos (u + v) *ℤ (rounded m).y) m.y ≡ true)
    parts = both_true (int_eq (pos (u + v) *ℤ (rounded m).x) m.x) (int_eq (pos (u + v) *ℤ (rounded m).y) m.y) whole

    cases : (r t : Bool) → int_eq s.a.y s.b.y ≡ r → int_eq s.a.x s.b.x ≡ t → rounded_along s m ≡ rounded m
    cases true t e f =
        let level = nearest_mean_level s.a.y s.b.y u v h ((Decides-int_eq s.a.y s.b.y).0 e) in
        let down = floor_whole m.x (rounded m).x (u + v) h ((Decides-int_eq (pos (u + v) *ℤ (rounded m).x) m.x).0 parts.0) in
        rw e (λ j. record { x = down j; y = (sym level) j })
    cases false true e f =
        let level = nearest_mean_level s.a.x s.b.x u v h ((Decides-int_eq s.a.x s.b.x).0 f) in
        let down = floor_whole m.y (rounded m).y (u + v) h ((Decides-int_eq (pos (u + v) *ℤ (rounded m).y) m.y).0 parts.1) in
        rw (e, f) (λ j. record { x = (sym level) j; y = down j })
    cases false false e f = rw (e, f) refl

pub rounded_whole : (rounding : Rounding) (s : Edge) (u v : ℕ) → 0 < u + v → is_whole (mean s u v) ≡ true → rounded_by rounding s (mean s u v) ≡ rounded (mean s u v)
rounded_whole (Near radius) s u v h whole = along_whole s u v h whole
rounded_whole Nearest s u v h whole = refl

-- a point that is the fraction rounded, where that is whole, is the fraction exactly where it is whole
pub point_test : (a : Point) (m : RationalPoint) → 0 < m.q → (is_whole m ≡ true → a ≡ rounded m) → is_point a m ≡ is_whole m
point_test a m h near = by (is_point a m) (is_whole m) refl refl
  where
    exact : is_point a m ≡ true → rounded m ≡ a
    exact e =
        let k = both_true (int_eq (pos m.q *ℤ a.x) m.x) (int_eq (pos m.q *ℤ a.y) m.y) e in
        let x = nearest_whole m.x a.x m.q h ((Decides-int_eq (pos m.q *ℤ a.x) m.x).0 k.0) in
        let y = nearest_whole m.y a.y m.q h ((Decides-int_eq (pos m.q *ℤ a.y) m.y).0 k.1) in
        λ i. record { x = x i; y = y i }

    by : (b c : Bool) → is_point a m ≡ b → is_whole m ≡ c → b ≡ c
    by true true e f = refl
    by true false e f = absurd (false≢true (sym f ∙ (ap (λ p. is_point p m) (exact e) ∙ e)))
    by false true e f = absurd (false≢true (sym e ∙ (ap (λ p. is_point p m) (near f) ∙ f)))
    by false false e f = refl
