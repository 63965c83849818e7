-- What comparing coordinates says of their values, and what points and segments take from it.
use Rattle.std.proofs.Common.{◌≡◌, ◌≢◌, ℤ, true, false, List, [], ◌∷◌, Option, Some, Less, Equal, Greater, refl, sym, ap, ap₂, ◌∙◌}
use Rattle.std.specs.Ordering.{int_cmp, is_lt, ordering_then, partial_ordering_then, is_some_and}
use Rattle.std.specs.declared.cmp.Ordering.{Ordering}
use Rattle.std.proofs.lemmas.Bool.{false≢true}
use Rattle.plane_base.specs.Plane.{Point, point_order}
use Rattle.plane_base.specs.Counts.{Counting, Entry, lay}
use Rattle.plane_base.proofs.Facts.Points.Orders.{point_total, point_equal, is_less, less_from_greater}

module _ {X : Type 0} (value : X → ℤ) (cmp : X → X → Ordering) (ordered : (a b : X) → cmp a b ≡ int_cmp (value a) (value b)) (partial : X → X → Option Ordering) (agrees : (a b : X) → partial a b ≡ Some (cmp a b)) where
  -- the test of two points is that of both orders
  pub points_told : (ax ay bx by : X) → is_some_and is_lt (partial_ordering_then (partial ax bx) (partial ay by)) ≡ is_lt (ordering_then (cmp ax bx) (cmp ay by))
  points_told ax ay bx by = ap₂ (λ o p. is_some_and is_lt (partial_ordering_then o p)) (agrees ax bx) (agrees ay by) ∙ cases (cmp ax bx) (cmp ay by)
    where
      cases : (o p : Ordering) → is_some_and is_lt (partial_ordering_then (Some o) (Some p)) ≡ is_lt (ordering_then o p)
      cases Less p = refl
      cases Equal p = refl
      cases Greater p = refl

-- the order of two points, by their parts
module _ {I : Type 0} (value : I → ℤ) (cmp : I → I → Ordering) (ordered : (a b : I) → cmp a b ≡ int_cmp (value a) (value b)) where
  pub point_told : (ax ay bx by : I) → ordering_then (cmp ax bx) (cmp ay by) ≡ ordering_then (int_cmp (value ax) (value bx)) (int_cmp (value ay) (value by))
  point_told ax ay bx by = ap₂ ordering_then (ordered ax bx) (ordered ay by)

-- a step from the lesser point, and one to it
abbrev lay_by : {C : Type 0} → Counting C → Ordering → Point → Point → C → List (Entry C)
lay_by kind o u v c =
    elim o [
      | Less ↦ record { edge = record { a = u; b = v }; count = c } ∷ []
      | Equal ↦ []
      | Greater ↦ record { edge = record { a = v; b = u }; count = kind.turned c } ∷ []
    ]

pub laid_on : {C : Type 0} (kind : Counting C) (u v : Point) (c : C) → is_lt (point_order u v) ≡ true → record { edge = record { a = u; b = v }; count = c } ∷ [] ≡ lay kind u v c
laid_on kind u v c h = ap (λ o. lay_by kind o u v c) (sym (is_less (point_order u v) h))

is_more : (o : Ordering) → is_lt o ≡ false → o ≢ Equal → o ≡ Greater
is_more Less h n = absurd (false≢true (sym h))
is_more Equal h n = absurd (n refl)
is_more Greater h n = refl

pub laid_back : {C : Type 0} (kind : Counting C) (u v : Point) (c : C) → is_lt (point_order u v) ≡ false → u ≢ v → record { edge = record { a = v; b = u }; count = kind.turned c } ∷ [] ≡ lay kind u v c
laid_back kind u v c h n = ap (λ o. lay_by kind o u v c) (sym (is_more (point_order u v) h (λ e. n (point_equal u v e))))

-- where the first point is not the lesser, and not the second, the second is
pub other_less : (u v : Point) → is_lt (point_order u v) ≡ false → u ≢ v → is_lt (point_order v u) ≡ true
other_less u v h n = ap is_lt (less_from_greater point_total u v (is_more (point_order u v) h (λ e. n (point_equal u v e))))
