-- An overlay's counts on one edge are added.
use Rattle.std.proofs.Common.{◌≡◌, Bool, true, false, cond, List, [], ◌∷◌, map, Option, Some, None, ℤ, pos, ◌+ℤ◌, is_eq, refl, ap, ◌∙◌, arith}
use Rattle.std.proofs.lemmas.Int.{ints}
use Rattle.plane_base.specs.Plane.{Edge}
use Rattle.plane_base.specs.Counts.{Count, Entry, boolean}
use Rattle.plane_base.specs.Totals.{total}
use Rattle.plane_base.proofs.Facts.Points.Orders.{edge_itself}
use Rattle.plane_base.proofs.Facts.Maps.Normal.{unless_none, with_count, joined_at, count_at_normal}
use Rattle.plane_base.proofs.Facts.Maps.LinearSums.{boolean_empty}
use Rattle.segment_split.specs.LineLaws.{entries_along, AddsAlong}

abbrev sum_of : List (Entry Count) → Count
sum_of es = record { subject = total (λ e. e.count.subject) es; clip = total (λ e. e.count.clip) es }

joined_sum : (c d : Count) → with_count boolean c (unless_none boolean d) ≡ unless_none boolean (boolean.join c d)
joined_sum c d = by (boolean.is_empty d) refl
  where
    by : (empty : Bool) → boolean.is_empty d ≡ empty → with_count boolean c (cond empty None (Some d)) ≡ unless_none boolean (boolean.join c d)
    by true e =
        let zero = boolean_empty d e in
        ap (unless_none boolean) (λ i. record { subject = same c.subject d.subject zero.0 i; clip = same c.clip d.clip zero.1 i })
      where
        same : (x y : ℤ) → y ≡ pos 0 → x ≡ x +ℤ y
        same x y e = omega (arith, ints)
    by false e = refl

sums : (es : List (Entry Count)) (u : Edge) → joined_at boolean (map (λ e. record { edge = u; count = e.count }) es) u ≡ unless_none boolean (sum_of es)
sums [] u = refl
sums (e ∷ es) u =
    ap (λ o. cond (is_eq o) (with_count boolean e.count rest) rest) (edge_itself u)
    ∙ ap (with_count boolean e.count) (sums es u) ∙ joined_sum e.count (sum_of es)
  where
    rest : Option Count
    rest = joined_at boolean (map (λ e. record { edge = u; count = e.count }) es) u

pub adds_along : AddsAlong
adds_along es u = count_at_normal boolean (map (λ e. record { edge = u; count = e.count }) (entries_along es u)) u ∙ sums (entries_along es u) u
