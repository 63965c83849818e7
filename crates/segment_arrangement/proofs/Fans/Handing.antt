-- The sides of a fan, handed up along it.
use Rattle.std.proofs.Common.{◌≡◌, ℕ, suc, ◌+◌, ◌<◌, List, [], ◌∷◌, length, map, get_or, add-one, ap, ◌∙◌, arith}
use Rattle.std.proofs.lemmas.List.{get_or-map, length-map}
use Rattle.plane_base.specs.Plane.{Point}
use Rattle.plane_base.specs.Counts.{Count, Entry, boolean}
use Rattle.plane_base.specs.Windings.{winding}
use Rattle.segment_arrangement.specs.EdgeSides.{lower_side}
use Rattle.segment_arrangement.specs.FanLaws.{whole, IsFan}
use Rattle.segment_arrangement.specs.SideLaws.{IsArrangement}
use Rattle.segment_arrangement.specs.Sweeps.{IsHandedUp}
use Rattle.segment_arrangement.proofs.Facts.FanSums.{fan_sides}

handed_up :
    {T : Type 0} (index : T → ℕ) (lower count : ℕ → Count) (below : Count) (fan : List T) (d : T) → (0 < length fan → lower (index (get_or fan 0 d)) ≡ below)
    → ((i : ℕ) → suc i < length fan → lower (index (get_or fan (suc i) d)) ≡ boolean.join (lower (index (get_or fan i d))) (count (index (get_or fan i d)))) → IsHandedUp lower count below (map index fan)
handed_up index lower count below [] d first next = tt
handed_up index lower count below (x ∷ rest) d first next = (
  first (omega arith),
  handed_up index lower count (boolean.join below (count (index x))) rest d
      (λ l. next 0 (omega (arith, l)) ∙ ap (λ b. boolean.join b (count (index x))) (first (omega arith)))
      (λ i l. next (suc i) (omega (arith, l))),
)

fan_is_handed_up :
    {T : Type 0} (index : T → ℕ) (of : ℕ → Entry Count) (es : List (Entry Count)) (v : Point) (fan : List T) (d : T) → IsArrangement es → IsFan es v (map (λ t. of (index t)) fan)
    → IsHandedUp (λ i. lower_side es (of i).edge) (λ i. (of i).count) (winding es (whole v)) (map index fan)
fan_is_handed_up index of es v fan t arranged is =
    handed_up index (λ i. lower_side es (of i).edge) (λ i. (of i).count) (winding es (whole v)) fan t
    (λ l. rw (get_or-map (λ t. of (index t)) fan 0 t (of (index t)) l) at (fan_sides.first es (map (λ t. of (index t)) fan) v (of (index t)) arranged is (rw (length-map fan (λ t. of (index t))) l)))
    (λ i l. let near : i < length fan = omega (arith, l) in
    rw (add-one, get_or-map (λ t. of (index t)) fan (suc i) t (of (index t)) l, get_or-map (λ t. of (index t)) fan i t (of (index t)) near) at (fan_sides.next es (map (λ t. of (index t)) fan) v i (of (index t)) arranged is (rw (length-map fan (λ t. of (index t))) (let m : i + 1 < length fan = omega (arith, l) in m))))

-- along the fan of a point the lower sides are handed up from the winding there
pub handed_up_along :
    {T : Type 0} (index : T → ℕ) (of : ℕ → Entry Count) (es : List (Entry Count)) (v : Point) (fan : List T) → IsArrangement es → IsFan es v (map (λ t. of (index t)) fan)
    → IsHandedUp (λ i. lower_side es (of i).edge) (λ i. (of i).count) (winding es (whole v)) (map index fan)
handed_up_along index of es v [] arranged is = tt
handed_up_along index of es v (t ∷ rest) arranged is = fan_is_handed_up index of es v (t ∷ rest) t arranged is
