-- Long loops wind as their path does: shorter ones wind round no point.
use Rattle.std.proofs.Common.{◌≡◌, ℕ, true, if◌then◌else◌, List, [], ◌∷◌, flat_map, filter, ℤ, pos, ◌+ℤ◌, refl, sym, ap, ◌∙◌, append-nil, arith}
use Rattle.std.specs.Prelude.{◌≤◌, ◌/◌, ◌&&◌, nat_le, length, unsigned_abs}
use Rattle.std.proofs.lemmas.Bool.{and_from}
use Rattle.std.proofs.lemmas.Bool.Decides.{nat_tests}
use Rattle.std.proofs.lemmas.Int.{ints}
use Rattle.plane_base.specs.Areas.{area}
use Rattle.plane_base.specs.Plane.{Point, Edge, RationalPoint, step_winding}
use Rattle.plane_base.specs.Totals.{total}
use Rattle.plane_base.proofs.Facts.Lists.Totals.{total_flat_map, total_filter, total_pointwise, total_permutation}
use Rattle.plane_base.proofs.Facts.Windings.Paths.{step_winding_turned, step_winding_still}
use Rattle.contour_walk.specs.WalkLaws.{contour_steps}
use Rattle.contour_walk.specs.Loops.{is_long, loops}
use Rattle.contour_walk.specs.LoopLaws.{LoopsKeepSteps, TwoPointsWindNothing, LongLoopsWind}
use Rattle.contour_walk.proofs.Facts.Walks.Winds.{contours_by_steps}
use Rattle.contour_walk.proofs.Cutting.Steps.{steps_stay}

abbrev added : RationalPoint → Edge → ℤ
added p s = step_winding s.a s.b p

back_winds_nothing : (u v : Point) (p : RationalPoint) → step_winding u v p +ℤ (step_winding v u p +ℤ pos 0) ≡ pos 0
back_winds_nothing u v p = let turned = step_winding_turned u v p in omega (arith, ints)

pub two_points_wind_nothing : TwoPointsWindNothing
two_points_wind_nothing u v p = contours_by_steps ((u ∷ v ∷ []) ∷ []) p ∙ back_winds_nothing u v p

long_enough : (n m : ℕ) → 3 ≤ n → (nat_le 3 n && nat_le 0 m) ≡ true
long_enough n m h = and_from (nat_le 3 n) (nat_le 0 m) (grind (arith, nat_tests)) (grind (arith, nat_tests))

of_long : (p : RationalPoint) (points : List Point) → total (added p) (contour_steps points) ≡ (if is_long 0 points then total (added p)
    (contour_steps points) else pos 0)
of_long p [] = refl
of_long p (u ∷ []) = let still = step_winding_still u p in omega (arith, ints)
of_long p (u ∷ v ∷ []) = back_winds_nothing u v p
of_long p (u ∷ v ∷ w ∷ rest) =
    let points = u ∷ v ∷ w ∷ rest in
    sym (ap (λ b. (if b then total (added p) (contour_steps points) else pos 0)) (long_enough (length points) (unsigned_abs (area points) / 2) (omega arith)))

pub loops_keep_steps : LoopsKeepSteps
loops_keep_steps points = steps_stay points []

pub long_loops_wind : LongLoopsWind
long_loops_wind points p =
    contours_by_steps (filter (is_long 0) (loops points)) p
    ∙ (total_flat_map (added p) contour_steps (filter (is_long 0) (loops points))
    ∙ (total_filter (λ l. total (added p) (contour_steps l)) (is_long 0) (loops points)
    ∙ (sym (total_pointwise (λ l. total (added p) (contour_steps l)) (λ l. (if is_long 0 l then total (added p)
    (contour_steps l) else pos 0)) (loops points) (of_long p))
    ∙ (sym (total_flat_map (added p) contour_steps (loops points))
    ∙ (total_permutation (added p) (contour_steps points) (flat_map contour_steps (loops points)) (loops_keep_steps points)
    ∙ (path_alone points ∙ sym (contours_by_steps (points ∷ []) p)))))))
  where
    path_alone : (ps : List Point) → total (added p) (contour_steps ps) ≡ total (added p) (flat_map contour_steps (ps ∷ []))
    path_alone ps = ap (total (added p)) (sym (append-nil (contour_steps ps)))
