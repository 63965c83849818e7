-- Contours of horizontal and vertical steps wind alike round all points of a unit square, its left side and its top included.
use Rattle.std.proofs.Common.{◌≡◌, ◌⊎◌, inl, inr, Bool, true, false, cond, List, [], ◌∷◌, ◌++◌, ℤ, pos, negsuc, ◌+ℤ◌, ◌*ℤ◌, ◌≤ℤ◌, ◌<ℤ◌, int_lt, int_le, refl, sym, ap, ap₂, ◌∙◌, arith}
use Rattle.std.proofs.lemmas.Int.{ints}
use Rattle.std.proofs.lemmas.Bool.{false≢true}
use Rattle.std.proofs.lemmas.List.Elements.{All-head, All-tail, All-weaker}
use Rattle.plane_base.specs.Plane.{Point, RationalPoint, IsRational, step_winding}
use Rattle.plane_base.specs.Windings.{contour_winding, path_winding, cycle_winding}
use Rattle.plane_base.proofs.Facts.Lists.Totals.{total_pointwise_on}
use Rattle.plane_base.proofs.Facts.Points.OneLine.{contribution, at_or_before, is_above, step_winding_is}
use Rattle.plane_base.proofs.Facts.Windings.Sums.{contour_winding_is}
use Rattle.segment_split.specs.LineLaws.{AllRectilinear}
use Rattle.segment_arrangement.proofs.Facts.ColumnPlaces.{same_tests, lt_holds, lt_tells, le_holds, le_tells}
use Rattle.contour_walk.specs.WalkLaws.{steps_to, contour_steps}
use Rattle.polygon_overlay.specs.Tiles.{AreRectilinear}
use Rattle.polygon_overlay.proofs.Checked.Places.{floor, floor_low, floor_at_least, row_of, row_low, row_at_least}
use Rattle.polygon_overlay.proofs.Tiles.Steps.{at_most, at_most_below, times_le, rectilinear, straight_back, passes_horizontal}
use Rattle.polygon_overlay.proofs.Tiles.Straight.{IsStraight}

abbrev pub column : RationalPoint → ℤ
column p = floor p.x p.q

abbrev pub row : RationalPoint → ℤ
row p = row_of p.y p.q

-- the least column and the highest row of a unit square
abbrev pub place_point : ℤ → ℤ → RationalPoint
place_point i j = record { x = i; y = j +ℤ pos 1; q = 1 }

-- how often contours wind round the unit square of a column and a row
abbrev pub place_winding : List (List Point) → ℤ → ℤ → ℤ
place_winding contours i j = contour_winding contours (place_point i j)

module _ (p : RationalPoint) (some : IsRational p) where
  abbrev place : RationalPoint
  place = place_point (column p) (row p)

  one : (x : ℤ) → pos 1 *ℤ x ≡ x
  one x = omega (arith, ints)

  begun : (x : ℤ) → int_le (pos p.q *ℤ x) p.x ≡ int_le x (column p)
  begun x =
      same_tests (int_le (pos p.q *ℤ x) p.x) (int_le x (column p))
      (λ e. le_holds x (column p) (floor_at_least p.x x p.q some (le_tells (pos p.q *ℤ x) p.x e)))
      (λ e. le_holds (pos p.q *ℤ x) p.x (at_most _ _ _ (times_le p.q x (column p) (le_tells x (column p) e)) (floor_low p.x p.q some)))

  begun_alike : (u : Point) → at_or_before u p ≡ at_or_before u place
  begun_alike u = begun u.x ∙ ap (λ x. int_le x (column p)) (sym (one u.x))

  under : (y : ℤ) → int_lt (pos p.q *ℤ y) p.y ≡ int_le y (row p)
  under y =
      same_tests (int_lt (pos p.q *ℤ y) p.y) (int_le y (row p))
      (λ e. le_holds y (row p) (row_at_least p.y y p.q some (lt_tells (pos p.q *ℤ y) p.y e)))
      (λ e. lt_holds (pos p.q *ℤ y) p.y (at_most_below _ _ _ (times_le p.q y (row p) (le_tells y (row p) e)) (row_low p.y p.q some)))

  next_above : (y j : ℤ) → int_le y j ≡ int_lt y (j +ℤ pos 1)
  next_above y j =
      same_tests (int_le y j) (int_lt y (j +ℤ pos 1)) (λ e. lt_holds y (j +ℤ pos 1) (less y j (le_tells y j e))) (λ e. le_holds y j (more y j (lt_tells y (j +ℤ pos 1) e)))
    where
      less : (y j : ℤ) → y ≤ℤ j → y <ℤ (j +ℤ pos 1)
      less y j l = omega (arith, ints)

      more : (y j : ℤ) → y <ℤ (j +ℤ pos 1) → y ≤ℤ j
      more y j l = omega (arith, ints)

  under_alike : (u : Point) → int_lt (pos p.q *ℤ u.y) p.y ≡ int_lt (pos 1 *ℤ u.y) place.y
  under_alike u = under u.y ∙ (next_above u.y (row p) ∙ ap (λ y. int_lt y place.y) (sym (one u.y)))

  -- over its column each of the two is above the step just where the other is
  above_alike : (u v : Point) → IsStraight (record { a = u; b = v }) → at_or_before u p ≡ true → at_or_before v p ≡ false → is_above u v p ≡ is_above u v place
  above_alike u v h begun unended = by (rectilinear u v h)
    where
      by : (u.y ≡ v.y) ⊎ (u.x ≡ v.x) → is_above u v p ≡ is_above u v place
      by (inl e) =
          passes_horizontal u v p begun unended e
          ∙ (under_alike u ∙ sym (passes_horizontal u v place (sym (begun_alike u) ∙ begun) (sym (begun_alike v) ∙ unended) e))
      by (inr e) = absurd (false≢true (sym unended ∙ (sym (ap (λ x. int_le (pos p.q *ℤ x) p.x) e) ∙ begun)))

  step_alike : (u v : Point) → IsStraight (record { a = u; b = v }) → step_winding u v p ≡ step_winding u v place
  step_alike u v h =
      step_winding_is u v p
      ∙ (by (at_or_before u p) (at_or_before v p) refl refl
      ∙ (ap₂ (λ a b. contribution a b (is_above u v place) (is_above v u place)) (begun_alike u) (begun_alike v) ∙ sym (step_winding_is u v place)))
    where
      by : (a b : Bool) → at_or_before u p ≡ a → at_or_before v p ≡ b
          → contribution a b (is_above u v p) (is_above v u p) ≡ contribution a b (is_above u v place) (is_above v u place)
      by true true e f = refl
      by false false e f = refl
      by true false e f = ap (λ s. cond s (pos 1) (pos 0)) (above_alike u v h e f)
      by false true e f = ap (λ s. cond s (negsuc 0) (pos 0)) (above_alike v u (straight_back u v h) f e)

  path_alike : (first u : Point) (rest : List Point) → AllRectilinear (steps_to first (u ∷ rest))
      → path_winding (u ∷ rest ++ first ∷ []) p ≡ path_winding (u ∷ rest ++ first ∷ []) place
  path_alike first u [] h = ap (λ n. n +ℤ pos 0) (step_alike u first (All-head IsStraight (record { a = u; b = first }) [] h))
  path_alike first u (r ∷ rest) h =
      ap₂ (λ m n. m +ℤ n) (step_alike u r (All-head IsStraight (record { a = u; b = r }) (steps_to first (r ∷ rest)) h))
      (path_alike first r rest (All-tail IsStraight (record { a = u; b = r }) (steps_to first (r ∷ rest)) h))

  cycle_alike : (c : List Point) → AllRectilinear (contour_steps c) → cycle_winding c p ≡ cycle_winding c place
  cycle_alike [] h = refl
  cycle_alike (u ∷ rest) h = path_alike u u rest h

  pub winding_by_places : (contours : List (List Point)) → AreRectilinear contours → contour_winding contours p ≡ place_winding contours (column p) (row p)
  winding_by_places contours straight =
      contour_winding_is contours p
      ∙ (total_pointwise_on (λ c. cycle_winding c p) (λ c. cycle_winding c place) contours
      (All-weaker (λ c. AllRectilinear (contour_steps c)) (λ c. cycle_winding c p ≡ cycle_winding c place) cycle_alike contours straight)
      ∙ sym (contour_winding_is contours place))
