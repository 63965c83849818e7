-- Contours of horizontal and vertical steps wind by what their steps add to a fall of places, and so do moved ones.
use Rattle.std.proofs.Common.{◌≡◌, true, List, [], ◌∷◌, ◌++◌, map, flat_map, get_or, length, All, ℤ, pos, ◌+ℤ◌, ◌-ℤ◌, refl, sym, ap, ◌∙◌, subst, append_assoc, arith}
use Rattle.std.proofs.lemmas.Int.{ints}
use Rattle.std.proofs.lemmas.List.Elements.{All-nil, All-cons, All-head, All-tail, All-map, All-weaker}
use Rattle.plane_base.specs.Plane.{Point, Edge, RationalPoint, step_winding}
use Rattle.plane_base.specs.Totals.{total}
use Rattle.plane_base.specs.Windings.{path_winding, cycle_winding}
use Rattle.plane_base.proofs.Facts.Lists.Totals.{total_map, total_flat_map, total_pointwise_on}
use Rattle.plane_base.proofs.Facts.Windings.Sums.{contour_winding_is}
use Rattle.segment_split.specs.LineLaws.{is_rectilinear, AllRectilinear}
use Rattle.contour_walk.specs.WalkLaws.{steps_to, contour_steps}
use Rattle.polygon_overlay.specs.Sizing.{moved}
use Rattle.polygon_overlay.proofs.Sized.Terms.{IsMoved, still, moves, IsFlat, ContoursSum, MovedContoursSum}

abbrev IsStraight : Edge → Type 0
IsStraight s = is_rectilinear s ≡ true

-- ---- steps that add to a fall

module _ (p : RationalPoint) (f : Point → ℤ) (adds : Edge → ℤ) where
  abbrev Adds : Edge → Type 0
  Adds s = step_winding s.a s.b p ≡ (f s.a -ℤ f s.b) +ℤ adds s

  path_sums : (v u : Point) (rest : List Point) → All Adds (steps_to v (u ∷ rest))
      → path_winding (u ∷ rest ++ v ∷ []) p ≡ (f u -ℤ f v) +ℤ total adds (steps_to v (u ∷ rest))
  path_sums v u [] all = alone (step_winding u v p) (f u -ℤ f v) (adds (record { a = u; b = v })) (All-head Adds (record { a = u; b = v }) [] all)
    where
      alone : (s d g : ℤ) → s ≡ d +ℤ g → s +ℤ pos 0 ≡ d +ℤ (g +ℤ pos 0)
      alone s d g e = omega (arith, ints)
  path_sums v u (r ∷ rest) all =
      through (step_winding u r p) (path_winding (r ∷ rest ++ v ∷ []) p) (f u) (f r) (f v) (adds (record { a = u; b = r })) (total adds (steps_to v (r ∷ rest)))
      (All-head Adds (record { a = u; b = r }) (steps_to v (r ∷ rest)) all)
      (path_sums v r rest (All-tail Adds (record { a = u; b = r }) (steps_to v (r ∷ rest)) all))
    where
      through : (s t x y z g h : ℤ) → s ≡ (x -ℤ y) +ℤ g → t ≡ (y -ℤ z) +ℤ h → s +ℤ t ≡ (x -ℤ z) +ℤ (g +ℤ h)
      through s t x y z g h d e = omega (arith, ints)

  cycle_sums : (c : List Point) → All Adds (contour_steps c) → cycle_winding c p ≡ total adds (contour_steps c)
  cycle_sums [] all = refl
  cycle_sums (u ∷ rest) all = path_sums u u rest all ∙ itself (f u) (total adds (contour_steps (u ∷ rest)))
    where
      itself : (x t : ℤ) → (x -ℤ x) +ℤ t ≡ t
      itself x t = omega (arith, ints)

pub contours_sum : ContoursSum
contours_sum p f adds cs all each =
    contour_winding_is cs p
    ∙ (total_pointwise_on (λ c. cycle_winding c p) (λ c. total adds (contour_steps c)) cs
    (All-weaker (λ c. AllRectilinear (contour_steps c)) (λ c. cycle_winding c p ≡ total adds (contour_steps c))
    (λ c h. cycle_sums p f adds c (All-weaker IsStraight (Adds p f adds) each (contour_steps c) h)) cs all)
    ∙ sym (total_flat_map adds contour_steps cs))

-- ---- moved steps

module _ (p : RationalPoint) (f height : Point → ℤ) (move : Edge → List Point) (adds : Edge → ℤ) (flat : IsFlat p f height) where
  abbrev Moves : Edge → Type 0
  Moves s = IsMoved p f height move adds s

  -- a step, and then more
  step_moves : (s : Edge) (w : Point) (more : List Point) (n : ℤ) → height w ≡ height s.a → Moves s →
      ((r : Point) → height r ≡ height s.b → path_winding (r ∷ more) p ≡ f r +ℤ n) → path_winding (w ∷ move s ++ more) p ≡ f w +ℤ (adds s +ℤ n)
  step_moves s w more n level (still none same nothing) rest =
      ap (λ ms. path_winding (w ∷ ms ++ more) p) none ∙ (rest w (level ∙ same) ∙ sum (f w) n (adds s) nothing)
    where
      sum : (x n g : ℤ) → g ≡ pos 0 → x +ℤ n ≡ x +ℤ (g +ℤ n)
      sum x n g e = omega (arith, ints)
  step_moves s w more n level (moves a b is from to winds straight) rest =
      ap (λ ms. path_winding (w ∷ ms ++ more) p) is
      ∙ sum (step_winding w a p) (step_winding a b p) (path_winding (b ∷ more) p) (f w) (f a) (f b) (adds s) n (flat w a (level ∙ sym from)).0 winds (rest b to)
    where
      sum : (k l m x y z g n : ℤ) → k ≡ x -ℤ y → l ≡ (y -ℤ z) +ℤ g → m ≡ z +ℤ n → k +ℤ (l +ℤ m) ≡ x +ℤ (g +ℤ n)
      sum k l m x y z g n d e h = omega (arith, ints)

  path_moves : (v u : Point) (rest : List Point) (w z : Point) → height w ≡ height u → height z ≡ height v → All Moves (steps_to v (u ∷ rest))
      → path_winding (w ∷ flat_map move (steps_to v (u ∷ rest)) ++ z ∷ []) p ≡ f w +ℤ (total adds (steps_to v (u ∷ rest)) -ℤ f z)
  path_moves v u [] w z from to all =
      ap (λ ms. path_winding (w ∷ ms) p) (append_assoc (move (record { a = u; b = v })) [] (z ∷ []))
      ∙ (step_moves (record { a = u; b = v }) w (z ∷ []) (pos 0 -ℤ f z) from (All-head Moves (record { a = u; b = v }) [] all)
      (λ r level. last (step_winding r z p) (f r) (f z) (flat r z (level ∙ sym to)).0)
      ∙ sum (f w) (adds (record { a = u; b = v })) (f z))
    where
      last : (s x y : ℤ) → s ≡ x -ℤ y → s +ℤ pos 0 ≡ x +ℤ (pos 0 -ℤ y)
      last s x y e = omega (arith, ints)

      sum : (x g y : ℤ) → x +ℤ (g +ℤ (pos 0 -ℤ y)) ≡ x +ℤ ((g +ℤ pos 0) -ℤ y)
      sum x g y = omega (arith, ints)
  path_moves v u (r ∷ rest) w z from to all =
      ap (λ ms. path_winding (w ∷ ms) p) (append_assoc (move (record { a = u; b = r })) (flat_map move (steps_to v (r ∷ rest))) (z ∷ []))
      ∙ (step_moves (record { a = u; b = r }) w (flat_map move (steps_to v (r ∷ rest)) ++ z ∷ []) (total adds (steps_to v (r ∷ rest)) -ℤ f z) from
      (All-head Moves (record { a = u; b = r }) (steps_to v (r ∷ rest)) all)
      (λ t level. path_moves v r rest t z level to (All-tail Moves (record { a = u; b = r }) (steps_to v (r ∷ rest)) all))
      ∙ sum (f w) (adds (record { a = u; b = r })) (total adds (steps_to v (r ∷ rest))) (f z))
    where
      sum : (x g t y : ℤ) → x +ℤ (g +ℤ (t -ℤ y)) ≡ x +ℤ ((g +ℤ t) -ℤ y)
      sum x g t y = omega (arith, ints)

  -- the first of the moved points is as high as the first point
  step_horizontal : (s : Edge) (more : List Point) (m : Point) (ms : List Point) → Moves s → (more ≡ m ∷ ms → height m ≡ height s.b) → move s ++ more ≡ m ∷ ms → height m ≡ height s.a
  step_horizontal s more m ms (still none same nothing) later is = later (sym (ap (λ xs. xs ++ more) none) ∙ is) ∙ sym same
  step_horizontal s more m ms (moves a b at from to winds straight) later is = ap height (sym (ap (λ xs. get_or xs 0 a) (sym (ap (λ xs. xs ++ more) at) ∙ is))) ∙ from

  first_horizontal : (v u : Point) (rest : List Point) (m : Point) (ms : List Point) → All Moves (steps_to v (u ∷ rest)) → flat_map move (steps_to v (u ∷ rest)) ≡ m ∷ ms → height m ≡ height u
  first_horizontal v u [] m ms all is =
      step_horizontal (record { a = u; b = v }) [] m ms (All-head Moves (record { a = u; b = v }) [] all) (λ e. absurd (omega (arith, ap length e))) is
  first_horizontal v u (r ∷ rest) m ms all is =
      step_horizontal (record { a = u; b = r }) (flat_map move (steps_to v (r ∷ rest))) m ms (All-head Moves (record { a = u; b = r }) (steps_to v (r ∷ rest)) all)
      (λ e. first_horizontal v r rest m ms (All-tail Moves (record { a = u; b = r }) (steps_to v (r ∷ rest)) all) e) is

  -- ---- they are horizontal or vertical

  step_straight : (z : Point) (s : Edge) (w : Point) (more : List Point) → height w ≡ height s.a → Moves s
      → ((r : Point) → height r ≡ height s.b → AllRectilinear (steps_to z (r ∷ more))) → AllRectilinear (steps_to z (w ∷ move s ++ more))
  step_straight z s w more level (still none same nothing) rest = subst (λ ms. AllRectilinear (steps_to z (w ∷ ms ++ more))) (sym none) (rest w (level ∙ same))
  step_straight z s w more level (moves a b at from to winds straight) rest =
      subst (λ ms. AllRectilinear (steps_to z (w ∷ ms ++ more))) (sym at)
      (All-cons IsStraight (record { a = w; b = a }) (record { a = a; b = b } ∷ steps_to z (b ∷ more)) (flat w a (level ∙ sym from)).1
      (All-cons IsStraight (record { a = a; b = b }) (steps_to z (b ∷ more)) straight (rest b to)))

  path_straight : (v u : Point) (rest : List Point) (w z : Point) → height w ≡ height u → height z ≡ height v → All Moves (steps_to v (u ∷ rest))
      → AllRectilinear (steps_to z (w ∷ flat_map move (steps_to v (u ∷ rest))))
  path_straight v u [] w z from to all =
      step_straight z (record { a = u; b = v }) w [] from (All-head Moves (record { a = u; b = v }) [] all)
      (λ r level. All-cons IsStraight (record { a = r; b = z }) [] (flat r z (level ∙ sym to)).1 (All-nil IsStraight))
  path_straight v u (r ∷ rest) w z from to all =
      step_straight z (record { a = u; b = r }) w (flat_map move (steps_to v (r ∷ rest))) from (All-head Moves (record { a = u; b = r }) (steps_to v (r ∷ rest)) all)
      (λ t level. path_straight v r rest t z level to (All-tail Moves (record { a = u; b = r }) (steps_to v (r ∷ rest)) all))

  -- ---- closed

  cycle_moves : (c : List Point) → All Moves (contour_steps c) → cycle_winding (moved move c) p ≡ total adds (contour_steps c)
  cycle_moves [] all = refl
  cycle_moves (u ∷ rest) all = by (flat_map move (steps_to u (u ∷ rest))) refl
    where
      sum : ℤ
      sum = total adds (steps_to u (u ∷ rest))

      round : (w z x t n : ℤ) → w ≡ x -ℤ x → w +ℤ z ≡ x +ℤ (t -ℤ x) → z ≡ t
      round w z x t n e h = omega (arith, ints)

      by : (ms : List Point) → flat_map move (steps_to u (u ∷ rest)) ≡ ms → cycle_winding ms p ≡ sum
      by [] is =
          round (step_winding u u p) (pos 0) (f u) sum (pos 0) (flat u u refl).0
          (sym (ap (λ xs. path_winding (u ∷ xs ++ u ∷ []) p) is) ∙ path_moves u u rest u u refl refl all)
      by (m ∷ ms) is =
          let level = first_horizontal u u rest m ms all is in
          round (step_winding m m p) (cycle_winding (m ∷ ms) p) (f m) sum (pos 0) (flat m m refl).0
          (sym (ap (λ xs. path_winding (m ∷ xs ++ m ∷ []) p) is) ∙ path_moves u u rest m m level level all)

  cycle_straight : (c : List Point) → All Moves (contour_steps c) → AllRectilinear (contour_steps (moved move c))
  cycle_straight [] all = All-nil IsStraight
  cycle_straight (u ∷ rest) all = by (flat_map move (steps_to u (u ∷ rest))) refl
    where
      by : (ms : List Point) → flat_map move (steps_to u (u ∷ rest)) ≡ ms → AllRectilinear (contour_steps ms)
      by [] is = All-nil IsStraight
      by (m ∷ ms) is =
          let level = first_horizontal u u rest m ms all is in
          All-tail IsStraight (record { a = m; b = m }) (steps_to m (m ∷ ms))
          (subst (λ xs. AllRectilinear (steps_to m (m ∷ xs))) is (path_straight u u rest m m level level all))

pub moved_contours_sum : MovedContoursSum
moved_contours_sum p f height move adds cs all flat each = (
  contour_winding_is (map (moved move) cs) p
      ∙ (total_map (λ c. cycle_winding c p) (moved move) cs
      ∙ (total_pointwise_on (λ c. cycle_winding (moved move c) p) (λ c. total adds (contour_steps c)) cs
      (All-weaker (λ c. AllRectilinear (contour_steps c)) (λ c. cycle_winding (moved move c) p ≡ total adds (contour_steps c)) winds cs all)
      ∙ sym (total_flat_map adds contour_steps cs))),
  All-map (λ c. AllRectilinear (contour_steps c)) (moved move) cs (λ i d l. cycle_straight p f height move adds flat (get_or cs i d) (each_moves (get_or cs i d) (all i d l))),
)
  where
    each_moves : (c : List Point) → AllRectilinear (contour_steps c) → All (IsMoved p f height move adds) (contour_steps c)
    each_moves c h = All-weaker IsStraight (IsMoved p f height move adds) each (contour_steps c) h

    winds : (c : List Point) → AllRectilinear (contour_steps c) → cycle_winding (moved move c) p ≡ total adds (contour_steps c)
    winds c h = cycle_moves p f height move adds flat c (each_moves c h)
