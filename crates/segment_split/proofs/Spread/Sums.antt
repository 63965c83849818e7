-- The spread of a pass is at most the sum of the squares of the steps of all paths.
use Rattle.std.proofs.Common.{◌≡◌, ℕ, ◌+◌, ◌*◌, ◌≤◌, List, [], ◌∷◌, flat_map, sum_by, All, ℤ, pos, ◌+ℤ◌, ◌≤ℤ◌, Ordering, Less, Equal, Greater, refl, sym, ap, ap₂, ◌∙◌, arith}
use Rattle.std.proofs.lemmas.Int.{ints}
use Rattle.std.proofs.lemmas.List.Elements.{All-head, All-tail}
use Rattle.std.proofs.lemmas.List.Sums.{sum_by-cons, sum-map}
use Rattle.plane_base.specs.Plane.{Point, Edge, point_order}
use Rattle.plane_base.specs.Counts.{Counting, Entry, normal, lay}
use Rattle.plane_base.specs.Given.{laid_path}
use Rattle.plane_base.specs.Crossing.{Marks}
use Rattle.plane_base.specs.Totals.{total}
use Rattle.plane_base.proofs.Facts.Maps.Laying.{lay_by}
use Rattle.plane_base.proofs.Facts.Maps.LinearSums.{weight_sum_normal}
use Rattle.plane_base.proofs.Facts.Points.Orders.{point_equal}
use Rattle.plane_base.proofs.Facts.Lists.Totals.{total_append, total_pointwise, total_flat_map}
use Rattle.segment_split.specs.Paths.{path}
use Rattle.segment_split.specs.Passes.{edges_of, marks_on, cut, pass_by}
use Rattle.segment_split.specs.Redrawing.{taxicab, spread}
use Rattle.segment_split.proofs.Spread.Staircases.{step, squares, taxicab_back, taxicab_nowhere}

abbrev pub square : Edge → ℕ
square s = taxicab s * taxicab s

-- ---- sums over entries of numbers of their edges

module _ {C : Type 0} where
  pub edge_sum : (f : Edge → ℕ) (es : List (Entry C)) → total (λ e. pos (f e.edge)) es ≡ pos (sum_by f (edges_of es))
  edge_sum f [] = refl
  edge_sum f (e ∷ es) =
      ap (λ t. pos (f e.edge) +ℤ t) (edge_sum f es)
      ∙ next (f e.edge) (sum_by f (edges_of es)) (sum_by f (edges_of (e ∷ es))) (sum_by-cons f e.edge (edges_of es))
    where
      next : (x t u : ℕ) → u ≡ x + t → pos x +ℤ pos t ≡ pos u
      next x t u h = omega (arith, ints)

pub spread_is : (es : List Edge) → spread es ≡ sum_by square es
spread_is es = sum-map square es

-- joining only loses
pub edge_sum_normal : {C : Type 0} (kind : Counting C) (f : Edge → ℕ) (es : List (Entry C)) → pos (sum_by f (edges_of (normal kind es))) ≤ℤ total (λ e. pos (f e.edge)) es
edge_sum_normal kind f es = at_most _ _ _ (edge_sum f (normal kind es)) (weight_sum_normal kind (λ s. pos (f s)) (λ s. omega (arith, ints)) es)
  where
    at_most : (x y z : ℤ) → x ≡ y → x ≤ℤ z → y ≤ℤ z
    at_most x y z e h = omega (arith, ints)

-- where one side is the less for each element, by twice a number
pub sums_fall : {X : Type 0} (f m g : X → ℕ) (xs : List X) → All (λ x. f x + 2 * m x ≤ g x) xs → sum_by f xs + 2 * sum_by m xs ≤ sum_by g xs
sums_fall f m g [] h = omega arith
sums_fall f m g (x ∷ xs) h =
    next _ _ _ _ _ _ _ _ _ (sum_by-cons f x xs) (sum_by-cons m x xs) (sum_by-cons g x xs) (All-head (λ x. f x + 2 * m x ≤ g x) x xs h) (sums_fall f m g xs (All-tail (λ x. f x + 2 * m x ≤ g x) x xs h))
  where
    next : (a b c s t u p q r : ℕ) → p ≡ a + s → q ≡ b + t → r ≡ c + u → a + 2 * b ≤ c → s + 2 * t ≤ u → p + 2 * q ≤ r
    next a b c s t u p q r e f g h k = omega arith

-- ---- what steps and paths lay

module _ {C : Type 0} (kind : Counting C) where
  squares_of_lay : (u v : Point) (c : C) → total (λ e. pos (square e.edge)) (lay kind u v c) ≡ pos (square (step u v))
  squares_of_lay u v c = by (point_order u v) refl
    where
      alone : (n m : ℕ) → n ≡ m → pos n +ℤ pos 0 ≡ pos m
      alone n m e = omega (arith, ints)

      none : (n : ℕ) → n ≡ 0 → pos 0 ≡ pos (n * n)
      none n e = rw e refl

      by : (o : Ordering) → point_order u v ≡ o → total (λ e. pos (square e.edge)) (lay_by kind o u v c) ≡ pos (square (step u v))
      by Less h = alone _ _ refl
      by Equal h = none (taxicab (step u v)) (ap (λ w. taxicab (step u w)) (sym (point_equal u v h)) ∙ taxicab_nowhere u)
      by Greater h = alone _ _ (ap (λ n. n * n) (taxicab_back u v))

  squares_of_path : (c : C) (ps : List Point) → total (λ e. pos (square e.edge)) (laid_path kind c ps) ≡ pos (squares ps)
  squares_of_path c [] = refl
  squares_of_path c (u ∷ []) = refl
  squares_of_path c (u ∷ v ∷ rest) =
      total_append (λ e. pos (square e.edge)) (lay kind u v c) (laid_path kind c (v ∷ rest))
      ∙ ap₂ (λ x y. x +ℤ y) (squares_of_lay u v c) (squares_of_path c (v ∷ rest))
      ∙ sum (square (step u v)) (squares (v ∷ rest))
    where
      sum : (x y : ℕ) → pos x +ℤ pos y ≡ pos (x + y)
      sum x y = omega (arith, ints)

  -- the squares of the steps that an edge is cut into
  abbrev pub cut_squares : (Edge → Edge → Marks) → List Edge → Edge → ℕ
  cut_squares marks es s = squares (path s (marks_on marks es s))

  pub spread_of_pass : (marks : Edge → Edge → Marks) (es : List (Entry C)) → spread (edges_of (pass_by kind marks es)) ≤ sum_by (cut_squares marks (edges_of es)) (edges_of es)
  spread_of_pass marks es =
      at_most _ _ _ _ (spread_is (edges_of (pass_by kind marks es))) (edge_sum_normal kind square (flat_map (cut kind marks (edges_of es)) es))
      (total_flat_map (λ e. pos (square e.edge)) (cut kind marks (edges_of es)) es
      ∙ total_pointwise (λ e. total (λ f. pos (square f.edge)) (cut kind marks (edges_of es) e)) (λ e. pos (cut_squares marks (edges_of es) e.edge)) es (λ e. squares_of_path e.count (path e.edge (marks_on marks (edges_of es) e.edge)))
      ∙ edge_sum (cut_squares marks (edges_of es)) es)
    where
      at_most : (a b c : ℕ) (t : ℤ) → a ≡ b → pos b ≤ℤ t → t ≡ pos c → a ≤ c
      at_most a b c t e h f = omega (arith, ints)
