-- The edges of a contour: how many of them meet at its points, and which is its anchor.
use Rattle.std.proofs.Common.{◌≡◌, ◌≢◌, Bool, true, false, cond, List, [], ◌∷◌, All, Contains, ℤ, pos, ◌+ℤ◌, ◌≤ℤ◌, ◌<ℤ◌, refl, sym, ap, ◌∙◌, subst, arith}
use Rattle.std.specs.Ordering.{is_eq}
use Rattle.std.proofs.lemmas.Int.{ints}
use Rattle.std.proofs.lemmas.Bool.{false≢true}
use Rattle.std.proofs.lemmas.List.Elements.{All-nil, All-cons, All-head, All-tail, All-contains, All-contains_itself}
use Rattle.plane_base.specs.Plane.{Point, Edge, is_before, point_order}
use Rattle.plane_base.specs.Balance.{mark}
use Rattle.plane_base.specs.Totals.{total}
use Rattle.plane_base.proofs.Facts.Lists.Totals.{total_sum, total_zero_on}
use Rattle.plane_base.proofs.Facts.Points.Orders.{point_itself, point_equal, is_equal}
use Rattle.contour_walk.specs.Walks.{between, path_edges, contour_edges}
use Rattle.contour_walk.proofs.Facts.Binding.Lists.{term_of_total}
use Rattle.contour_walk.proofs.Facts.Binding.Orders.{IsLeastPoint}

-- ---- ends

-- what holds of the points of a path holds of the ends of its edges
module _ (P : Point → Type 0) where
  ends_between : (u v : Point) → P u → P v → P (between u v).a × P (between u v).b
  ends_between u v h k = by (is_before v u)
    where
      by : (b : Bool) → let s : Edge = cond b (record { a = v; b = u }) (record { a = u; b = v }) in P s.a × P s.b
      by true = (k, h)
      by false = (h, k)

  ends_of_path : (first p : Point) (rest : List Point) → P first → All P (p ∷ rest) → All (λ s. P s.a × P s.b) (path_edges first (p ∷ rest))
  ends_of_path first p [] h all = All-cons (λ s. P s.a × P s.b) (between p first) [] (ends_between p first (All-head P p [] all) h) (All-nil (λ s. P s.a × P s.b))
  ends_of_path first p (r ∷ rest) h all =
      let others : All P (r ∷ rest) = All-tail P p (r ∷ rest) all in
      All-cons (λ s. P s.a × P s.b) (between p r) (path_edges first (r ∷ rest)) (ends_between p r (All-head P p (r ∷ rest) all) (All-head P r rest others)) (ends_of_path first r rest h others)

  pub ends_of_contour : (points : List Point) → All P points → All (λ s. P s.a × P s.b) (contour_edges points)
  ends_of_contour [] all = All-nil (λ s. P s.a × P s.b)
  ends_of_contour (p ∷ rest) all = ends_of_path p p rest (All-head P p rest all) all

-- ---- how many edges meet at a point

module _ (v : Point) where
  abbrev meets : Edge → ℤ
  meets s = mark v s.a +ℤ mark v s.b

  meets_between : (u w : Point) → meets (between u w) ≡ mark v u +ℤ mark v w
  meets_between u w = by (is_before w u)
    where
      turned : (x y : ℤ) → x +ℤ y ≡ y +ℤ x
      turned x y = omega (arith, ints)

      by : (b : Bool) → meets (cond b (record { a = w; b = u }) (record { a = u; b = w })) ≡ mark v u +ℤ mark v w
      by true = turned (mark v w) (mark v u)
      by false = refl

  meets_path : (first p : Point) (rest : List Point) → total meets (path_edges first (p ∷ rest)) +ℤ mark v p ≡ (total (mark v) (p ∷ rest) +ℤ total (mark v) (p ∷ rest)) +ℤ mark v first
  meets_path first p [] = one (meets (between p first)) (mark v p) (mark v first) (meets_between p first)
    where
      one : (m p f : ℤ) → m ≡ p +ℤ f → (m +ℤ pos 0) +ℤ p ≡ ((p +ℤ pos 0) +ℤ (p +ℤ pos 0)) +ℤ f
      one m p f e = omega (arith, ints)
  meets_path first p (r ∷ rest) =
      more (meets (between p r)) (total meets (path_edges first (r ∷ rest))) (mark v p) (mark v r) (total (mark v) (r ∷ rest)) (mark v first) (meets_between p r) (meets_path first r rest)
    where
      more : (m t p r s f : ℤ) → m ≡ p +ℤ r → t +ℤ r ≡ (s +ℤ s) +ℤ f → (m +ℤ t) +ℤ p ≡ ((p +ℤ s) +ℤ (p +ℤ s)) +ℤ f
      more m t p r s f e h = omega (arith, ints)

  -- each pass has two
  pub meets_contour : (points : List Point) → total meets (contour_edges points) ≡ total (mark v) points +ℤ total (mark v) points
  meets_contour [] = refl
  meets_contour (p ∷ rest) = same (total meets (contour_edges (p ∷ rest))) (mark v p) (total (mark v) (p ∷ rest)) (meets_path p p rest)
    where
      same : (t p s : ℤ) → t +ℤ p ≡ (s +ℤ s) +ℤ p → t ≡ s +ℤ s
      same t p s e = omega (arith, ints)

  mark_not_negative : (p : Point) → pos 0 ≤ℤ mark v p
  mark_not_negative p = by (is_eq (point_order p v))
    where
      by : (b : Bool) → pos 0 ≤ℤ cond b (pos 1) (pos 0)
      by true = omega (arith, ints)
      by false = omega (arith, ints)

  mark_itself : mark v v ≡ pos 1
  mark_itself = ap (λ o. cond (is_eq o) (pos 1) (pos 0)) (point_itself v)

  pub mark_other : (p : Point) → p ≢ v → mark v p ≡ pos 0
  mark_other p differ = by (is_eq (point_order p v)) refl
    where
      by : (b : Bool) → is_eq (point_order p v) ≡ b → cond b (pos 1) (pos 0) ≡ pos 0
      by true e = absurd (differ (point_equal p v (is_equal (point_order p v) e)))
      by false e = refl

  pub marked : (p : Point) → pos 0 <ℤ mark v p → p ≡ v
  marked p l = by (is_eq (point_order p v)) refl l
    where
      by : (b : Bool) → is_eq (point_order p v) ≡ b → pos 0 <ℤ cond b (pos 1) (pos 0) → p ≡ v
      by true e l = point_equal p v (is_equal (point_order p v) e)
      by false e l = absurd (omega (arith, ints, l))

  -- at the least point of a contour two edges or more start, each as often as it is there
  module _ (points : List Point) (least : IsLeastPoint points v) (directed : All (λ s. is_before s.a s.b ≡ true) (contour_edges points)) where
    none_ends : All (λ s. mark v s.b ≡ pos 0) (contour_edges points)
    none_ends i d l = mark_other _ (apart _ _ (ends_of_contour (Contains points) points (All-contains_itself points) i d l).0 (directed i d l))
      where
        apart : (a b : Point) → Contains points a → is_before a b ≡ true → b ≢ v
        apart a b here before same = false≢true (sym (All-contains (λ r. is_before r v ≡ false) points a least.least here) ∙ (ap (λ z. is_before a z) (sym same) ∙ before))

    pub two_start : pos 2 ≤ℤ total (λ s. mark v s.a) (contour_edges points)
    two_start =
        enough (total (λ s. mark v s.a) (contour_edges points)) (total (λ s. mark v s.b) (contour_edges points)) (total meets (contour_edges points)) (total (mark v) points)
        (total_sum (λ s. mark v s.a) (λ s. mark v s.b) (contour_edges points)) (total_zero_on (λ s. mark v s.b) (contour_edges points) none_ends) (meets_contour points)
        (subst (λ z. z ≤ℤ total (mark v) points) mark_itself (term_of_total (mark v) points v mark_not_negative least.here))
      where
        enough : (a b t s : ℤ) → t ≡ a +ℤ b → b ≡ pos 0 → t ≡ s +ℤ s → pos 1 ≤ℤ s → pos 2 ≤ℤ a
        enough a b t s e f g l = omega (arith, ints)
