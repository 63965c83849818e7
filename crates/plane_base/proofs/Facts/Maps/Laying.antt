-- What steps, paths and contours lay: directed entries, turned where the step is.
use Rattle.std.proofs.Common.{◌≡◌, true, List, [], ◌∷◌, ◌++◌, flat_map, All, Ordering, Less, Equal, Greater, is_lt, ℤ, neg_ℤ, int_eq, ◌&&◌, ◌+ℤ◌, ◌*ℤ◌, pos, refl, sym, ap, ap₂, ◌∙◌, arith}
use Rattle.std.proofs.lemmas.Bool.Decides.{same_from_decides, Decides-like, Decides-int_eq}
use Rattle.std.proofs.lemmas.Int.{ints}
use Rattle.std.proofs.lemmas.List.Elements.{All-nil, All-cons, All-append}
use Rattle.std.proofs.lemmas.Cmp.{tied_back}
use Rattle.std.proofs.Math.IntN.{*ℤ-zero}
use Rattle.plane_base.specs.Plane.{Point, point_order, is_before}
use Rattle.plane_base.specs.Counts.{Counting, Entry, boolean, one_subject, one_clip, lay, IsNormal}
use Rattle.plane_base.specs.Given.{laid_path, closed, laid, given}
use Rattle.plane_base.specs.Totals.{total}
use Rattle.plane_base.specs.Balance.{IsAdditive}
use Rattle.plane_base.proofs.Facts.Numbers.Products.{product_of_negation, negation_product}
use Rattle.plane_base.proofs.Facts.Points.Orders.{point_total, point_equal, point_itself, less_from_greater, greater_from_less}
use Rattle.plane_base.proofs.Facts.Maps.Normal.{normal_is_normal, IsCounting}
use Rattle.plane_base.proofs.Facts.Maps.LinearSums.{boolean_empty}

-- the entry's edge runs from its lesser point
abbrev pub IsDirectedEntry : {C : Type 0} → Entry C → Type 0
IsDirectedEntry e = is_before e.edge.a e.edge.b ≡ true

abbrev pub IsDirected : {C : Type 0} → List (Entry C) → Type 0
IsDirected es = All IsDirectedEntry es

module _ {C : Type 0} (kind : Counting C) where
  -- `lay`, by how the points stand
  abbrev pub lay_by : Ordering → Point → Point → C → List (Entry C)
  lay_by o u v c =
      elim o [
        | Less ↦ record { edge = record { a = u; b = v }; count = c } ∷ []
        | Equal ↦ []
        | Greater ↦ record { edge = record { a = v; b = u }; count = kind.turned c } ∷ []
      ]

  pub lay_directed : (u v : Point) (c : C) → IsDirected (lay kind u v c)
  lay_directed u v c = by (point_order u v) refl
    where
      by : (o : Ordering) → point_order u v ≡ o → IsDirected (lay_by o u v c)
      by Less h = All-cons IsDirectedEntry (record { edge = record { a = u; b = v }; count = c }) [] (ap is_lt h) (All-nil IsDirectedEntry)
      by Equal h = All-nil IsDirectedEntry
      by Greater h =
          All-cons IsDirectedEntry (record { edge = record { a = v; b = u }; count = kind.turned c }) []
          (ap is_lt (less_from_greater point_total u v h)) (All-nil IsDirectedEntry)

  pub laid_path_directed : (c : C) (path : List Point) → IsDirected (laid_path kind c path)
  laid_path_directed c [] = All-nil IsDirectedEntry
  laid_path_directed c (p ∷ []) = All-nil IsDirectedEntry
  laid_path_directed c (p ∷ q ∷ rest) =
      All-append IsDirectedEntry (lay kind p q c) (laid_path kind c (q ∷ rest)) (lay_directed p q c) (laid_path_directed c (q ∷ rest))

  pub laid_directed : (c : C) (contour : List Point) → IsDirected (laid kind c contour)
  laid_directed c contour = laid_path_directed c (closed contour)

  pub all_laid_directed : (c : C) (contours : List (List Point)) → IsDirected (flat_map (laid kind c) contours)
  all_laid_directed c [] = All-nil IsDirectedEntry
  all_laid_directed c (contour ∷ contours) =
      All-append IsDirectedEntry (laid kind c contour) (flat_map (laid kind c) contours) (laid_directed c contour) (all_laid_directed c contours)

  -- a step of no length lays nothing
  pub lay_nowhere : (u : Point) (c : C) → lay kind u u c ≡ []
  lay_nowhere u c = ap (λ o. lay_by o u u c) (point_itself u)

  -- a step back lays the turned count
  pub lay_back : IsCounting kind → (u v : Point) (c : C) → lay kind v u c ≡ lay kind u v (kind.turned c)
  lay_back laws u v c = by (point_order u v) refl
    where
      by : (o : Ordering) → point_order u v ≡ o → lay kind v u c ≡ lay_by o u v (kind.turned c)
      by Less h = ap (λ o. lay_by o v u c) (greater_from_less point_total u v h)
      by Equal h = ap (λ o. lay_by o v u c) (tied_back point_total u v h)
      by Greater h =
          ap (λ o. lay_by o v u c) (less_from_greater point_total u v h)
          ∙ ap (λ d. record { edge = record { a = v; b = u }; count = d } ∷ []) (sym (laws.turned_twice c))

pub given_is_normal : (subjects clips : List (List Point)) → IsNormal boolean (given subjects clips)
given_is_normal subjects clips =
    normal_is_normal boolean (flat_map (laid boolean one_subject) subjects ++ flat_map (laid boolean one_clip) clips)
    (All-append IsDirectedEntry (flat_map (laid boolean one_subject) subjects) (flat_map (laid boolean one_clip) clips) (all_laid_directed boolean one_subject subjects) (all_laid_directed boolean one_clip clips))

-- ---- Boolean counts obey the laws

pub boolean_counting : IsCounting boolean
boolean_counting = record {
  join_comm = λ c d i. record { subject = commuted c.subject d.subject i; clip = commuted c.clip d.clip i };
  join_assoc = λ c d e i. record { subject = grouped c.subject d.subject e.subject i; clip = grouped c.clip d.clip e.clip i };
  join_empty = λ c d h. let z = boolean_empty c h in λ i. record { subject = none c.subject d.subject z.0 i; clip = none c.clip d.clip z.1 i };
  turned_join = λ c d i. record { subject = spread c.subject d.subject i; clip = spread c.clip d.clip i };
  turned_twice = λ c i. record { subject = twice c.subject i; clip = twice c.clip i };
  turned_empty = λ c. ap₂ (λ a b. a && b) (level c.subject) (level c.clip);
}
  where
    commuted : (x y : ℤ) → x +ℤ y ≡ y +ℤ x
    commuted x y = omega (arith, ints)

    grouped : (x y z : ℤ) → (x +ℤ y) +ℤ z ≡ x +ℤ (y +ℤ z)
    grouped x y z = omega (arith, ints)

    none : (x y : ℤ) → x ≡ pos 0 → x +ℤ y ≡ y
    none x y h = omega (arith, ints)

    spread : (x y : ℤ) → neg_ℤ (x +ℤ y) ≡ neg_ℤ x +ℤ neg_ℤ y
    spread x y = omega (arith, ints)

    twice : (x : ℤ) → neg_ℤ (neg_ℤ x) ≡ x
    twice x = omega (arith, ints)

    level : (x : ℤ) → int_eq (neg_ℤ x) (pos 0) ≡ int_eq x (pos 0)
    level x =
        same_from_decides (int_eq (neg_ℤ x) (pos 0)) (int_eq x (pos 0))
        (Decides-like (int_eq (neg_ℤ x) (pos 0)) (λ e. sym (twice x) ∙ ap neg_ℤ e) (λ e. ap neg_ℤ e) (Decides-int_eq (neg_ℤ x) (pos 0)))
        (Decides-int_eq x (pos 0))

-- ---- sums along steps

-- the sum of g over the steps of a path
abbrev pub path_sum : (Point → Point → ℤ) → List Point → ℤ
path_sum g [] = pos 0
path_sum g (u ∷ []) = pos 0
path_sum g (u ∷ v ∷ rest) = g u v +ℤ path_sum g (v ∷ rest)

-- g is negated where the step is turned
module _ {C : Type 0} {kind : Counting C} {n : C → ℤ} (additive : IsAdditive kind n) (g : Point → Point → ℤ) (back : (u v : Point) → g v u ≡ neg_ℤ (g u v)) where
  pub sum_of_lay : (u v : Point) (c : C) → total (λ e. n e.count *ℤ g e.edge.a e.edge.b) (lay kind u v c) ≡ n c *ℤ g u v
  sum_of_lay u v c = by (point_order u v) refl
    where
      alone : (x : ℤ) → x +ℤ pos 0 ≡ x
      alone x = omega (arith, ints)

      none : (x : ℤ) → x ≡ neg_ℤ x → x ≡ pos 0
      none x h = omega (arith, ints)

      twice : (k m x : ℤ) → k ≡ neg_ℤ m → (k *ℤ neg_ℤ x) +ℤ pos 0 ≡ m *ℤ x
      twice k m x e =
          ap (λ k. (k *ℤ neg_ℤ x) +ℤ pos 0) e ∙ over (neg_ℤ m *ℤ neg_ℤ x) (m *ℤ neg_ℤ x) (m *ℤ x) (negation_product m (neg_ℤ x)) (product_of_negation m x)
        where
          over : (s t u : ℤ) → s ≡ neg_ℤ t → t ≡ neg_ℤ u → s +ℤ pos 0 ≡ u
          over s t u h k = omega (arith, ints)

      by : (o : Ordering) → point_order u v ≡ o → total (λ e. n e.count *ℤ g e.edge.a e.edge.b) (lay_by kind o u v c) ≡ n c *ℤ g u v
      by Less h = alone (n c *ℤ g u v)
      by Equal h =
          let same = point_equal u v h in
          sym (*ℤ-zero (n c)) ∙ ap (λ x. n c *ℤ x) (sym (ap (λ w. g u w) (sym same) ∙ none (g u u) (back u u)))
      by Greater h = ap (λ x. (n (kind.turned c) *ℤ x) +ℤ pos 0) (back u v) ∙ twice (n (kind.turned c)) (n c) (g u v) (additive.of_turned c)
