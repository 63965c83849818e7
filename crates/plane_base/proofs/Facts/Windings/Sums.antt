-- The winding of the map that contours give is the sum of what their steps add.
use Rattle.std.proofs.Common.{◌≡◌, Bool, true, false, cond, ◌&&◌, List, [], ◌∷◌, ◌++◌, flat_map, IsPermutation, ℤ, pos, negsuc, ◌+ℤ◌, ◌*ℤ◌, neg_ℤ, ◌≤ℤ◌, int_lt, int_le, Ordering, Less, Equal, Greater, refl, sym, ap, ◌∙◌, arith}
use Rattle.std.proofs.lemmas.Int.{ints}
use Rattle.std.proofs.lemmas.Bool.{and_left}
use Rattle.std.proofs.lemmas.List.Elements.{All-weaker}
use Rattle.std.proofs.Math.IntN.{*ℤ-zero}
use Rattle.plane_base.specs.Plane.{Point, RationalPoint, point_order, spans, is_below, side, step_winding}
use Rattle.plane_base.specs.Totals.{total}
use Rattle.plane_base.specs.Counts.{Count, Counting, Entry, boolean, one_subject, one_clip, lay, normal}
use Rattle.plane_base.specs.Given.{laid_path, closed, laid, given}
use Rattle.plane_base.specs.Windings.{winding, contour_winding, path_winding, cycle_winding}
use Rattle.plane_base.specs.Regions.{FillRule, EvenOdd, NonZero, Positive, Negative, AtLeast, OverlayRule, Subject, Clip, Intersect, Union, Difference, InverseDifference, Xor, is_filled, holds, region}
use Rattle.plane_base.specs.Balance.{IsAdditive}
use Rattle.plane_base.proofs.Facts.Numbers.Products.{product_monotone, product_of_sum}
use Rattle.plane_base.proofs.Facts.Lists.Totals.{total_append, total_pointwise, total_pointwise_on, total_scaled, total_flat_map, total_permutation}
use Rattle.plane_base.proofs.Facts.Points.Orders.{point_equal, point_less_x, before_is_less, less_from_greater, point_total}
use Rattle.plane_base.proofs.Facts.Maps.Laying.{IsDirectedEntry, IsDirected, lay_by}
use Rattle.plane_base.proofs.Facts.Maps.LinearSums.{passing_sum_normal, subject_additive, clip_additive}

-- the sum of the counts of the entries that lie strictly below the point
abbrev pub sum_below : {C : Type 0} → (C → ℤ) → List (Entry C) → RationalPoint → ℤ
sum_below n es p = total (λ e. cond (is_below e.edge.a e.edge.b p) (n e.count) (pos 0)) es

-- no step to the left, and none vertical, spans a column
pub spans_back : (u v : Point) (p : RationalPoint) → v.x ≤ℤ u.x → spans u v p ≡ false
spans_back u v p h = by (int_le (pos p.q *ℤ u.x) p.x) (int_lt p.x (pos p.q *ℤ v.x)) refl refl (product_monotone (pos p.q) v.x u.x (omega (arith, ints)) h)
  where
    by : (begun unended : Bool) → int_le (pos p.q *ℤ u.x) p.x ≡ begun → int_lt p.x (pos p.q *ℤ v.x) ≡ unended → (pos p.q *ℤ v.x) ≤ℤ (pos p.q *ℤ u.x) → begun && unended ≡ false
    by true true e f k = absurd (omega (arith, ints))
    by true false e f k = refl
    by false unended e f k = refl

pub is_below_back : (u v : Point) (p : RationalPoint) → v.x ≤ℤ u.x → is_below u v p ≡ false
is_below_back u v p h = and_left (spans u v p) (int_lt (pos 0) (side u v p)) (spans_back u v p h)

-- over directed entries it is a sum of steps' windings
pub sum_below_by_steps : {C : Type 0} (n : C → ℤ) (es : List (Entry C)) (p : RationalPoint) → IsDirected es → sum_below n es p ≡ total (λ e. n e.count *ℤ step_winding e.edge.a e.edge.b p) es
sum_below_by_steps n es p directed =
    total_pointwise_on (λ e. cond (is_below e.edge.a e.edge.b p) (n e.count) (pos 0)) (λ e. n e.count *ℤ step_winding e.edge.a e.edge.b p) es
    (All-weaker IsDirectedEntry (λ e. cond (is_below e.edge.a e.edge.b p) (n e.count) (pos 0) ≡ n e.count *ℤ step_winding e.edge.a e.edge.b p)
    (λ e h. by (n e.count) (is_below e.edge.a e.edge.b p) (is_below e.edge.b e.edge.a p) (is_below_back e.edge.b e.edge.a p (point_less_x e.edge.a e.edge.b (before_is_less e.edge.a e.edge.b h)))) es directed)
  where
    by : (m : ℤ) (below back : Bool) → back ≡ false → cond below m (pos 0) ≡ m *ℤ cond below (pos 1) (cond back (negsuc 0) (pos 0))
    by m true back h = omega (arith, ints)
    by m false true h = absurd (cc)
    by m false false h = omega (arith, ints)

-- ---- steps

module _ {C : Type 0} {kind : Counting C} {n : C → ℤ} (additive : IsAdditive kind n) where
  pub sum_below_lay : (u v : Point) (c : C) (p : RationalPoint) → sum_below n (lay kind u v c) p ≡ n c *ℤ step_winding u v p
  sum_below_lay u v c p = by (point_order u v) refl
    where
      right : (below back : Bool) → back ≡ false → cond below (n c) (pos 0) +ℤ pos 0 ≡ n c *ℤ cond below (pos 1) (cond back (negsuc 0) (pos 0))
      right true back h = omega (arith, ints)
      right false true h = absurd (cc)
      right false false h = omega (arith, ints)

      left : (below back : Bool) (m : ℤ) → below ≡ false → m ≡ neg_ℤ (n c) → cond back m (pos 0) +ℤ pos 0 ≡ n c *ℤ cond below (pos 1) (cond back (negsuc 0) (pos 0))
      left true back m h e = absurd (cc)
      left false true m h e = omega (arith, ints)
      left false false m h e = omega (arith, ints)

      none : (below back : Bool) → below ≡ false → back ≡ false → pos 0 ≡ n c *ℤ cond below (pos 1) (cond back (negsuc 0) (pos 0))
      none true back h k = absurd (cc)
      none false true h k = absurd (cc)
      none false false h k = omega (arith, ints)

      level : (u v : Point) → u ≡ v → v.x ≤ℤ u.x
      level u v e = let x = ap (λ a. a.x) e in omega (arith, ints)

      by : (o : Ordering) → point_order u v ≡ o → sum_below n (lay_by kind o u v c) p ≡ n c *ℤ step_winding u v p
      by Less h = right (is_below u v p) (is_below v u p) (is_below_back v u p (point_less_x u v h))
      by Equal h = none (is_below u v p) (is_below v u p) (is_below_back u v p (level u v (point_equal u v h))) (is_below_back v u p (level v u (sym (point_equal u v h))))
      by Greater h = left (is_below u v p) (is_below v u p) (n (kind.turned c)) (is_below_back u v p (point_less_x v u (less_from_greater point_total u v h))) (additive.of_turned c)

  -- ---- paths and contours

  pub sum_below_path : (path : List Point) (c : C) (p : RationalPoint) → sum_below n (laid_path kind c path) p ≡ n c *ℤ path_winding path p
  sum_below_path [] c p = sym (*ℤ-zero (n c))
  sum_below_path (u ∷ []) c p = sym (*ℤ-zero (n c))
  sum_below_path (u ∷ v ∷ rest) c p =
      total_append (λ e. cond (is_below e.edge.a e.edge.b p) (n e.count) (pos 0)) (lay kind u v c) (laid_path kind c (v ∷ rest))
      ∙ ap (λ t. t +ℤ sum_below n (laid_path kind c (v ∷ rest)) p) (sum_below_lay u v c p)
      ∙ ap (λ t. (n c *ℤ step_winding u v p) +ℤ t) (sum_below_path (v ∷ rest) c p)
      ∙ sym (product_of_sum (n c) (step_winding u v p) (path_winding (v ∷ rest) p))

  pub sum_below_contours : (contours : List (List Point)) (c : C) (p : RationalPoint) → sum_below n (flat_map (laid kind c) contours) p ≡ n c *ℤ total (λ contour. cycle_winding contour p) contours
  sum_below_contours contours c p =
      total_flat_map (λ e. cond (is_below e.edge.a e.edge.b p) (n e.count) (pos 0)) (laid kind c) contours
      ∙ total_pointwise (λ contour. sum_below n (laid kind c contour) p) (λ contour. n c *ℤ cycle_winding contour p) contours (λ contour. sum_below_path (closed contour) c p)
      ∙ total_scaled (n c) (λ contour. cycle_winding contour p) contours

  pub sum_below_normal : (es : List (Entry C)) (p : RationalPoint) → sum_below n (normal kind es) p ≡ sum_below n es p
  sum_below_normal es p = passing_sum_normal additive (λ s. is_below s.a s.b p) es

-- ---- the map of subject and clip

sum_below_given : {n : Count → ℤ} → IsAdditive boolean n → (subjects clips : List (List Point)) (p : RationalPoint)
    → sum_below n (given subjects clips) p ≡ (n one_subject *ℤ total (λ c. cycle_winding c p) subjects) +ℤ (n one_clip *ℤ total (λ c. cycle_winding c p) clips)
sum_below_given {n} additive subjects clips p =
    sum_below_normal additive (flat_map (laid boolean one_subject) subjects ++ flat_map (laid boolean one_clip) clips) p
    ∙ total_append (λ e. cond (is_below e.edge.a e.edge.b p) (n e.count) (pos 0)) (flat_map (laid boolean one_subject) subjects) (flat_map (laid boolean one_clip) clips)
    ∙ ap (λ t. t +ℤ sum_below n (flat_map (laid boolean one_clip) clips) p) (sum_below_contours additive subjects one_subject p)
    ∙ ap (λ t. (n one_subject *ℤ total (λ c. cycle_winding c p) subjects) +ℤ t) (sum_below_contours additive clips one_clip p)

pub subject_winding_given : (subjects clips : List (List Point)) (p : RationalPoint) → (winding (given subjects clips) p).subject ≡ total (λ c. cycle_winding c p) subjects
subject_winding_given subjects clips p =
    sum_below_given subject_additive subjects clips p ∙ one (total (λ c. cycle_winding c p) subjects) (total (λ c. cycle_winding c p) clips)
  where
    one : (s t : ℤ) → (pos 1 *ℤ s) +ℤ (pos 0 *ℤ t) ≡ s
    one s t = omega (arith, ints)

pub clip_winding_given : (subjects clips : List (List Point)) (p : RationalPoint) → (winding (given subjects clips) p).clip ≡ total (λ c. cycle_winding c p) clips
clip_winding_given subjects clips p =
    sum_below_given clip_additive subjects clips p ∙ one (total (λ c. cycle_winding c p) subjects) (total (λ c. cycle_winding c p) clips)
  where
    one : (s t : ℤ) → (pos 0 *ℤ s) +ℤ (pos 1 *ℤ t) ≡ t
    one s t = omega (arith, ints)

pub winding_given : (subjects clips : List (List Point)) (p : RationalPoint) → winding (given subjects clips) p ≡ record { subject = total (λ c. cycle_winding c p) subjects; clip = total (λ c. cycle_winding c p) clips }
winding_given subjects clips p = λ i. record { subject = subject_winding_given subjects clips p i; clip = clip_winding_given subjects clips p i }

pub contour_winding_is : (contours : List (List Point)) (p : RationalPoint) → contour_winding contours p ≡ total (λ c. cycle_winding c p) contours
contour_winding_is contours p = subject_winding_given contours [] p

pub contour_winding_append : (cs ds : List (List Point)) (p : RationalPoint) → contour_winding (cs ++ ds) p ≡ contour_winding cs p +ℤ contour_winding ds p
contour_winding_append cs ds p =
    contour_winding_is (cs ++ ds) p
    ∙ total_append (λ c. cycle_winding c p) cs ds
    ∙ sym (ap (λ t. t +ℤ contour_winding ds p) (contour_winding_is cs p) ∙ ap (λ t. total (λ c. cycle_winding c p) cs +ℤ t) (contour_winding_is ds p))

pub contour_winding_one : (c : List Point) (p : RationalPoint) → contour_winding (c ∷ []) p ≡ cycle_winding c p
contour_winding_one c p = contour_winding_is (c ∷ []) p ∙ alone (cycle_winding c p)
  where
    alone : (x : ℤ) → x +ℤ pos 0 ≡ x
    alone x = omega (arith, ints)

pub winding_given_by_contours : (subjects clips : List (List Point)) (p : RationalPoint) → winding (given subjects clips) p ≡ record { subject = contour_winding subjects p; clip = contour_winding clips p }
winding_given_by_contours subjects clips p =
    winding_given subjects clips p ∙ (λ i. record { subject = sym (contour_winding_is subjects p) i; clip = sym (contour_winding_is clips p) i })

pub contour_winding_permutation : (cs ds : List (List Point)) (p : RationalPoint) → IsPermutation cs ds → contour_winding ds p ≡ contour_winding cs p
contour_winding_permutation cs ds p h =
    contour_winding_is ds p ∙ total_permutation (λ c. cycle_winding c p) cs ds h ∙ sym (contour_winding_is cs p)

-- ---- any map

pub winding_normal : (es : List (Entry Count)) (p : RationalPoint) → winding (normal boolean es) p ≡ winding es p
winding_normal es p = λ i. record { subject = sum_below_normal subject_additive es p i; clip = sum_below_normal clip_additive es p i }

-- ---- regions

unfilled : (fill : FillRule) → is_filled fill (pos 0) ≡ false
unfilled EvenOdd = refl
unfilled NonZero = refl
unfilled Positive = refl
unfilled Negative = refl
unfilled (AtLeast n) = refl

unheld : (rule : OverlayRule) → holds rule false false ≡ false
unheld Subject = refl
unheld Clip = refl
unheld Intersect = refl
unheld Union = refl
unheld Difference = refl
unheld InverseDifference = refl
unheld Xor = refl

-- what neither subject nor clip winds round is in no region
pub region_of_nothing : (fill : FillRule) (rule : OverlayRule) → region fill rule (record { subject = pos 0; clip = pos 0 }) ≡ false
region_of_nothing fill rule = ap (λ b. holds rule b b) (unfilled fill) ∙ unheld rule
