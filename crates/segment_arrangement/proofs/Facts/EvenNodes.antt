-- An even number of the boundary's links meet at each point.
use Rattle.std.proofs.Common.{◌≡◌, ℕ, ◌+◌, ◌%◌, Bool, true, false, cond, if◌then◌else◌, List, [], ◌∷◌, length, length-append, map, filter, IsPermutation, pos, ◌+ℤ◌, refl, sym, ap, ◌∙◌, arith}
use Rattle.std.specs.Ordering.{is_eq}
use Rattle.std.proofs.lemmas.Int.{ints}
use Rattle.std.proofs.lemmas.List.Elements.{filter-append}
use Rattle.plane_base.specs.Plane.{Point, Edge, point_order}
use Rattle.plane_base.specs.Counts.{Count, Entry}
use Rattle.plane_base.specs.Regions.{FillRule, OverlayRule}
use Rattle.plane_base.specs.Totals.{total}
use Rattle.plane_base.proofs.Facts.Lists.Totals.{total_filter, total_map, total_pointwise}
use Rattle.segment_arrangement.specs.EdgeSides.{is_boundary, boundary}
use Rattle.segment_arrangement.specs.Graphs.{link_of, boundary_links, places_from}
use Rattle.segment_arrangement.specs.Rings.{IsRing, BoundaryIsEven}
use Rattle.segment_arrangement.proofs.Facts.Rings.{sum_filtered, boundary_alternates}
use Rattle.segment_arrangement.proofs.Facts.RingOrder.{points_have_rings}

-- how many pass, as a sum
passing : {A : Type 0} (test : A → Bool) (xs : List A) → pos (length (filter test xs)) ≡ total (λ x. cond (test x) (pos 1) (pos 0)) xs
passing test [] = refl
passing test (x ∷ xs) = by (test x) (passing test xs)
  where
    by : (b : Bool) → pos (length (filter test xs)) ≡ total (λ x. cond (test x) (pos 1) (pos 0)) xs → pos (length (cond b (x ∷ filter test xs) (filter test xs))) ≡ cond b (pos 1) (pos 0) +ℤ total (λ x. cond (test x) (pos 1) (pos 0)) xs
    by true e = omega (arith, ints)
    by false e = omega (arith, ints)

places : {A : Type 0} (n : ℕ) (test : A → Bool) (xs : List A) → pos (length (places_from n test xs)) ≡ total (λ x. cond (test x) (pos 1) (pos 0)) xs
places n test [] = refl
places n test (x ∷ xs) = by (test x) (places (n + 1) test xs)
  where
    by : (b : Bool) → pos (length (places_from (n + 1) test xs)) ≡ total (λ x. cond (test x) (pos 1) (pos 0)) xs
        → pos (length (cond b (n ∷ places_from (n + 1) test xs) (places_from (n + 1) test xs))) ≡ cond b (pos 1) (pos 0) +ℤ total (λ x. cond (test x) (pos 1) (pos 0)) xs
    by true e = omega (arith, ints)
    by false e = omega (arith, ints)

module _ (fill : FillRule) (rule : OverlayRule) (es : List (Entry Count)) (v : Point) where
  -- those of the boundary that pass are those that pass and bound
  bounding : (test : Edge → Bool) (fs : List (Entry Count)) → IsPermutation (filter (λ e. test e.edge) es) fs
      → pos (length (places_from 0 test (map (λ l. l.edge) (boundary_links fill rule es)))) ≡ pos (length (filter (is_boundary fill rule es) fs))
  bounding test fs h =
      places 0 test (map (λ l. l.edge) (boundary_links fill rule es))
      ∙ (total_map (λ s. cond (test s) (pos 1) (pos 0)) (λ l. l.edge) (boundary_links fill rule es)
      ∙ (total_map (λ l. cond (test l.edge) (pos 1) (pos 0)) (link_of fill es) (boundary fill rule es)
      ∙ (total_filter (λ e. cond (test e.edge) (pos 1) (pos 0)) (is_boundary fill rule es) es
      ∙ (total_pointwise (λ e. (if is_boundary fill rule es e then cond (test e.edge) (pos 1) (pos 0) else pos 0)) (λ e. cond (test e.edge) (cond (is_boundary fill rule es e) (pos 1) (pos 0)) (pos 0)) es
      (λ e. exchanged (is_boundary fill rule es e) (test e.edge))
      ∙ (sum_filtered es v (λ c. c.subject) (λ e. test e.edge) (λ e. cond (is_boundary fill rule es e) (pos 1) (pos 0)) fs h
      ∙ sym (passing (is_boundary fill rule es) fs))))))
    where
      exchanged : (b c : Bool) → (if b then cond c (pos 1) (pos 0) else pos 0) ≡ cond c (cond b (pos 1) (pos 0)) (pos 0)
      exchanged true true = refl
      exchanged true false = refl
      exchanged false true = refl
      exchanged false false = refl

pub boundary_is_even : BoundaryIsEven
boundary_is_even fill rule es v arranged = by (points_have_rings es v arranged)
  where
    same : (m n k l : ℕ) → pos m ≡ pos k → pos n ≡ pos l → m + n ≡ k + l
    same m n k l e f = omega (arith, ints)

    by : (starts : List (Entry Count)) × (ends : List (Entry Count)) × IsRing es v starts ends
        → (length (places_from 0 (λ s. is_eq (point_order s.a v)) (map (λ l. l.edge) (boundary_links fill rule es))) + length (places_from 0 (λ s. is_eq (point_order s.b v)) (map (λ l. l.edge) (boundary_links fill rule es)))) % 2 ≡ 0
    by (starts, ends, ring) =
        ap (λ n. n % 2)
        (same _ _ _ _ (bounding fill rule es v (λ s. is_eq (point_order s.a v)) starts ring.starts_in_order.all) (bounding fill rule es v (λ s. is_eq (point_order s.b v)) ends ring.all_ends)
        ∙ sym (ap length (filter-append (is_boundary fill rule es) starts ends) ∙ length-append (filter (is_boundary fill rule es) starts) (filter (is_boundary fill rule es) ends)))
        ∙ (boundary_alternates fill rule es starts ends v arranged ring).even
