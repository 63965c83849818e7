-- The heights at which edges run, and rows in which there is nothing yet.
use Rattle.std.proofs.Common.{◌≡◌, ℕ, ◌+◌, ◌<◌, ◌≤◌, ℤ, ◌<ℤ◌, Bool, true, false, ◌⊎◌, inl, inr, Option, None, List, [], ◌∷◌, length, map, get_or, replicate, All, Contains, sym, ap, subst, ◌∙◌, arith}
use Rattle.std.specs.Cmp.{IsEquivalence, IsTotalOrder}
use Rattle.std.specs.List.{dedup, items_where_true}
use Rattle.std.specs.List.Retain.{IsFiltered, DiffersFromLast}
use Rattle.std.specs.List.Sorted.{IsPermutation, IsSorted}
use Rattle.std.specs.Ordering.{int_cmp, eq_by_cmp}
use Rattle.std.specs.declared.cmp.Ordering.{Ordering}
use Rattle.std.proofs.lemmas.Bool.{cases_lt}
use Rattle.std.proofs.lemmas.List.{get_or_default, length-map, length-replicate, get_or-replicate}
use Rattle.std.proofs.lemmas.List.Elements.{All-map, All-contains}
use Rattle.std.proofs.lemmas.List.Filters.{dedup_is}
use Rattle.std.proofs.lemmas.List.Kept.{Contains-dedup, IsStrictlySortedBy-dedup}
use Rattle.std.proofs.lemmas.List.Sorted.{Contains-permutation, length_permutation}
use Rattle.std.proofs.lemmas.Map.Keys.{Less-from_sorted}
use Rattle.plane_base.specs.Counts.{Count, Entry}
use Rattle.plane_base.proofs.Facts.Points.Orders.{int_less, int_equal, is_equal}
use Rattle.segment_split.specs.LineLaws.{is_rectilinear, AllRectilinear}
use Rattle.segment_split.specs.Passes.{edges_of}
use Rattle.segment_arrangement.specs.HorizontalRows.{IsHeight, AreHeights, HoldEnds}
use Rattle.segment_arrangement.specs.declared.rectilinear_sides.HorizontalEnd.{HorizontalEnd}

-- ---- tests of all segments

module _ {X : Type 0} (entry : X → Entry Count) (segments : List X) where
  -- a segment at a place of the list
  pub from_places : (P : Entry Count → Type 0) → ((i : ℕ) (d : X) → i < length segments → P (entry (get_or segments i d))) → All P (map entry segments)
  from_places P h = All-map P entry segments h

  pub all_rectilinear : ((i : ℕ) (d : X) → i < length segments → is_rectilinear (entry (get_or segments i d)).edge ≡ true) → AllRectilinear (edges_of (map entry segments))
  all_rectilinear h = All-map (λ s. is_rectilinear s ≡ true) (λ e. e.edge) (map entry segments) (from_places (λ e. is_rectilinear e.edge ≡ true) h)

-- one place more was tested
pub one_tested : {X : Type 0} (P : X → Type 0) (segments : List X) (n : ℕ) (s : X) → n < length segments → s ≡ get_or segments n s → P s → ((i : ℕ) (d : X) → i < n → P (get_or segments i d)) → (i : ℕ) (d : X) → i < n + 1 → P (get_or segments i d)
one_tested P segments n s within is new old i d l = by (cases_lt i n)
  where
    by : (i < n) ⊎ (n ≤ i) → P (get_or segments i d)
    by (inl m) = old i d m
    by (inr g) = let e : i ≡ n = omega (arith, l, g) in subst P (is ∙ (get_or_default segments n s d within ∙ ap (λ k. get_or segments k d) (sym e))) new

-- ---- heights

no_more_picked : {X : Type 0} (bs : List Bool) (xs : List X) → length (items_where_true bs xs) ≤ length xs
no_more_picked [] xs = omega arith
no_more_picked (b ∷ bs) [] = omega arith
no_more_picked (true ∷ bs) (x ∷ xs) = let rest = no_more_picked bs xs in omega (arith, rest)
no_more_picked (false ∷ bs) (x ∷ xs) = let rest = no_more_picked bs xs in omega (arith, rest)

module _ {I : Type 0} (value : I → ℤ) (cmp : I → I → Ordering) (same : I → I → Bool) (total : IsTotalOrder cmp) (ordered : (a b : I) → cmp a b ≡ int_cmp (value a) (value b)) (equivalence : IsEquivalence same) (ties : (a b : I) → same a b ≡ eq_by_cmp cmp a b) (value_tells : (a b : I) → value a ≡ value b → a ≡ b) where
  tells : (a b : I) → same a b ≡ true → a ≡ b
  tells a b e = value_tells a b (int_equal (value a) (value b) (sym (ordered a b) ∙ is_equal (cmp a b) (sym (ties a b) ∙ e)))

  pub are_heights :
      {X : Type 0} (entry : X → Entry Count) (segments : List X) (height : X → I) → ((s : X) → value (height s) ≡ (entry s).edge.a.y) → (found sorted kept : List I)
      → ((i : ℕ) (d : X) → i < length segments → (entry (get_or segments i d)).edge.a.x <ℤ (entry (get_or segments i d)).edge.b.x → Contains found (height (get_or segments i d)))
      → length found ≤ length segments → IsPermutation found sorted → IsSorted cmp sorted → IsFiltered (DiffersFromLast same) [] sorted kept → AreHeights value (map entry segments) kept
  are_heights {X} entry segments height heights found sorted kept each fewer moved up filtered = record {
    rising = λ i j d l m.
        int_less (value (get_or kept i d)) (value (get_or kept j d))
        (sym (ordered (get_or kept i d) (get_or kept j d)) ∙ Less-from_sorted cmp kept i j d (rw is (IsStrictlySortedBy-dedup total ties sorted up)) l m);
    all = λ e here wide.
        All-contains (λ e. e.edge.a.x <ℤ e.edge.b.x → IsHeight value kept e.edge.a.y) (map entry segments) e
        (from_places entry segments (λ e. e.edge.a.x <ℤ e.edge.b.x → IsHeight value kept e.edge.a.y)
        (λ i d l w. subst (IsHeight value kept) (heights (get_or segments i d)) (height_at (height (get_or segments i d)) (in_kept (height (get_or segments i d)) (each i d l w)))))
        here wide;
    few =
        let picked : length kept ≤ length sorted = rw filtered.4 (no_more_picked filtered.0 sorted) in
        omega (arith, picked, length_permutation found sorted moved, fewer, length-map segments entry);
  }
    where
      is : kept ≡ dedup same sorted
      is = dedup_is same sorted kept filtered

      in_kept : (h : I) → Contains found h → Contains kept h
      in_kept h c = rw is (Contains-dedup equivalence tells sorted h (Contains-permutation found sorted h moved c))

      height_at : (h : I) → Contains kept h → IsHeight value kept (value h)
      height_at h c = record { place = c.0; within = c.1; is = λ d. ap value (get_or_default kept c.0 d h c.1 ∙ c.2) }

-- ---- rows in which there is nothing

pub nothing_held : {I : Type 0} (value : I → ℤ) (es : List (Entry Count)) (heights : List I) (ends : List (Option (HorizontalEnd I))) → ends ≡ replicate (length heights) None → HoldEnds value es 0 heights ends
nothing_held value es heights ends is = record {
  one_each = ap length is ∙ length-replicate (length heights) None;
  each = λ r y none l. rw (is, get_or-replicate (length heights) r None none l) (λ e c runs. absurd (omega (arith, c.1)));
}
