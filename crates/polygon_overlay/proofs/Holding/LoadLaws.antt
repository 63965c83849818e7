-- Where held edges meet whole, each of them takes part at most once in what a pass lays on an edge and in what passes below it.
--
-- The load of a list is the sum of the absolute counts of those of its edges that pass a test.
use Rattle.std.proofs.Common.{◌≡◌, ◌≢◌, ◌⊎◌, inl, inr, ℕ, zero, suc, ◌+◌, ◌<◌, ◌≤◌, ◌^◌, ℤ, pos, negsuc, neg_ℤ, ◌+ℤ◌, ◌≤ℤ◌, Bool, true, false, cond, int_lt, int_le, int_cmp, List, [], ◌∷◌, ◌++◌, map, filter, flat_map, length, get_or, All, AllPairs, Contains, sum_by, refl, sym, ap, ◌∙◌, subst, arith}
use Rattle.std.specs.Prelude.{unsigned_abs, sum}
use Rattle.std.specs.declared.cmp.Ordering.{Ordering}
use Rattle.std.specs.declared.cmp.Ordering.TheVariants.{Less, Equal, Greater}
use Rattle.std.specs.Ordering.{is_eq, ordering_then}
use Rattle.std.proofs.lemmas.Bool.{false≢true, and_parts, and_from}
use Rattle.std.proofs.lemmas.Cmp.{int_cmp_total, tied_itself}
use Rattle.std.proofs.lemmas.Int.{ints}
use Rattle.std.proofs.lemmas.List.Elements.{All-nil, All-head, All-tail, All-append, All-push, All-map, All-weaker, All-contains, All-contains_itself}
use Rattle.std.proofs.lemmas.List.Sorted.{All-permutation}
use Rattle.std.proofs.lemmas.List.Sums.{sum-map, sum_by-cons}
use Rattle.plane_base.specs.Plane.{Point, Edge, turn, side, is_before, is_below, point_order, edge_order}
use Rattle.plane_base.specs.Balance.{IsAdditive}
use Rattle.plane_base.specs.Counts.{Count as Windings, Counting, Entry, boolean, one_subject, one_clip, unless_empty, joined, normal, IsNormal}
use Rattle.plane_base.specs.Given.{laid_path, laid}
use Rattle.plane_base.specs.Segments.{strictly_inside, MeetsInEnds}
use Rattle.plane_base.specs.Totals.{total}
use Rattle.plane_base.specs.WholeLaws.{WholeMarksStay}
use Rattle.plane_base.specs.Windings.{winding}
use Rattle.plane_base.specs.declared.fault.Fault.TheVariants.{Count}
use Rattle.plane_base.proofs.Facts.Crossings.Tests.{inside_tells, inside_apart}
use Rattle.plane_base.proofs.Facts.Lists.Totals.{total_append, total_map, total_filter, total_flat_map, total_sum, total_not_negative, total_monotone, total_monotone_on, total_zero_on, total_permutation}
use Rattle.plane_base.proofs.Facts.Maps.Laying.{lay_by}
use Rattle.plane_base.proofs.Facts.Maps.LinearSums.{subject_additive, clip_additive}
use Rattle.plane_base.proofs.Facts.Maps.Normal.{AllPairs-nil, AllPairs-cons, AllPairs-head, AllPairs-tail, joined_by, normal_is_normal}
use Rattle.plane_base.proofs.Facts.Numbers.Polynomials.{var, const, plus, by_ring}
use Rattle.plane_base.proofs.Facts.Numbers.Products64.{above_from_size, below_from_size}
use Rattle.plane_base.proofs.Facts.Points.Orders.{point_total, less_apart, before_is_less, is_equal, edge_equal, edge_itself}
use Rattle.plane_base.proofs.Facts.Points.Turns.{coordinates, place, a_turn, a_side, turn_there_and_back, turn_end_twice}
use Rattle.segment_split.specs.AlongLaws.{MarksStandAlong}
use Rattle.segment_split.specs.Kinds.{number_fits, count_fits}
use Rattle.segment_split.specs.Paths.{mark_order, along, path}
use Rattle.segment_split.specs.Passes.{radius, edges_of, marks_in, marks_on, cut, pass}
use Rattle.segment_split.specs.Redrawing.{iterate}
use Rattle.segment_split.specs.RedrawLaws.{Rearranges, ComesToRest, OnePassIsEnough}
use Rattle.segment_split.specs.Refusals.{steps_in, counts_on, all_joined, IsOverfull}
use Rattle.segment_split.specs.WholeLaws.{AllMeetWhole, WholeMeetingsKeepWindings}
use Rattle.segment_split.specs.declared.solver.Precision.{Precision}
use Rattle.segment_split.proofs.Facts.Adding.Held.{laid_holds}
use Rattle.segment_split.proofs.Passes.Last.{joined_tells}
use Rattle.segment_split.proofs.Passes.Laws.{EndsAre, laid_path_ends}
use Rattle.segment_split.proofs.Passes.Paths.{path_all}
use Rattle.segment_split.proofs.Passes.Unmarked.{uncut, flat_map_each, meets_unmarked, unmarked_pairs, none_on}
use Rattle.segment_arrangement.specs.EdgeSides.{middle, upper_side}
use Rattle.segment_arrangement.proofs.Facts.ConstantSides.{Contains-map}
use Rattle.contour_walk.proofs.Facts.Binding.Lists.{term_of_total}
use Rattle.polygon_overlay.specs.Builders.{IsHeld}
use Rattle.polygon_overlay.specs.Overlays.{redrawn_of, MeetsWhole, IsQueryRefused}
use Rattle.polygon_overlay.specs.OverlayLaws.{HoldsContours}
use Rattle.polygon_overlay.specs.LoadLaws.{SumInRange, CountsNeverLeaveTheirRange}
use Rattle.plane_base.proofs.Facts.Points.AlongOrder.{up_through}

-- ---- numbers

-- the absolute value
abbrev size : ℤ → ℤ
size z = pos (unsigned_abs z)

-- z lies from -m to m
abbrev IsUpTo : ℤ → ℤ → Type 0
IsUpTo m z = (neg_ℤ m ≤ℤ z) × (z ≤ℤ m)

up_to_size : (z : ℤ) → IsUpTo (size z) z
up_to_size z = (above_from_size z (unsigned_abs z) (omega arith), below_from_size z (unsigned_abs z) (omega arith))

size_up_to : (m z : ℤ) → IsUpTo m z → size z ≤ℤ m
size_up_to m (pos n) (low, high) = omega (arith, ints)
size_up_to m (negsuc n) (low, high) = omega (arith, ints)

size_turned : (z : ℤ) → size (neg_ℤ z) ≡ size z
size_turned (pos zero) = refl
size_turned (pos (suc n)) = refl
size_turned (negsuc n) = refl

both_up_to : (m k y z : ℤ) → IsUpTo m y → IsUpTo k z → IsUpTo (m +ℤ k) (y +ℤ z)
both_up_to m k y z (low, high) (low', high') = (omega (arith, ints), omega (arith, ints))

up_to_more : (m k z : ℤ) → m ≤ℤ k → IsUpTo m z → IsUpTo k z
up_to_more m k z more (low, high) = (omega (arith, ints), omega (arith, ints))

size_of_sum : (y z : ℤ) → size (y +ℤ z) ≤ℤ (size y +ℤ size z)
size_of_sum y z = size_up_to (size y +ℤ size z) (y +ℤ z) (both_up_to (size y) (size z) y z (up_to_size y) (up_to_size z))

size_above : (z : ℤ) → pos 0 ≤ℤ size z
size_above z = omega (arith, ints)

no_more : (z : ℤ) → z ≡ z +ℤ pos 0
no_more z = omega (arith, ints)

regrouped : (x y z : ℤ) → (x +ℤ y) +ℤ z ≡ x +ℤ (y +ℤ z)
regrouped x y z = omega (arith, ints)

total_up_to : {A : Type 0} (f g : A → ℤ) (xs : List A) → ((x : A) → IsUpTo (f x) (g x)) → IsUpTo (total f xs) (total g xs)
total_up_to f g [] h = (omega (arith, ints), omega (arith, ints))
total_up_to f g (x ∷ xs) h = both_up_to (f x) (total f xs) (g x) (total g xs) (h x) (total_up_to f g xs h)

-- ---- loads

abbrev load : {C : Type 0} → (C → ℤ) → (Edge → Bool) → List (Entry C) → ℤ
load n test es = total (λ e. cond (test e.edge) (size (n e.count)) (pos 0)) es

-- of all edges
abbrev load_of_all : {C : Type 0} → (C → ℤ) → List (Entry C) → ℤ
load_of_all n es = total (λ e. size (n e.count)) es

abbrev is_at : Edge → Edge → Bool
is_at s t = is_eq (edge_order t s)

part_above : (b : Bool) (z : ℤ) → pos 0 ≤ℤ cond b (size z) (pos 0)
part_above true z = size_above z
part_above false z = omega (arith, ints)

part_of_size : (b : Bool) (z : ℤ) → cond b (size z) (pos 0) ≤ℤ size z
part_of_size true z = omega (arith, ints)
part_of_size false z = size_above z

module _ {C : Type 0} (n : C → ℤ) where
  load_above : (test : Edge → Bool) (es : List (Entry C)) → pos 0 ≤ℤ load n test es
  load_above test es = total_not_negative (λ (e : Entry C). cond (test e.edge) (size (n e.count)) (pos 0)) es (λ e. part_above (test e.edge) (n e.count))

  load_of_part : (test : Edge → Bool) (es : List (Entry C)) → load n test es ≤ℤ load_of_all n es
  load_of_part test es =
      total_monotone (λ (e : Entry C). cond (test e.edge) (size (n e.count)) (pos 0)) (λ e. size (n e.count)) es (λ e. part_of_size (test e.edge) (n e.count))

  -- an entry is part of the load at its edge
  load_with : (es : List (Entry C)) (e : Entry C) → Contains es e → size (n e.count) ≤ℤ load n (is_at e.edge) es
  load_with es e here =
      subst (λ b. cond b (size (n e.count)) (pos 0) ≤ℤ load n (is_at e.edge) es) (ap is_eq (edge_itself e.edge))
      (term_of_total (λ (f : Entry C). cond (is_at e.edge f.edge) (size (n f.count)) (pos 0)) es e (λ f. part_above (is_at e.edge f.edge) (n f.count)) here)

  no_load : (s : Edge) (es : List (Entry C)) → All (λ e. e.edge ≢ s) es → load n (is_at s) es ≡ pos 0
  no_load s es h =
      total_zero_on (λ (e : Entry C). cond (is_at s e.edge) (size (n e.count)) (pos 0)) es
      (All-weaker (λ (e : Entry C). e.edge ≢ s) (λ e. cond (is_at s e.edge) (size (n e.count)) (pos 0) ≡ pos 0) (λ e differs. by e (is_at s e.edge) refl differs) es h)
    where
      by : (e : Entry C) (b : Bool) → is_at s e.edge ≡ b → e.edge ≢ s → cond b (size (n e.count)) (pos 0) ≡ pos 0
      by e true is differs = absurd (differs (edge_equal e.edge s (is_equal (edge_order e.edge s) is)))
      by e false is differs = refl

-- ---- joining lowers a load

module _ {C : Type 0} {kind : Counting C} {n : C → ℤ} (additive : IsAdditive kind n) (test : Edge → Bool) where
  abbrev part_of : Edge → C → ℤ
  part_of s c = cond (test s) (size (n c)) (pos 0)

  part_of_join : (s : Edge) (c d : C) → part_of s (kind.join c d) ≤ℤ (part_of s c +ℤ part_of s d)
  part_of_join s c d = by (test s)
    where
      by : (b : Bool) → cond b (size (n (kind.join c d))) (pos 0) ≤ℤ (cond b (size (n c)) (pos 0) +ℤ cond b (size (n d)) (pos 0))
      by true = subst (λ z. size z ≤ℤ (size (n c) +ℤ size (n d))) (sym (additive.of_join c d)) (size_of_sum (n c) (n d))
      by false = omega (arith, ints)

  load_of_unless_empty : (e : Entry C) (es : List (Entry C)) → load n test (unless_empty kind e es) ≤ℤ (part_of e.edge e.count +ℤ load n test es)
  load_of_unless_empty e es = by (kind.is_empty e.count)
    where
      less : (x t : ℤ) → pos 0 ≤ℤ x → t ≤ℤ (x +ℤ t)
      less x t h = omega (arith, ints)

      same : (x : ℤ) → x ≤ℤ x
      same x = omega (arith, ints)

      by : (b : Bool) → load n test (cond b es (e ∷ es)) ≤ℤ (part_of e.edge e.count +ℤ load n test es)
      by true = less (part_of e.edge e.count) (load n test es) (part_above (test e.edge) (n e.count))
      by false = same (part_of e.edge e.count +ℤ load n test es)

  load_of_joined : (e : Entry C) (es : List (Entry C)) → load n test (joined kind e es) ≤ℤ (part_of e.edge e.count +ℤ load n test es)
  load_of_joined e [] = load_of_unless_empty e []
  load_of_joined e (f ∷ rest) = by (edge_order e.edge f.edge) refl (load_of_joined e rest)
    where
      both : (x y z t u : ℤ) → z ≤ℤ (x +ℤ y) → u ≤ℤ (z +ℤ t) → u ≤ℤ (x +ℤ (y +ℤ t))
      both x y z t u h k = omega (arith, ints)

      later : (x y t u : ℤ) → u ≤ℤ (x +ℤ t) → (y +ℤ u) ≤ℤ (x +ℤ (y +ℤ t))
      later x y t u h = omega (arith, ints)

      one : Entry C
      one = record { edge = f.edge; count = kind.join e.count f.count }

      by : (o : Ordering) → edge_order e.edge f.edge ≡ o → load n test (joined kind e rest) ≤ℤ (part_of e.edge e.count +ℤ load n test rest)
          → load n test (joined_by kind o e f rest) ≤ℤ (part_of e.edge e.count +ℤ (part_of f.edge f.count +ℤ load n test rest))
      by Less is h = load_of_unless_empty e (f ∷ rest)
      by Equal is h =
          subst (λ s. load n test (unless_empty kind one rest) ≤ℤ (part_of s e.count +ℤ (part_of f.edge f.count +ℤ load n test rest))) (sym (edge_equal e.edge f.edge is))
          (both (part_of f.edge e.count) (part_of f.edge f.count) (part_of f.edge (kind.join e.count f.count)) (load n test rest) (load n test (unless_empty kind one rest))
          (part_of_join f.edge e.count f.count) (load_of_unless_empty one rest))
      by Greater is h = later (part_of e.edge e.count) (part_of f.edge f.count) (load n test rest) (load n test (joined kind e rest)) h

  load_of_normal : (es : List (Entry C)) → load n test (normal kind es) ≤ℤ load n test es
  load_of_normal [] = omega (arith, ints)
  load_of_normal (e ∷ es) =
      chain (load n test (joined kind e (normal kind es))) (part_of e.edge e.count) (load n test (normal kind es)) (load n test es) (load_of_joined e (normal kind es)) (load_of_normal es)
    where
      chain : (s x t u : ℤ) → s ≤ℤ (x +ℤ t) → t ≤ℤ u → s ≤ℤ (x +ℤ u)
      chain s x t u h k = omega (arith, ints)

-- ---- what is joined of a load lies in it

module _ {C : Type 0} {kind : Counting C} {n : C → ℤ} (additive : IsAdditive kind n) where
  abbrev size_of : C → ℤ
  size_of c = size (n c)

  joined_up_to : (m : ℤ) (c : C) (ds : List C) → IsUpTo m (n c) → IsUpTo (m +ℤ total size_of ds) (n (all_joined kind c ds))
  joined_up_to m c [] h = subst (λ k. IsUpTo k (n c)) (no_more m) h
  joined_up_to m c (d ∷ ds) h =
      subst (λ k. IsUpTo k (n (all_joined kind (kind.join c d) ds))) (regrouped m (size_of d) (total size_of ds))
      (joined_up_to (m +ℤ size_of d) (kind.join c d) ds
      (subst (IsUpTo (m +ℤ size_of d)) (sym (additive.of_join c d)) (both_up_to m (size_of d) (n c) (n d) h (up_to_size (n d)))))

  load_of_counts : (s : Edge) (es : List (Entry C)) → total size_of (counts_on s es) ≡ load n (is_at s) es
  load_of_counts s es =
      total_map size_of (λ (e : Entry C). e.count) (filter (λ e. is_at s e.edge) es) ∙ total_filter (λ (e : Entry C). size_of e.count) (λ e. is_at s e.edge) es

  overfull_up_to : (m : ℤ) (fits : C → Bool) (es : List (Entry C)) → ((s : Edge) → load n (is_at s) es ≤ℤ m) → (o : IsOverfull kind fits es)
      → IsUpTo m (n (all_joined kind o.first o.others))
  overfull_up_to m fits es loads o =
      up_to_more (size_of o.first +ℤ total size_of o.others) m (n (all_joined kind o.first o.others))
      (within (total size_of o.before) (size_of o.first) (total size_of o.others) (total size_of o.after) (load n (is_at o.edge) es) m all
      (above o.before) (above o.after) (loads o.edge))
      (joined_up_to (size_of o.first) o.first o.others (up_to_size (n o.first)))
    where
      above : (cs : List C) → pos 0 ≤ℤ total size_of cs
      above cs = total_not_negative size_of cs (λ c. size_above (n c))

      within : (b f o a l m : ℤ) → b +ℤ (f +ℤ (o +ℤ a)) ≡ l → pos 0 ≤ℤ b → pos 0 ≤ℤ a → l ≤ℤ m → (f +ℤ o) ≤ℤ m
      within b f o a l m e h k u = omega (arith, ints)

      all : total size_of o.before +ℤ (size_of o.first +ℤ (total size_of o.others +ℤ total size_of o.after)) ≡ load n (is_at o.edge) es
      all =
          sym (total_append size_of o.before (o.first ∷ (o.others ++ o.after)) ∙ ap (λ t. total size_of o.before +ℤ (size_of o.first +ℤ t)) (total_append size_of o.others o.after))
          ∙ (ap (total size_of) (sym o.laid)
          ∙ (load_of_counts o.edge o.ordered
          ∙ total_permutation (λ (e : Entry C). cond (is_at o.edge e.edge) (size (n e.count)) (pos 0)) es o.ordered o.reordered))

-- ---- a path takes part once

abbrev AreApart : List Point → Type 0
AreApart ps = AllPairs (λ p r. p ≢ r) ps

module _ {C : Type 0} {kind : Counting C} {n : C → ℤ} (additive : IsAdditive kind n) (s : Edge) (c : C) where
  -- where a point of s is none of a path's, the path lays nothing on s
  none_laid : (p : Point) → (p ≡ s.a) ⊎ (p ≡ s.b) → (ps : List Point) → All (λ r. p ≢ r) ps → load n (is_at s) (laid_path kind c ps) ≡ pos 0
  none_laid p at ps away =
      no_load n s (laid_path kind c ps)
      (All-weaker (λ (e : Entry C). EndsAre (λ r. p ≢ r) e.edge) (λ e. e.edge ≢ s) (λ e ends same. by at e ends same) (laid_path kind c ps) (laid_path_ends kind (λ r. p ≢ r) c ps away))
    where
      by : (p ≡ s.a) ⊎ (p ≡ s.b) → (e : Entry C) → EndsAre (λ r. p ≢ r) e.edge → e.edge ≡ s → ⊥
      by (inl first) e ends same = ends.0 (first ∙ sym (ap (λ (t : Edge). t.a) same))
      by (inr second) e ends same = ends.1 (second ∙ sym (ap (λ (t : Edge). t.b) same))

  -- a step, and a path on from it that doesn't come back
  laid_step : (u v : Point) (rest : List Point) → All (λ r. u ≢ r) (v ∷ rest) → load n (is_at s) (laid_path kind c (v ∷ rest)) ≤ℤ size (n c)
      → load n (is_at s) (laid_path kind c (u ∷ v ∷ rest)) ≤ℤ size (n c)
  laid_step u v rest away on = by (point_order u v)
    where
      later : List (Entry C)
      later = laid_path kind c (v ∷ rest)

      alone : (x t l : ℤ) → x ≡ l → t ≡ pos 0 → (x +ℤ t) ≤ℤ l
      alone x t l e f = omega (arith, ints)

      skipped : (t l : ℤ) → t ≤ℤ l → (pos 0 +ℤ t) ≤ℤ l
      skipped t l h = omega (arith, ints)

      one : (t : Edge) (z : ℤ) → size z ≡ size (n c) → (t ≡ s → (u ≡ s.a) ⊎ (u ≡ s.b)) → (cond (is_at s t) (size z) (pos 0) +ℤ load n (is_at s) later) ≤ℤ size (n c)
      one t z same ends = cases (is_at s t) refl
        where
          cases : (b : Bool) → is_at s t ≡ b → (cond b (size z) (pos 0) +ℤ load n (is_at s) later) ≤ℤ size (n c)
          cases true is =
              alone (size z) (load n (is_at s) later) (size (n c)) same (none_laid u (ends (edge_equal t s (is_equal (edge_order t s) is))) (v ∷ rest) away)
          cases false is = skipped (load n (is_at s) later) (size (n c)) on

      by : (o : Ordering) → load n (is_at s) (lay_by kind o u v c ++ later) ≤ℤ size (n c)
      by Less = one (record { a = u; b = v }) (n c) refl (λ is. inl (ap (λ (t : Edge). t.a) is))
      by Equal = on
      by Greater =
          one (record { a = v; b = u }) (n (kind.turned c)) (ap size (additive.of_turned c) ∙ size_turned (n c)) (λ is. inr (ap (λ (t : Edge). t.b) is))

  laid_once : (ps : List Point) → AreApart ps → load n (is_at s) (laid_path kind c ps) ≤ℤ size (n c)
  laid_once [] apart = size_above (n c)
  laid_once (u ∷ []) apart = size_above (n c)
  laid_once (u ∷ v ∷ rest) apart =
      laid_step u v rest (AllPairs-head (λ p r. p ≢ r) u (v ∷ rest) apart) (laid_once (v ∷ rest) (AllPairs-tail (λ p r. p ≢ r) u (v ∷ rest) apart))

  -- ---- and not where its edge passes below

  -- the middle of an edge lies on the line of both its ends
  side_of_middle : (a b : Point) → turn a b s.a ≡ pos 0 → turn a b s.b ≡ pos 0 → side a b (middle s) ≡ pos 0
  side_of_middle a b first second =
      by_ring (coordinates (a ∷ b ∷ s.a ∷ s.b ∷ []) [])
      (a_side (place 0) (place 1) (record { x = plus (var 4) (var 6); y = plus (var 5) (var 7) }) (const (pos 2)))
      (plus (a_turn (place 0) (place 1) (place 2)) (a_turn (place 0) (place 1) (place 3)))
      refl
      ∙ none (turn a b s.a) (turn a b s.b) first second
    where
      none : (x y : ℤ) → x ≡ pos 0 → y ≡ pos 0 → x +ℤ y ≡ pos 0
      none x y e f = omega (arith, ints)

  part_once : (a b : Point) (ps : List Point) → AreApart ps → All (λ p. turn a b p ≡ pos 0) ps
      → (cond (is_below a b (middle s)) (size (n c)) (pos 0) +ℤ load n (is_at s) (laid_path kind c ps)) ≤ℤ size (n c)
  part_once a b ps apart flat = by (is_below a b (middle s)) refl
    where
      alone : (x t : ℤ) → t ≡ pos 0 → (x +ℤ t) ≤ℤ x
      alone x t e = omega (arith, ints)

      skipped : (t l : ℤ) → t ≤ℤ l → (pos 0 +ℤ t) ≤ℤ l
      skipped t l h = omega (arith, ints)

      elsewhere : is_below a b (middle s) ≡ true → (e : Entry C) → EndsAre (λ p. turn a b p ≡ pos 0) e.edge → e.edge ≡ s → ⊥
      elsewhere below e ends same =
          let on = side_of_middle a b (subst (λ (t : Edge). turn a b t.a ≡ pos 0) same ends.0) (subst (λ (t : Edge). turn a b t.b ≡ pos 0) same ends.1) in
          false≢true (ap (int_lt (pos 0)) (sym on) ∙ (and_parts _ (int_lt (pos 0) (side a b (middle s))) below).1)

      by : (below : Bool) → is_below a b (middle s) ≡ below → (cond below (size (n c)) (pos 0) +ℤ load n (is_at s) (laid_path kind c ps)) ≤ℤ size (n c)
      by true below =
          alone (size (n c)) (load n (is_at s) (laid_path kind c ps))
          (no_load n s (laid_path kind c ps)
          (All-weaker (λ (e : Entry C). EndsAre (λ p. turn a b p ≡ pos 0) e.edge) (λ e. e.edge ≢ s) (elsewhere below) (laid_path kind c ps)
          (laid_path_ends kind (λ p. turn a b p ≡ pos 0) c ps flat)))
      by false above = skipped (load n (is_at s) (laid_path kind c ps)) (size (n c)) (laid_once ps apart)

-- ---- the path of an edge through marks inside it

AllPairs-weaker : {X : Type 0} (R S : X → X → Type 0) → ((x y : X) → R x y → S x y) → (xs : List X) → AllPairs R xs → AllPairs S xs
AllPairs-weaker R S h [] pairs = AllPairs-nil S
AllPairs-weaker R S h (x ∷ xs) pairs =
    AllPairs-cons S x xs (All-weaker (R x) (S x) (h x) xs (AllPairs-head R x xs pairs)) (AllPairs-weaker R S h xs (AllPairs-tail R x xs pairs))

AllPairs-push : {X : Type 0} (R : X → X → Type 0) (xs : List X) (y : X) → AllPairs R xs → All (λ x. R x y) xs → AllPairs R (xs ++ y ∷ [])
AllPairs-push R [] y pairs all = AllPairs-cons R y [] (All-nil (R y)) (AllPairs-nil R)
AllPairs-push R (x ∷ xs) y pairs all =
    AllPairs-cons R x (xs ++ y ∷ []) (All-push (R x) xs y (AllPairs-head R x xs pairs) (All-head (λ x. R x y) x xs all))
    (AllPairs-push R xs y (AllPairs-tail R x xs pairs) (All-tail (λ x. R x y) x xs all))

mark_itself : (s : Edge) (p : Point) → mark_order s p p ≡ Equal
mark_itself s p =
    ap (λ o. ordering_then o (cond (int_lt s.b.y s.a.y) (int_cmp p.y p.y) (int_cmp p.y p.y))) (tied_itself int_cmp_total p.x)
    ∙ by (int_lt s.b.y s.a.y)
  where
    by : (b : Bool) → cond b (int_cmp p.y p.y) (int_cmp p.y p.y) ≡ Equal
    by true = tied_itself int_cmp_total p.y
    by false = tied_itself int_cmp_total p.y

not_both : (o : Ordering) → o ≡ Equal → o ≡ Less → ⊥
not_both o e f = absurd (cc)

module _ (stand : MarksStandAlong) (s : Edge) (ms : List Point) (directed : is_before s.a s.b ≡ true) (inside : All (λ m. strictly_inside m s ≡ true) ms) where
  inside_along : All (λ m. strictly_inside m s ≡ true) (along s ms)
  inside_along k d h = All-contains (λ m. strictly_inside m s ≡ true) ms _ inside ((stand.members s ms _).0 (All-contains_itself (along s ms) k d h))

  path_apart : AreApart (path s ms)
  path_apart =
      AllPairs-cons (λ p r. p ≢ r) s.a (along s ms ++ s.b ∷ [])
      (All-push (λ r. s.a ≢ r) (along s ms) s.b
      (All-weaker (λ m. strictly_inside m s ≡ true) (λ m. s.a ≢ m) (λ m h e. (inside_apart m s h).0 (sym e)) (along s ms) inside_along)
      (less_apart point_total s.a s.b (before_is_less s.a s.b directed)))
      (AllPairs-push (λ p r. p ≢ r) (along s ms) s.b
      (AllPairs-weaker (λ p r. mark_order s p r ≡ Less) (λ p r. p ≢ r)
      (λ p r less same. not_both (mark_order s p p) (mark_itself s p) (ap (mark_order s p) same ∙ less)) (along s ms) (stand.rising s ms))
      (All-weaker (λ m. strictly_inside m s ≡ true) (λ m. m ≢ s.b) (λ m h. (inside_apart m s h).1) (along s ms) inside_along))

  path_flat : All (λ p. turn s.a s.b p ≡ pos 0) (path s ms)
  path_flat =
      path_all (λ p. turn s.a s.b p ≡ pos 0) s ms (turn_there_and_back s.a s.b) (turn_end_twice s.a s.b)
      (All-weaker (λ m. strictly_inside m s ≡ true) (λ m. turn s.a s.b m ≡ pos 0) (λ m h. (inside_tells m s h).0) ms inside)

-- ---- passes

-- what a list of edges in order needs, to be cut once
module _ (marks_stay : WholeMarksStay) (stand : MarksStandAlong) (one_pass : (precision : Precision) → OnePassIsEnough boolean precision)
    (rests : (precision : Precision) → ComesToRest boolean precision)
    (rearranges : (precision : Precision) (k : ℕ) → Rearranges boolean (λ es. pass boolean precision es k))
    (precision : Precision) (es : List (Entry Windings)) (normal_es : IsNormal boolean es) (whole : AllMeetWhole (edges_of es)) where
  abbrev steps : List (Entry Windings)
  steps = steps_in boolean precision es 0

  marks_inside : (e : Entry Windings) → Contains es e → All (λ m. strictly_inside m e.edge ≡ true) (marks_on (marks_in precision 0) (edges_of es) e.edge)
  marks_inside e here k d h =
      let (t, there, at) =
      joined_tells (λ t. (marks_in precision 0 e.edge t).first) (edges_of es) _ (All-contains_itself (marks_on (marks_in precision 0) (edges_of es) e.edge) k d h) in
      All-contains (λ m. strictly_inside m e.edge ≡ true) (marks_in precision 0 e.edge t).first _
      (marks_stay.inside e.edge t (radius precision 0)
      (All-contains (λ (e : Entry Windings). is_before e.edge.a e.edge.b ≡ true) es e normal_es.directed here)
      (All-contains (λ t. is_before t.a t.b ≡ true) (edges_of es) t (All-map (λ t. is_before t.a t.b ≡ true) (λ (e : Entry Windings). e.edge) es normal_es.directed) there)
      (whole e.edge t (Contains-map (λ (e : Entry Windings). e.edge) es e here) there)).first at

  module _ {n : Windings → ℤ} (additive : IsAdditive boolean n) where
    abbrev below_load : Edge → ℤ
    below_load s = total (λ (e : Entry Windings). cond (is_below e.edge.a e.edge.b (middle s)) (size (n e.count)) (pos 0)) es

    -- what passes below the middle of an edge, and what is laid on it, is part of what is given
    load_at_side : (s : Edge) → (below_load s +ℤ load n (is_at s) steps) ≤ℤ load_of_all n es
    load_at_side s =
        subst (λ t. t ≤ℤ load_of_all n es)
        (total_sum below laid es ∙ ap (λ t. below_load s +ℤ t) (sym (total_flat_map (λ (e : Entry Windings). cond (is_at s e.edge) (size (n e.count)) (pos 0)) cut_up es)))
        (total_monotone_on (λ e. below e +ℤ laid e) (λ e. size (n e.count)) es (λ k d h. each _ (All-contains_itself es k d h)))
      where
        cut_up : Entry Windings → List (Entry Windings)
        cut_up = cut boolean (marks_in precision 0) (edges_of es)

        below : Entry Windings → ℤ
        below e = cond (is_below e.edge.a e.edge.b (middle s)) (size (n e.count)) (pos 0)

        laid : Entry Windings → ℤ
        laid e = load n (is_at s) (cut_up e)

        each : (e : Entry Windings) → Contains es e → (below e +ℤ laid e) ≤ℤ size (n e.count)
        each e here =
            let ms = marks_on (marks_in precision 0) (edges_of es) e.edge in
            let directed = All-contains (λ (e : Entry Windings). is_before e.edge.a e.edge.b ≡ true) es e normal_es.directed here in
            part_once additive s e.count e.edge.a e.edge.b (path e.edge ms) (path_apart stand e.edge ms directed (marks_inside e here))
            (path_flat stand e.edge ms directed (marks_inside e here))

    load_at_edge : (s : Edge) → load n (is_at s) steps ≤ℤ load_of_all n es
    load_at_edge s =
        part (below_load s) (load n (is_at s) steps) (load_of_all n es)
        (total_not_negative (λ (e : Entry Windings). cond (is_below e.edge.a e.edge.b (middle s)) (size (n e.count)) (pos 0)) es (λ e. part_above (is_below e.edge.a e.edge.b (middle s)) (n e.count)))
        (load_at_side s)
      where
        part : (b t l : ℤ) → pos 0 ≤ℤ b → (b +ℤ t) ≤ℤ l → t ≤ℤ l
        part b t l h k = omega (arith, ints)

    chain : (x y z : ℤ) → x ≤ℤ y → y ≤ℤ z → x ≤ℤ z
    chain x y z h k = omega (arith, ints)

    load_after : (s : Edge) → load n (is_at s) (pass boolean precision es 0) ≤ℤ load_of_all n es
    load_after s =
        chain (load n (is_at s) (normal boolean steps)) (load n (is_at s) steps) (load_of_all n es) (load_of_normal additive (is_at s) steps) (load_at_edge s)

    -- in each pass
    load_in_pass : (k : ℕ) (s : Edge) → load n (is_at s) (steps_in boolean precision (iterate boolean precision es k) k) ≤ℤ load_of_all n es
    load_in_pass zero s = load_at_edge s
    load_in_pass (suc k) s = subst (λ fs. load n (is_at s) fs ≤ℤ load_of_all n es) (sym at_rest) (load_after s)
      where
        once : List (Entry Windings)
        once = pass boolean precision es 0

        meets : MeetsInEnds (edges_of once)
        meets = (one_pass precision).meets es 0 normal_es whole

        in_order : IsNormal boolean once
        in_order = (rearranges precision 0).is_normal es normal_es

        unmarked : (e : Entry Windings) → Contains once e → marks_on (marks_in precision (suc k)) (edges_of once) e.edge ≡ []
        unmarked e there =
            none_on (marks_in precision (suc k)) (edges_of once)
            (unmarked_pairs (marks_in precision (suc k)) (edges_of once) (meets_unmarked precision (suc k) (edges_of once) meets)) e.edge
            (Contains-map (λ (e : Entry Windings). e.edge) once e there)

        at_rest : steps_in boolean precision (iterate boolean precision es (suc k)) (suc k) ≡ once
        at_rest =
            ap (λ fs. steps_in boolean precision fs (suc k)) (rests precision es 1 (suc k) normal_es (omega arith) meets)
            ∙ flat_map_each (cut boolean (marks_in precision (suc k)) (edges_of once)) once
            (λ i d l. uncut boolean (marks_in precision (suc k)) (edges_of once) (get_or once i d) (in_order.directed i d l)
            (unmarked (get_or once i d) (All-contains_itself once i d l)))

    -- both sides of each edge after the pass
    side_up_to : (e : Entry Windings) → Contains (pass boolean precision es 0) e
        → IsUpTo (load_of_all n es) (total (λ (f : Entry Windings). cond (is_below f.edge.a f.edge.b (middle e.edge)) (n f.count) (pos 0)) es +ℤ n e.count)
    side_up_to e there =
        up_to_more (below_load e.edge +ℤ load n (is_at e.edge) steps) (load_of_all n es) _ (load_at_side e.edge)
        (both_up_to (below_load e.edge) (load n (is_at e.edge) steps) _ (n e.count)
        (total_up_to (λ (f : Entry Windings). cond (is_below f.edge.a f.edge.b (middle e.edge)) (size (n f.count)) (pos 0)) (λ f. cond (is_below f.edge.a f.edge.b (middle e.edge)) (n f.count) (pos 0)) es
        (λ f. part_up_to (is_below f.edge.a f.edge.b (middle e.edge)) (n f.count)))
        (up_to_more (size (n e.count)) (load n (is_at e.edge) steps) (n e.count)
        (chain (size (n e.count)) (load n (is_at e.edge) (normal boolean steps)) (load n (is_at e.edge) steps) (load_with n (pass boolean precision es 0) e there) (load_of_normal additive (is_at e.edge) steps))
        (up_to_size (n e.count))))
      where
        part_up_to : (b : Bool) (z : ℤ) → IsUpTo (cond b (size z) (pos 0)) (cond b z (pos 0))
        part_up_to true z = up_to_size z
        part_up_to false z = (omega (arith, ints), omega (arith, ints))

-- ---- the range of counts

number_in_range : (m z : ℤ) → m ≤ℤ pos 2147483647 → IsUpTo m z → number_fits z ≡ true
number_in_range m z few (low, high) =
    and_from (int_le (negsuc 2147483646) z) (int_le z (pos 2147483647)) (at_least (negsuc 2147483646) z (omega (arith, ints))) (at_least z (pos 2147483647) (omega (arith, ints)))
  where
    at_least : (x y : ℤ) → x ≤ℤ y → int_le x y ≡ true
    at_least x y h = grind (arith, ints)

-- the loads of a subject and a clip
record IsLight (es : List (Entry Windings)) : Type 0 where
  subject : load_of_all (λ (c : Windings). c.subject) es ≤ℤ pos 2147483647
  clip : load_of_all (λ (c : Windings). c.clip) es ≤ℤ pos 2147483647

count_in_range : (es : List (Entry Windings)) → IsLight es → (c : Windings) → IsUpTo (load_of_all (λ (c : Windings). c.subject) es) c.subject
    → IsUpTo (load_of_all (λ (c : Windings). c.clip) es) c.clip → count_fits c ≡ true
count_in_range es light c subject clip =
    and_from (number_fits c.subject) (number_fits c.clip)
    (number_in_range (load_of_all (λ (c : Windings). c.subject) es) c.subject light.subject subject)
    (number_in_range (load_of_all (λ (c : Windings). c.clip) es) c.clip light.clip clip)

not_overfull : (es laid : List (Entry Windings)) → IsLight es → ((s : Edge) → load (λ (c : Windings). c.subject) (is_at s) laid ≤ℤ load_of_all (λ (c : Windings). c.subject) es)
    → ((s : Edge) → load (λ (c : Windings). c.clip) (is_at s) laid ≤ℤ load_of_all (λ (c : Windings). c.clip) es) → IsOverfull boolean count_fits laid → ⊥
not_overfull es laid light subjects clips o =
    false≢true (sym o.too_much
    ∙ count_in_range es light (all_joined boolean o.first o.others) (overfull_up_to subject_additive _ count_fits laid subjects o) (overfull_up_to clip_additive _ count_fits laid clips o))

-- ---- what is held

summed : (n : Windings → ℤ) (es : List (Entry Windings)) → load_of_all n es ≡ pos (sum (map (λ e. unsigned_abs (n e.count)) es))
summed n es = by es ∙ ap (λ m. pos m) (sym (sum-map (λ (e : Entry Windings). unsigned_abs (n e.count)) es))
  where
    both : (a b : ℕ) → pos a +ℤ pos b ≡ pos (a + b)
    both a b = omega (arith, ints)

    by : (es : List (Entry Windings)) → load_of_all n es ≡ pos (sum_by (λ e. unsigned_abs (n e.count)) es)
    by [] = refl
    by (e ∷ es) =
        ap (λ t. size (n e.count) +ℤ t) (by es)
        ∙ (both (unsigned_abs (n e.count)) (sum_by (λ e. unsigned_abs (n e.count)) es) ∙ ap (λ m. pos m) (sym (sum_by-cons (λ (e : Entry Windings). unsigned_abs (n e.count)) e es)))

light_if_summed : (n : Windings → ℤ) (es : List (Entry Windings)) → sum (map (λ e. unsigned_abs (n e.count)) es) < 2 ^ 31 → load_of_all n es ≤ℤ pos 2147483647
light_if_summed n es few = subst (λ t. t ≤ℤ pos 2147483647) (sym (summed n es)) (below (sum (map (λ e. unsigned_abs (n e.count)) es)) few)
  where
    below : (m : ℕ) → m < 2 ^ 31 → pos m ≤ℤ pos 2147483647
    below m h = omega (arith, ints)

-- ---- contours

-- the count of one step
record IsSingle (c : Windings) : Type 0 where
  subject : unsigned_abs c.subject ≤ 1
  clip : unsigned_abs c.clip ≤ 1

single_laid : (c : Windings) → IsSingle c → IsSingle (boolean.turned c) → (taken : List (List Point)) → All (λ e. IsSingle e.count) (flat_map (laid boolean c) taken)
single_laid c one turned [] = All-nil (λ (e : Entry Windings). IsSingle e.count)
single_laid c one turned (t ∷ ts) =
    All-append (λ (e : Entry Windings). IsSingle e.count) (laid boolean c t) (flat_map (laid boolean c) ts)
    (All-weaker (λ (e : Entry Windings). (Unit {0} × Unit {0}) × IsSingle e.count) (λ e. IsSingle e.count) (λ e h. h.1) (laid boolean c t)
    (laid_holds boolean (λ p. Unit {0}) IsSingle c one turned t (λ k d h. tt)))
    (single_laid c one turned ts)

single_sum : (n : Windings → ℤ) (es : List (Entry Windings)) → All (λ e. unsigned_abs (n e.count) ≤ 1) es → sum_by (λ e. unsigned_abs (n e.count)) es ≤ length es
single_sum n [] h = omega arith
single_sum n (e ∷ es) h =
    rw (sum_by-cons (λ (e : Entry Windings). unsigned_abs (n e.count)) e es)
    (omega (arith, All-head (λ (e : Entry Windings). unsigned_abs (n e.count) ≤ 1) e es h, single_sum n es (All-tail (λ (e : Entry Windings). unsigned_abs (n e.count) ≤ 1) e es h)))

sums_of_contours : (keep_all : Bool) (subjects clips : List (List Point)) (held : List (Entry Windings)) → HoldsContours keep_all subjects clips held
    → length held < 2 ^ 31 → SumInRange held
sums_of_contours keep_all subjects clips held holds few = record {
  subject = sums (λ c. c.subject) (All-weaker (λ (e : Entry Windings). IsSingle e.count) (λ e. unsigned_abs e.count.subject ≤ 1) (λ e h. h.subject) held all);
  clip = sums (λ c. c.clip) (All-weaker (λ (e : Entry Windings). IsSingle e.count) (λ e. unsigned_abs e.count.clip ≤ 1) (λ e h. h.clip) held all);
}
  where
    subject_edges : List (Entry Windings)
    subject_edges = flat_map (laid boolean one_subject) holds.taken_subjects

    clip_edges : List (Entry Windings)
    clip_edges = flat_map (laid boolean one_clip) holds.taken_clips

    one : (c : Windings) → unsigned_abs c.subject ≤ 1 → unsigned_abs c.clip ≤ 1 → IsSingle c
    one c h k = record { subject = h; clip = k }

    all : All (λ (e : Entry Windings). IsSingle e.count) held
    all =
        All-permutation (λ (e : Entry Windings). IsSingle e.count) (subject_edges ++ clip_edges) held holds.is
        (All-append (λ (e : Entry Windings). IsSingle e.count) subject_edges clip_edges
        (single_laid one_subject (one one_subject (omega arith) (omega arith)) (one (boolean.turned one_subject) (omega arith) (omega arith)) holds.taken_subjects)
        (single_laid one_clip (one one_clip (omega arith) (omega arith)) (one (boolean.turned one_clip) (omega arith) (omega arith)) holds.taken_clips))

    sums : (n : Windings → ℤ) → All (λ e. unsigned_abs (n e.count) ≤ 1) held → sum (map (λ e. unsigned_abs (n e.count)) held) < 2 ^ 31
    sums n h = rw (sum-map (λ (e : Entry Windings). unsigned_abs (n e.count)) held) (omega (arith, single_sum n held h, few))

module _ (marks_stay : WholeMarksStay) (stand : MarksStandAlong) (one_pass : (precision : Precision) → OnePassIsEnough boolean precision)
    (rests : (precision : Precision) → ComesToRest boolean precision)
    (rearranges : (precision : Precision) (k : ℕ) → Rearranges boolean (λ es. pass boolean precision es k)) (keep : WholeMeetingsKeepWindings) where
  not_refused : (least greatest : ℤ) (precision : Precision) (held : List (Entry Windings)) → IsHeld least greatest held → MeetsWhole held → SumInRange held
      → IsQueryRefused precision held Count → ⊥
  not_refused least greatest precision held is_held whole few = refused
    where
      es : List (Entry Windings)
      es = normal boolean held

      normal_es : IsNormal boolean es
      normal_es = normal_is_normal boolean held is_held.directed

      light_held : IsLight held
      light_held = record { subject = light_if_summed (λ c. c.subject) held few.subject; clip = light_if_summed (λ c. c.clip) held few.clip }

      light : IsLight es
      light = record {
        subject = up_through _ _ _ (load_of_normal subject_additive (λ s. true) held) light_held.subject;
        clip = up_through _ _ _ (load_of_normal clip_additive (λ s. true) held) light_held.clip;
      }

      in_pass : (k : ℕ) → IsOverfull boolean count_fits (steps_in boolean precision (iterate boolean precision es k) k) → ⊥
      in_pass k =
          not_overfull es (steps_in boolean precision (iterate boolean precision es k) k) light
          (load_in_pass marks_stay stand one_pass rests rearranges precision es normal_es whole subject_additive k)
          (load_in_pass marks_stay stand one_pass rests rearranges precision es normal_es whole clip_additive k)

      once : redrawn_of precision held ≡ pass boolean precision es 0
      once = (one_pass precision).is_last es 0 normal_es whole

      side_in_range : (e : Entry Windings) → Contains (pass boolean precision es 0) e → count_fits (upper_side (redrawn_of precision held) e) ≡ true
      side_in_range e there =
          let wound = keep.redrawn_winds precision es (middle e.edge) normal_es whole in
          ap (λ w. count_fits (boolean.join w e.count)) wound
          ∙ count_in_range es light (boolean.join (winding es (middle e.edge)) e.count)
          (side_up_to marks_stay stand one_pass rests rearranges precision es normal_es whole subject_additive e there)
          (side_up_to marks_stay stand one_pass rests rearranges precision es normal_es whole clip_additive e there)

      refused : IsQueryRefused precision held Count → ⊥
      refused (inl (inl given)) =
          not_overfull held held light_held (λ s. load_of_part (λ (c : Windings). c.subject) (is_at s) held) (λ s. load_of_part (λ (c : Windings). c.clip) (is_at s) held) given
      refused (inl (inr (k, over))) = in_pass k over
      refused (inr (e, there, out)) = false≢true (sym out ∙ side_in_range e (subst (λ fs. Contains fs e) once there))

  pub counts_never_leave_their_range : CountsNeverLeaveTheirRange
  counts_never_leave_their_range = record { of_held = not_refused; of_contours = sums_of_contours }
