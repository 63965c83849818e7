-- Entries cut apart by slope at the marks that pairs with a slanted edge lay.
use Rattle.std.proofs.Common.{◌≡◌, ◌≢◌, ◌==◌, ℕ, ◌<◌, ◌&&◌, Bool, true, false, not, cond, List, [], ◌∷◌, ◌++◌, length, map, flat_map, filter, All, AllPairs, Contains, IsPermutation, ◌⊎◌, inl, inr, slice_index_or, get_or, append-nil, refl, sym, ap, ap₂, subst, ◌∙◌, ℤ, neg_ℤ, pos, ◌*ℤ◌, ◌<ℤ◌, ◌≤ℤ◌, arith}
use Rattle.std.specs.declared.cmp.Ordering.TheVariants.{Less, Greater}
use Rattle.std.specs.Ordering.{is_eq, ordering_then}
use Rattle.std.proofs.lemmas.Bool.{cases_order, false≢true}
use Rattle.std.proofs.lemmas.Grind.{flat_map-append}
use Rattle.std.proofs.lemmas.List.{map-append}
use Rattle.std.proofs.lemmas.List.Elements.{All-nil, All-cons, All-head, All-tail, All-append, All-weaker, All-contains, filter-append}
use Rattle.std.proofs.lemmas.List.Sorted.{IsPermutation-refl, IsPermutation-trans, IsPermutation-map, All-permutation, Contains-permutation}
use Rattle.i_tree.proofs.Keys.Members.{Contains-from_filter}
use Rattle.plane_base.specs.Plane.{Point, Edge, is_before, point_order, edge_order}
use Rattle.plane_base.specs.Counts.{Count, Counting, Entry, boolean, IsNormal, lay}
use Rattle.plane_base.specs.Given.{laid_path}
use Rattle.plane_base.specs.Crossing.{Marks}
use Rattle.plane_base.specs.declared.rounding.Rounding.TheVariants.{Nearest}
use Rattle.plane_base.proofs.Facts.Lists.Views.{none_first}
use Rattle.plane_base.proofs.Facts.Maps.Laying.{lay_by, laid_path_directed}
use Rattle.plane_base.proofs.Facts.Points.Orders.{edge_total, edge_equal, edge_itself, is_equal, less_apart, before_is_less}
use Rattle.segment_split.specs.LineLaws.{is_rectilinear}
use Rattle.segment_split.specs.MarkLists.{LaidMark, IsAt, IsLaid, HasMark, AreInPlace}
use Rattle.segment_split.specs.Mixed.{is_one_slanted, AreSlantedMarks, lines_among, slanted_among, laid_through, ArePartsApart, IsCutApart}
use Rattle.segment_split.specs.Passes.{edges_of, marks_in, marks_on, cut, all_cut, all_cut_at}
use Rattle.segment_split.specs.Paths.{path}
use Rattle.segment_split.specs.RedrawLaws.{with_counts}
use Rattle.segment_split.specs.SegmentViews.{AreSorted}
use Rattle.segment_split.specs.Sums.{of_count, IsAdded}
use Rattle.segment_split.specs.Sweeps.{AreInOrder}
use Rattle.segment_split.specs.TurnLaws.{AreFirstCuts}
use Rattle.segment_split.specs.declared.solver.Precision.{Precision}
use Rattle.segment_split.proofs.Facts.Marks.{marks_exchanged}
use Rattle.segment_split.proofs.Passes.Last.{joined_from, joined_tells}
use Rattle.segment_split.proofs.Passes.MarkLists.{at_same, contains_at, rises, edges_rising, no_items}
use Rattle.segment_split.proofs.Passes.Parts.{filter_normal}
use Rattle.segment_split.proofs.Passes.Unmarked.{unless_parted, parted_itself}
use Rattle.segment_split.proofs.Redrawing.Counts.{with_count_of, counts_path}
use Rattle.segment_split.proofs.Redrawing.Runs.{IsLeft, cut_by_points}
use Rattle.segment_split.proofs.Redrawing.Sums.{sums_normal}
use Rattle.segment_split.proofs.Stops.Sweeping.{normal_in_order}
use Rattle.segment_split.proofs.Whole.InTurn.{edge_at, entry_of}
use Rattle.segment_split.proofs.Whole.Neighbours.{contained, contains_no}

-- ---- one entry more

module _ {C : Type 0} (f : Entry C → List (Entry C)) (p : Entry C → Bool) (es : List (Entry C)) (e : Entry C) where
  pub chosen_next : flat_map f (filter p (es ++ e ∷ [])) ≡ flat_map f (filter p es) ++ cond (p e) (f e) []
  chosen_next =
      ap (flat_map f) (filter-append p es (e ∷ []))
      ∙ (flat_map-append f (filter p es) (cond (p e) (e ∷ []) []) ∙ ap (λ l. flat_map f (filter p es) ++ l) (by (p e)))
    where
      by : (b : Bool) → flat_map f (cond b (e ∷ []) []) ≡ cond b (f e) []
      by true = append-nil (f e)
      by false = refl

-- ---- the marks on one edge of the list

-- the points of the marks whose segment is this edge
abbrev pub base_of : List Edge → List LaidMark → Edge → List Point
base_of es laid s = flat_map (λ m. cond (is_eq (edge_order (slice_index_or es m.segment s) s)) (m.point ∷ []) []) laid

one_point : (b : Bool) (q p : Point) → Contains (cond b (q ∷ []) []) p → (b ≡ true) × (q ≡ p)
one_point true q p h = by (contained q [] p h)
  where
    by : (q ≡ p) ⊎ Contains [] p → (true ≡ true) × (q ≡ p)
    by (inl e) = (refl, e)
    by (inr k) = absurd (contains_no p k)
one_point false q p h = absurd (contains_no p h)

slanted_turned : (a b : Bool) → not (a && b) ≡ true → not (b && a) ≡ true
slanted_turned true true h = h
slanted_turned true false h = refl
slanted_turned false true h = refl
slanted_turned false false h = refl

slanted_first : (a b : Bool) → a ≡ false → not (a && b) ≡ true
slanted_first true b h = absurd (false≢true (sym h))
slanted_first false b h = refl

slanted_second : (a b : Bool) → b ≡ false → not (a && b) ≡ true
slanted_second true b h = ap not h
slanted_second false b h = refl

module _ (stride least greatest : ℤ) (precision : Precision) (k : ℕ) (es : List Edge) (rising : AllPairs (λ s t. edge_order s t ≡ Less) es) (laid : List LaidMark)
    (h : AreSlantedMarks stride least greatest precision k es laid) where
  abbrev lays : Edge → Edge → Marks
  lays = marks_in precision k

  -- each edge stands once
  number_same : (i j : ℕ) (s : Edge) → IsAt es i s → IsAt es j s → i ≡ j
  number_same i j s at there = by (cases_order i j)
    where
      not_before : (i j : ℕ) → IsAt es i s → IsAt es j s → i < j → ⊥
      not_before i j at there l = less_apart edge_total s s (rises stride least greatest Nearest es rising i j s s l at there) refl

      by : (i ≡ j) ⊎ ((i < j) ⊎ (j < i)) → i ≡ j
      by (inl e) = e
      by (inr (inl l)) = absurd (not_before i j at there l)
      by (inr (inr l)) = absurd (not_before j i there at l)

  module _ (i : ℕ) (s : Edge) (at : IsAt es i s) (p : Point) where
    -- what is laid on the edge is laid by some edge of the list
    mark_from : HasMark laid i p → Contains (marks_on lays es s) p
    mark_from (m, there, is, same) =
        let own = All-contains (IsLaid stride least greatest lays es) laid m h.only there in
        subst (λ u. Contains (marks_on lays es u) p) (at_same es i own.edge s (subst (λ n. IsAt es n own.edge) is own.at) at) (subst (Contains (marks_on lays es own.edge)) same own.laid)

    -- and what a slanted edge lays on it, or any one where it is slanted, is there
    mark_to : (t : Edge) → Contains es t → is_one_slanted s t ≡ true → Contains (lays s t).first p → HasMark laid i p
    mark_to t in_t slanted c = let found = contains_at es t in_t in by found.0 found.1 (cases_order i found.0)
      where
        by : (j : ℕ) → IsAt es j t → (i ≡ j) ⊎ ((i < j) ⊎ (j < i)) → HasMark laid i p
        by j there (inl e) =
            let same : t ≡ s = at_same es j t s there (subst (λ n. IsAt es n s) e at) in
            absurd (contains_no p (subst (λ m. Contains m.first p) (ap (lays s) same ∙ (unless_parted precision k s s).1 (parted_itself s)) c))
        by j there (inr (inl l)) = All-contains (HasMark laid i) (lays s t).first p (h.all i j s t l at there slanted).0 c
        by j there (inr (inr l)) =
            All-contains (HasMark laid i) (lays t s).second p (h.all j i t s l there at (slanted_turned (is_rectilinear s) (is_rectilinear t) slanted)).1
            (subst (λ ps. Contains ps p) (ap (λ m. m.first) (marks_exchanged precision k t s (less_apart edge_total t s (rises stride least greatest Nearest es rising j i t s l there at)))) c)

    base_has : (Contains (base_of es laid s) p → HasMark laid i p) × (HasMark laid i p → Contains (base_of es laid s) p)
    base_has = (
      λ c.
          let found = joined_tells (λ m. cond (is_eq (edge_order (slice_index_or es m.segment s) s)) (m.point ∷ []) []) laid p c in
          let m = found.0 in
          let own = All-contains (IsLaid stride least greatest lays es) laid m h.only found.1 in
          let both = one_point (is_eq (edge_order (slice_index_or es m.segment s) s)) m.point p found.2 in
          let same : slice_index_or es m.segment s ≡ s = edge_equal (slice_index_or es m.segment s) s (is_equal (edge_order (slice_index_or es m.segment s) s) both.0) in
          (m, found.1, number_same m.segment i s (own.at.0, sym same) at, both.1),
      λ has.
          let m = has.0 in
          let same : slice_index_or es m.segment s ≡ s = sym (subst (λ n. IsAt es n s) (sym has.2) at).1 in
          let yes : is_eq (edge_order (slice_index_or es m.segment s) s) ≡ true = ap is_eq (ap (λ t. edge_order t s) same ∙ edge_itself s) in
          joined_from (λ m. cond (is_eq (edge_order (slice_index_or es m.segment s) s)) (m.point ∷ []) []) laid m p has.1
          (subst (λ b. Contains (cond b (m.point ∷ []) []) p) (sym yes) (0, omega arith, has.3)),
    )

    -- all marks on a slanted edge are there
    slanted_has : is_rectilinear s ≡ false → (Contains (marks_on lays es s) p → HasMark laid i p) × (HasMark laid i p → Contains (marks_on lays es s) p)
    slanted_has slanted = (
      λ c. let found = joined_tells (λ t. (lays s t).first) es p c in
          mark_to found.0 found.1 (slanted_first (is_rectilinear s) (is_rectilinear found.0) slanted) found.2,
      mark_from,
    )

-- ---- marks in another order

pub slanted_permuted : (stride least greatest : ℤ) (precision : Precision) (k : ℕ) (es : List Edge) (laid other : List LaidMark) → IsPermutation laid other
    → AreSlantedMarks stride least greatest precision k es laid → AreSlantedMarks stride least greatest precision k es other
slanted_permuted stride least greatest precision k es laid other same h = record {
  only = All-permutation (IsLaid stride least greatest (marks_in precision k) es) laid other same h.only;
  all = λ i j s t l at there slanted.
      let pair = h.all i j s t l at there slanted in (
        All-weaker (HasMark laid i) (HasMark other i) (moved i) (marks_in precision k s t).first pair.0,
        All-weaker (HasMark laid j) (HasMark other j) (moved j) (marks_in precision k s t).second pair.1,
      );
}
  where
    moved : (i : ℕ) (p : Point) → HasMark laid i p → HasMark other i p
    moved i p h = (h.0, Contains-permutation laid other h.0 same h.1, h.2, h.3)

-- ---- entries

module _ {C : Type 0} where
  pub chosen_edge : (p : Entry C → Bool) (es : List (Entry C)) (s : Edge) → Contains (edges_of (filter p es)) s → (e : Entry C) × Contains es e × (p e ≡ true) × (e.edge ≡ s)
  chosen_edge p es s at =
      let k = entry_of (filter p es) s at in
      let from = Contains-from_filter p es k.0 k.1 in
      (k.0, from.0, from.1, k.2)

is_not : (b : Bool) → not b ≡ true → b ≡ false
is_not true h = absurd (false≢true h)
is_not false h = refl

module _ (stride least greatest : ℤ) {C : Type 0} (kind : Counting C) (es : List (Entry C)) (normal : IsNormal kind es) (laid : List LaidMark) where
  abbrev base : Edge → List Point
  base = base_of (edges_of es) laid

  pub first_cuts : (precision : Precision) (k : ℕ) → AreSlantedMarks stride least greatest precision k (edges_of es) laid
      → AreFirstCuts precision k (edges_of es) (edges_of (lines_among es)) (edges_of (slanted_among es)) base
  first_cuts precision k h = record {
    marked = λ s p at c.
        let line = chosen_edge (λ e. is_rectilinear e.edge) es s at in
        let here = contains_at (edges_of es) s (subst (Contains (edges_of es)) line.3 (edge_at es line.0 line.1)) in
        let found = joined_tells (λ t. (marks_in precision k s t).first) (edges_of (slanted_among es)) p c in
        let other = chosen_edge (λ e. not (is_rectilinear e.edge)) es found.0 found.1 in
        (base_has stride least greatest precision k (edges_of es) (edges_rising es normal) laid h here.0 s here.1 p).1
        (mark_to stride least greatest precision k (edges_of es) (edges_rising es normal) laid h here.0 s here.1 p found.0
        (subst (Contains (edges_of es)) other.3 (edge_at es other.0 other.1))
        (slanted_second (is_rectilinear s) (is_rectilinear found.0) (subst (λ t. is_rectilinear t ≡ false) other.3 (is_not (is_rectilinear other.0.edge) other.2))) found.2);
    only = λ s p at c.
        let line = chosen_edge (λ e. is_rectilinear e.edge) es s at in
        let here = contains_at (edges_of es) s (subst (Contains (edges_of es)) line.3 (edge_at es line.0 line.1)) in
        mark_from stride least greatest precision k (edges_of es) (edges_rising es normal) laid h here.0 s here.1 p
        ((base_has stride least greatest precision k (edges_of es) (edges_rising es normal) laid h here.0 s here.1 p).0 c);
  }

  -- ---- the entry i, with its run of marks

  module _ (rest run more : List LaidMark) (i : ℕ) (in_place : AreInPlace laid) (left : IsLeft laid rest i) (parts : rest ≡ run ++ more) (own : All (λ m. m.segment ≡ i) run)
      (apart : (m : LaidMark) (after : List LaidMark) → more ≡ m ∷ after → m.segment ≢ i) (span : ℤ) (strides : (pos 2 *ℤ span) <ℤ stride) (reach : (neg_ℤ span ≤ℤ least) × (greatest ≤ℤ span))
      (e : Entry C) (at : IsAt (edges_of es) i e.edge) (before : List (Entry C)) where
    module _ (precision : Precision) (k : ℕ) (h : AreSlantedMarks stride least greatest precision k (edges_of es) laid) where
      through_points : (ps : List Point) → ((p : Point) → (Contains ps p → HasMark laid i p) × (HasMark laid i p → Contains ps p)) → laid_through kind e run ≡ laid_path kind e.count (path e.edge ps)
      through_points ps same =
          cut_by_points laid rest run more i in_place left parts own apart stride least greatest span strides reach (marks_in precision k) (edges_of es) h.only e.edge at kind e.count ps same

      -- horizontal and vertical entries are cut at first
      pub line_next : (lines new : List (Entry C)) → new ≡ lines ++ cond (is_rectilinear e.edge) (laid_through kind e run) []
          → lines ≡ all_cut_at kind base (lines_among before) → new ≡ all_cut_at kind base (lines_among (before ++ e ∷ []))
      line_next lines new told so_far =
          told
          ∙ (ap₂ (λ l m. l ++ cond (is_rectilinear e.edge) m []) so_far
          (through_points (base e.edge) (base_has stride least greatest precision k (edges_of es) (edges_rising es normal) laid h i e.edge at))
          ∙ sym (chosen_next (λ e. laid_path kind e.count (path e.edge (base e.edge))) (λ e. is_rectilinear e.edge) before e))

      -- slanted ones wholly
      pub other_next : (others new : List (Entry C)) → new ≡ others ++ cond (is_rectilinear e.edge) [] (laid_through kind e run)
          → others ≡ all_cut kind (marks_in precision k) (edges_of es) (slanted_among before)
          → new ≡ all_cut kind (marks_in precision k) (edges_of es) (slanted_among (before ++ e ∷ []))
      other_next others new told so_far =
          told
          ∙ (ap₂ (λ l m. l ++ m) so_far (by (is_rectilinear e.edge) refl)
          ∙ sym (chosen_next (cut kind (marks_in precision k) (edges_of es)) (λ e. not (is_rectilinear e.edge)) before e))
        where
          by : (b : Bool) → is_rectilinear e.edge ≡ b → cond b [] (laid_through kind e run) ≡ cond (not b) (cut kind (marks_in precision k) (edges_of es) e) []
          by true slope = refl
          by false slope =
              through_points (marks_on (marks_in precision k) (edges_of es) e.edge)
              (λ p. slanted_has stride least greatest precision k (edges_of es) (edges_rising es normal) laid h i e.edge at p slope)

  -- ---- all of them

  pub parts_apart : (of : Count → C) (lines : List (Entry Count)) (others : List (Entry C)) (precision : Precision) (k : ℕ) → AreSlantedMarks stride least greatest precision k (edges_of es) laid
      → with_counts of lines ≡ all_cut_at kind base (lines_among es) → others ≡ all_cut kind (marks_in precision k) (edges_of es) (slanted_among es)
      → ArePartsApart kind of precision k es lines others
  parts_apart of lines others precision k h are rest = record {
    base = base;
    first = first_cuts precision k h;
    lines_are = subst (IsPermutation (all_cut_at kind base (lines_among es))) (sym are) (IsPermutation-refl (all_cut_at kind base (lines_among es)));
    others_are = rest;
  }

-- ---- where nothing is marked

module _ {C : Type 0} (kind : Counting C) where
  through_none : (e : Entry C) → is_before e.edge.a e.edge.b ≡ true → laid_through kind e [] ≡ e ∷ []
  through_none e forward = append-nil (lay kind e.edge.a e.edge.b e.count) ∙ ap (λ o. lay_by kind o e.edge.a e.edge.b e.count) (before_is_less e.edge.a e.edge.b forward)

  pub none_next : (e : Entry C) (run : List LaidMark) (before lines new : List (Entry C)) → is_before e.edge.a e.edge.b ≡ true → run ≡ []
      → new ≡ lines ++ cond (is_rectilinear e.edge) (laid_through kind e run) [] → lines ≡ lines_among before → new ≡ lines_among (before ++ e ∷ [])
  none_next e run before lines new forward none told so_far =
      told
      ∙ (ap₂ (λ l m. l ++ cond (is_rectilinear e.edge) m []) so_far (ap (laid_through kind e) none ∙ through_none e forward)
      ∙ sym (filter-append (λ e. is_rectilinear e.edge) before (e ∷ [])))

-- ---- pieces are directed

abbrev pub AreDirected : {C : Type 0} → List (Entry C) → Type 0
AreDirected es = All (λ e. is_before e.edge.a e.edge.b ≡ true) es

module _ {C : Type 0} (kind : Counting C) where
  pub directed_next : (e : Entry C) (run : List LaidMark) (lines new : List (Entry C)) → new ≡ lines ++ cond (is_rectilinear e.edge) (laid_through kind e run) []
      → AreDirected lines → AreDirected new
  directed_next e run lines new told so_far =
      subst AreDirected (sym told) (All-append (λ e. is_before e.edge.a e.edge.b ≡ true) lines (cond (is_rectilinear e.edge) (laid_through kind e run) []) so_far (by (is_rectilinear e.edge)))
    where
      by : (b : Bool) → AreDirected (cond b (laid_through kind e run) [])
      by true = laid_path_directed kind e.count (e.edge.a ∷ (map (λ m. m.point) run ++ (e.edge.b ∷ [])))
      by false = All-nil (λ e. is_before e.edge.a e.edge.b ≡ true)

-- what is told of edges goes with any counts
pub directed_sums : {C D : Type 0} (f : C → D) (es : List (Entry C)) → AreDirected (with_counts f es) → AreDirected es
directed_sums f [] h = All-nil (λ e. is_before e.edge.a e.edge.b ≡ true)
directed_sums {C} {D} f (e ∷ es) h =
    All-cons (λ e. is_before e.edge.a e.edge.b ≡ true) e es (All-head (λ (e : Entry D). is_before e.edge.a e.edge.b ≡ true) (with_count_of f e) (with_counts f es) h)
    (directed_sums f es (All-tail (λ (e : Entry D). is_before e.edge.a e.edge.b ≡ true) (with_count_of f e) (with_counts f es) h))

-- ---- of no marks none are left

pub none_left : {X : Type 0} (f : X → LaidMark) (marks run : List X) (rest more : List LaidMark) (i : ℕ) → IsLeft (map f marks) rest i → rest ≡ map f run ++ more → length marks ≡ 0
    → map f run ≡ []
none_left f marks run rest more i left parts none = first left.done (map f run) more (sym (left.is ∙ ap (λ l. left.done ++ l) parts) ∙ ap (map f) (no_items marks (length marks) refl none))
  where
    first : (done run more : List LaidMark) → done ++ (run ++ more) ≡ [] → run ≡ []
    first [] [] more e = refl
    first [] (m ∷ run) more e = absurd (cc)
    first (d ∷ done) run more e = absurd (cc)

-- ---- sums laid for counts

module _ {C : Type 0} {kind : Counting C} {fits : C → Bool} {of : ℤ → ℤ → C} (added : IsAdded kind fits of) where
  pub sums_laid : (key : Entry Count) (e : Entry C) (run : List LaidMark) (lines new : List (Entry Count)) → key.edge ≡ e.edge → of_count of key.count ≡ e.count
      → is_rectilinear e.edge ≡ true → new ≡ lines ++ laid_through boolean key run
      → with_counts (of_count of) new ≡ with_counts (of_count of) lines ++ cond (is_rectilinear e.edge) (laid_through kind e run) []
  sums_laid key e run lines new edge count level told =
      let f = of_count of in
      let points : Edge → List Point = λ s. s.a ∷ (map (λ m. m.point) run ++ (s.b ∷ [])) in
      ap (with_counts f) told
      ∙ (map-append (with_count_of f) lines (laid_through boolean key run)
      ∙ ap (λ l. with_counts f lines ++ l)
      (counts_path added.map key.count (points key.edge) ∙ (ap₂ (λ c s. laid_path kind c (points s)) count edge ∙ ap (λ b. cond b (laid_through kind e run) []) (sym level))))

-- ---- pieces in another order, and marks

module _ {C : Type 0} (kind : Counting C) (of : Count → C) (es : List (Entry C)) where
  pub parts_permuted : (precision : Precision) (k : ℕ) (lines sorted : List (Entry Count)) (others : List (Entry C)) → IsPermutation lines sorted
      → ArePartsApart kind of precision k es lines others → ArePartsApart kind of precision k es sorted others
  parts_permuted precision k lines sorted others same h = record {
    base = h.base;
    first = h.first;
    lines_are =
        IsPermutation-trans (all_cut_at kind h.base (lines_among es)) (with_counts of lines) (with_counts of sorted) h.lines_are
        (IsPermutation-map (with_count_of of) lines sorted same);
    others_are = h.others_are;
  }

  pub cut_permuted : (stride least greatest : ℤ) (found laid : List LaidMark) (lines sorted : List (Entry Count)) (others : List (Entry C)) → IsPermutation found laid → IsPermutation lines sorted
      → IsCutApart stride least greatest kind of laid es lines others → IsCutApart stride least greatest kind of found es sorted others
  cut_permuted stride least greatest found laid lines sorted others marks same h precision k marked =
      parts_permuted precision k lines sorted others same (h precision k (slanted_permuted stride least greatest precision k (edges_of es) found laid marks marked))

-- ---- pieces in order

pub sorted_in_order : (es : List (Entry Count)) → AreDirected es → AreSorted es → AreInOrder es
sorted_in_order es directed sorted = record { directed = directed; firsts = λ i j d l m. by_first (get_or es i d) (get_or es j d) (sorted i j d l m) }
  where
    by_first : (e f : Entry Count) → edge_order e.edge f.edge ≢ Greater → point_order e.edge.a f.edge.a ≢ Greater
    by_first e f h greater = h (ap (λ o. ordering_then o (point_order e.edge.b f.edge.b)) greater)

pub lines_in_order : {C : Type 0} {kind : Counting C} {fits : C → Bool} {of : ℤ → ℤ → C} → IsAdded kind fits of → (es : List (Entry C)) (lines : List (Entry Count)) → IsNormal kind es
    → with_counts (of_count of) lines ≡ lines_among es → AreInOrder lines
lines_in_order {kind = kind} added es lines normal same =
    normal_in_order lines (sums_normal added lines (subst (IsNormal kind) (sym same) (filter_normal (λ e. is_rectilinear e.edge) es normal)))

-- ---- whether there are marks

pub are_marked : {X : Type 0} {b : Bool} (xs : List X) (n : ℕ) → length xs ≡ n → b ≡ (n == 0) → (not b ≡ false → xs ≡ []) × (xs ≡ [] → not b ≡ false)
are_marked xs n long told = (
  λ h. no_items xs n long (none_first n told (is_true _ h)),
  λ none. ap not (told ∙ ap (λ m. m == 0) (sym long ∙ ap length none)),
)
  where
    is_true : (b : Bool) → not b ≡ false → b ≡ true
    is_true true h = refl
    is_true false h = absurd (false≢true (sym h))
