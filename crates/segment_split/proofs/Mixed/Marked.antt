-- Whether the first pass over mixed edges marks any.
use Rattle.std.specs.Prelude.{◌≡◌, ◌↔◌, ◌<◌, ◌&&◌, ◌⊎◌, ℕ, ℤ, Bool, true, false, not, List, [], ◌∷◌, All, AllPairs, Contains}
use Rattle.std.specs.declared.cmp.Ordering.TheVariants.{Less}
use Rattle.std.proofs.Common.{refl, sym, ap, ◌∙◌, subst, inl, inr, arith}
use Rattle.std.proofs.lemmas.Bool.{cases_order, false≢true}
use Rattle.std.proofs.lemmas.List.Elements.{All-contains, All-filter, All-map}
use Rattle.plane_base.specs.Plane.{Point, Edge, edge_order}
use Rattle.plane_base.specs.Counts.{Count, Counting, Entry, boolean, IsNormal}
use Rattle.plane_base.specs.Crossing.{no_marks, exchanged}
use Rattle.plane_base.specs.declared.rounding.Rounding.TheVariants.{Nearest}
use Rattle.plane_base.proofs.Facts.Points.Orders.{edge_total, less_apart}
use Rattle.segment_split.specs.LineLaws.{is_rectilinear}
use Rattle.segment_split.specs.MarkLists.{LaidMark, IsAt, IsLaid, HasMark, HasPair}
use Rattle.segment_split.specs.Mixed.{is_one_slanted, AreSlantedMarks, lines_among}
use Rattle.segment_split.specs.Passes.{edges_of, marks_in, MarksSome}
use Rattle.segment_split.specs.Redrawing.{MarksInPass}
use Rattle.segment_split.specs.RedrawLaws.{with_counts}
use Rattle.segment_split.specs.Sums.{of_count, IsAdded}
use Rattle.segment_split.specs.declared.solver.Precision.{Precision}
use Rattle.segment_split.proofs.BucketTrees.Met.{contains_filtered}
use Rattle.segment_split.proofs.Facts.Marks.{marks_exchanged}
use Rattle.segment_split.proofs.Mixed.Looks.{edges_of_lines}
use Rattle.segment_split.proofs.Passes.Last.{joined_tells}
use Rattle.segment_split.proofs.Passes.MarkLists.{at_same, at_contains, contains_at, edges_rising, rises}
use Rattle.segment_split.proofs.Passes.Parts.{filter_normal}
use Rattle.segment_split.proofs.Passes.Unmarked.{unless_parted, parted_itself}
use Rattle.segment_split.proofs.Redrawing.Ends.{marks_from_the_first}
use Rattle.segment_split.proofs.Redrawing.Sums.{sums_normal, sums_edges}
use Rattle.segment_split.proofs.Spread.Lists.{edges_contain}
use Rattle.segment_split.proofs.Whole.Neighbours.{contains_no}

module _ (stride least greatest : ℤ) (precision : Precision) (k : ℕ) (es : List Edge) (rising : AllPairs (λ s t. edge_order s t ≡ Less) es) where
  -- a mark that is laid
  marked_by_one : (m : LaidMark) → IsLaid stride least greatest (marks_in precision k) es m → MarksSome (marks_in precision k) es
  marked_by_one m own =
      let found = joined_tells (λ t. (marks_in precision k own.edge t).first) es m.point own.laid in
      (own.edge, found.0, at_contains es m.segment own.edge own.at, found.1, λ none. contains_no m.point (subst (λ n. Contains n.first m.point) none found.2))

  none_has : (i : ℕ) (ps : List Point) → All (HasMark [] i) ps → ps ≡ []
  none_has i [] h = refl
  none_has i (p ∷ ps) h = let one : HasMark [] i p = h 0 p (omega arith) in absurd (contains_no one.0 one.1)

  -- where no pair with a slanted edge lays one
  module _ (h : AreSlantedMarks stride least greatest precision k es []) where
    slanted_pair : (i j : ℕ) (u v : Edge) → i < j → IsAt es i u → IsAt es j v → is_one_slanted u v ≡ true → marks_in precision k u v ≡ no_marks
    slanted_pair i j u v l at there one =
        let both : HasPair [] i j (marks_in precision k u v) = h.all i j u v l at there one in
        let first : (marks_in precision k u v).first ≡ [] = none_has i (marks_in precision k u v).first both.0 in
        let second : (marks_in precision k u v).second ≡ [] = none_has j (marks_in precision k u v).second both.1 in
        λ n. record { first = first n; second = second n }

    either_way : (u v : Edge) → is_one_slanted u v ≡ true → is_one_slanted v u ≡ true
    either_way u v = by (is_rectilinear u) (is_rectilinear v)
      where
        by : (b c : Bool) → not (b && c) ≡ true → not (c && b) ≡ true
        by true true e = e
        by true false e = e
        by false true e = e
        by false false e = e

    slanted_none : (u v : Edge) → Contains es u → Contains es v → is_one_slanted u v ≡ true → marks_in precision k u v ≡ no_marks
    slanted_none u v in_u in_v one =
        let here = contains_at es u in_u in
        let yonder = contains_at es v in_v in
        by here.0 yonder.0 here.1 yonder.1 (cases_order here.0 yonder.0)
      where
        by : (i j : ℕ) → IsAt es i u → IsAt es j v → (i ≡ j) ⊎ ((i < j) ⊎ (j < i)) → marks_in precision k u v ≡ no_marks
        by i j at there (inl e) =
            ap (marks_in precision k u) (at_same es j v u there (subst (λ n. IsAt es n u) e at)) ∙ (unless_parted precision k u u).1 (parted_itself u)
        by i j at there (inr (inl l)) = slanted_pair i j u v l at there one
        by i j at there (inr (inr l)) =
            marks_exchanged precision k v u (less_apart edge_total v u (rises stride least greatest Nearest es rising j i v u l there at))
            ∙ ap exchanged (slanted_pair j i v u l there at (either_way u v one))

-- horizontal and vertical entries that aren't cut
pub uncut_normal : {C : Type 0} {kind : Counting C} {fits : C → Bool} {of : ℤ → ℤ → C} → IsAdded kind fits of → (es : List (Entry C)) → IsNormal kind es
    → (lines : List (Entry Count))
    → with_counts (of_count of) lines ≡ lines_among es → IsNormal boolean lines
uncut_normal {kind = kind} added es h lines uncut =
    sums_normal added lines (subst (IsNormal kind) (sym uncut) (filter_normal (λ e. is_rectilinear e.edge) es h))

module _ (stride least greatest : ℤ) (precision : Precision) {C : Type 0} {kind : Counting C} {fits : C → Bool} {of : ℤ → ℤ → C} (added : IsAdded kind fits of)
    (es : List (Entry C)) (h : IsNormal kind es) (laid : List LaidMark) (found : AreSlantedMarks stride least greatest precision 0 (edges_of es) laid) where
  abbrev Marks_some : Type 0
  Marks_some = MarksSome (marks_in precision 0) (edges_of es)

  some : (laid ≡ [] → ⊥) → Marks_some
  some = by laid found.only
    where
      by : (l : List LaidMark) → All (IsLaid stride least greatest (marks_in precision 0) (edges_of es)) l → (l ≡ [] → ⊥) → Marks_some
      by [] all none = absurd (none refl)
      by (m ∷ l) all none = marked_by_one stride least greatest precision 0 (edges_of es) (edges_rising es h) m (all 0 m (omega arith))

  -- where they lay none, horizontal and vertical edges are all that may be marked
  module _ (none : laid ≡ []) where
    slanted : AreSlantedMarks stride least greatest precision 0 (edges_of es) []
    slanted = subst (AreSlantedMarks stride least greatest precision 0 (edges_of es)) none found

    to_lines : Marks_some → MarksSome (marks_in precision 0) (edges_of (lines_among es))
    to_lines (s, t, in_s, in_t, marks) = by (is_rectilinear s) (is_rectilinear t) refl refl
      where
        in_lines : (u : Edge) → Contains (edges_of es) u → is_rectilinear u ≡ true → Contains (edges_of (lines_among es)) u
        in_lines u at line = subst (λ l. Contains l u) (sym (edges_of_lines es)) (contains_filtered is_rectilinear (edges_of es) u at line)

        not_slanted : is_one_slanted s t ≡ true → ⊥
        not_slanted one = marks (slanted_none stride least greatest precision 0 (edges_of es) (edges_rising es h) slanted s t in_s in_t one)

        by : (b c : Bool) → is_rectilinear s ≡ b → is_rectilinear t ≡ c → MarksSome (marks_in precision 0) (edges_of (lines_among es))
        by true true e f = (s, t, in_lines s in_s e, in_lines t in_t f, marks)
        by true false e f = absurd (not_slanted (ap (λ b. not (b && is_rectilinear t)) e ∙ ap not f))
        by false c e f = absurd (not_slanted (ap (λ b. not (b && is_rectilinear t)) e))

    from_lines : MarksSome (marks_in precision 0) (edges_of (lines_among es)) → Marks_some
    from_lines (s, t, in_s, in_t, marks) = (s, t, in_es s in_s, in_es t in_t, marks)
      where
        in_es : (u : Edge) → Contains (edges_of (lines_among es)) u → Contains (edges_of es) u
        in_es u at =
            All-contains (Contains (edges_of es)) (edges_of (lines_among es)) u
            (All-map (Contains (edges_of es)) (λ (e : Entry C). e.edge) (lines_among es)
            (All-filter (λ (e : Entry C). is_rectilinear e.edge) (λ e. Contains (edges_of es) e.edge) es (edges_contain es))) at

  -- what is cut at them, or where horizontal and vertical edges are among themselves
  pub marked_where_cut : (lines : List (Entry Count)) (is_marked is_cut : Bool) → (is_marked ≡ false) ↔ (laid ≡ [])
      → (is_marked ≡ false → with_counts (of_count of) lines ≡ lines_among es)
      → (is_marked ≡ true → is_cut ≡ true) → (is_marked ≡ false → (is_cut ≡ true) ↔ ((n : ℕ) × MarksInPass boolean precision lines n))
      → (is_cut ≡ true) ↔ Marks_some
  marked_where_cut lines is_marked is_cut told uncut before now = by is_marked refl
    where
      by : (b : Bool) → is_marked ≡ b → (is_cut ≡ true) ↔ Marks_some
      by true up = (λ _. some (λ none. false≢true (sym (told.1 none) ∙ up)), λ _. before up)
      by false down = (
        (λ cut. let m = (now down).0 cut in
            from_lines (told.0 down) (subst (MarksSome (marks_in precision 0)) edges
            (marks_from_the_first boolean precision lines 0 m.0 (uncut_normal added es h lines (uncut down)) (omega arith) m.1))),
        (λ marks. (now down).1 (0, subst (MarksSome (marks_in precision 0)) (sym edges) (to_lines (told.0 down) marks))),
      )
        where
          edges : edges_of lines ≡ edges_of (lines_among es)
          edges = sym (sums_edges added lines) ∙ ap edges_of (uncut down)
