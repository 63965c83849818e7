-- What a pass makes of horizontal and vertical entries that are cut apart from slanted ones, and then laid.
use Rattle.std.specs.Prelude.{◌≡◌, ◌≤◌, ◌+◌, ℕ, Bool, true, false, ◌||◌, not, List, ◌++◌, length, flat_map, All, Contains, IsPermutation}
use Rattle.std.specs.Ordering.{int_eq}
use Rattle.std.proofs.Common.{refl, sym, ap, ◌∙◌, subst, ◌⊎◌, inl, inr, ⊎_elim, get_or, arith}
use Rattle.std.proofs.lemmas.Bool.{false≢true}
use Rattle.std.proofs.lemmas.Bool.Decides.{Decides-int_eq}
use Rattle.std.proofs.lemmas.List.{length-map, length-append}
use Rattle.std.proofs.lemmas.List.Elements.{All-contains, All-contains_itself, All-filter, All-map, All-weaker, filter_passes}
use Rattle.std.proofs.lemmas.List.Sorted.{All-permutation, length_permutation, IsPermutation-trans, IsPermutation-append_comm, IsPermutation-append_left, IsPermutation-filter_both}
use Rattle.plane_base.specs.Plane.{Edge, is_before}
use Rattle.plane_base.specs.Segments.{strictly_inside, parted}
use Rattle.plane_base.specs.Counts.{Count, Counting, Entry, boolean, normal, IsNormal}
use Rattle.plane_base.specs.Crossing.{late_marks}
use Rattle.plane_base.specs.WholeLaws.{IsPiece}
use Rattle.plane_base.proofs.Facts.Maps.Laying.{IsDirected}
use Rattle.plane_base.proofs.Facts.Maps.Normal.{IsCounting, normal_edges, normal_permutation, normal_normal_append}
use Rattle.segment_split.specs.LineLaws.{is_rectilinear, AllRectilinear}
use Rattle.segment_split.specs.MarkLists.{AllParted}
use Rattle.segment_split.specs.Merging.{IsMap}
use Rattle.segment_split.specs.Mixed.{lines_among, slanted_among, ArePartsApart}
use Rattle.segment_split.specs.Passes.{edges_of, marks_in, marks_on, cut, all_cut, pass_by, pass}
use Rattle.segment_split.specs.RedrawLaws.{IsCountMap, with_counts}
use Rattle.segment_split.specs.Refusals.{steps_in, IsOverfull}
use Rattle.segment_split.specs.TurnLaws.{ArePartedWhole}
use Rattle.segment_split.specs.WholeLaws.{MeetsAllWhole}
use Rattle.segment_split.specs.declared.solver.Precision.{Precision}
use Rattle.segment_split.proofs.Mixed.Pieces.{listed_pieces}
use Rattle.segment_split.proofs.Mixed.Refused.{overfull_unjoined}
use Rattle.segment_split.proofs.Passes.MarkLists.{edges_directed}
use Rattle.segment_split.proofs.Passes.Merges.{normal_map}
use Rattle.segment_split.proofs.Redrawing.Changes.{normal_length}
use Rattle.segment_split.proofs.Redrawing.Counts.{with_count_of, counts_normal, counts_cuts, counts_edges}
use Rattle.segment_split.proofs.Redrawing.Lengths.{no_fewer_cuts}
use Rattle.segment_split.proofs.Redrawing.Neighbours.{overfull_before, overfull_after}
use Rattle.segment_split.proofs.Spread.Lists.{all_flat_map, edges_contain}
use Rattle.segment_split.proofs.Stops.Permuted.{flat_map_permuted, flat_map_parted}
use Rattle.segment_split.proofs.Whole.Coordinates.{horizontal_flat, vertical_flat}
use Rattle.segment_split.proofs.Whole.InTurn.{cuts_in_turn}
use Rattle.segment_split.proofs.Whole.RectilinearEdges.{rectilinear}
use Rattle.segment_split.proofs.Whole.Marks.{whole_marks_on, whole_marks_inside}
use Rattle.segment_split.proofs.Whole.Pieces.{IsPieceOfSome}

-- ---- pieces of horizontal and vertical edges are such edges

one_of_both : (b c : Bool) → (b ≡ true) ⊎ (c ≡ true) → b || c ≡ true
one_of_both true c h = refl
one_of_both false c (inl e) = absurd (false≢true e)
one_of_both false c (inr e) = e

piece_of_line : (u s : Edge) → IsPiece u s → is_before s.a s.b ≡ true → is_rectilinear s ≡ true → is_rectilinear u ≡ true
piece_of_line u s piece forward line =
    one_of_both (int_eq u.a.y u.b.y) (int_eq u.a.x u.b.x)
    (⊎_elim
    (λ l. inl ((Decides-int_eq u.a.y u.b.y).1 ((horizontal_flat s u.a forward l).0 piece.first_on ∙ sym ((horizontal_flat s u.b forward l).0 piece.second_on))))
    (λ l. inr ((Decides-int_eq u.a.x u.b.x).1 ((vertical_flat s u.a forward l).0 piece.first_on ∙ sym ((vertical_flat s u.b forward l).0 piece.second_on))))
    (rectilinear s line))

-- ----

module _ {C : Type 0} {kind : Counting C} (laws : IsCounting kind) (precision : Precision) (k : ℕ) (es : List (Entry C)) (h : IsNormal kind es)
    (whole : (s : Edge) → Contains (edges_of es) s → is_rectilinear s ≡ true → MeetsAllWhole (edges_of es) s) where
  abbrev is_line : Entry C → Bool
  is_line e = is_rectilinear e.edge

  abbrev cuts : Entry C → List (Entry C)
  cuts e = cut kind (marks_in precision k) (edges_of es) e

  lines_listed : All (λ e. Contains (edges_of es) e.edge) (lines_among es)
  lines_listed = All-filter is_line (λ e. Contains (edges_of es) e.edge) es (edges_contain es)

  lines_whole : All (λ e. MeetsAllWhole (edges_of es) e.edge) (lines_among es)
  lines_whole i d l = whole (get_or (lines_among es) i d).edge (lines_listed i d l) (filter_passes is_line es i d l)

  line_meets : (e : Entry C) → Contains (lines_among es) e → MeetsAllWhole (edges_of es) e.edge
  line_meets e at = All-contains (λ e. MeetsAllWhole (edges_of es) e.edge) (lines_among es) e lines_whole at

  line_forward : (e : Entry C) → Contains (lines_among es) e → is_before e.edge.a e.edge.b ≡ true
  line_forward e at =
      All-contains (λ e. is_before e.edge.a e.edge.b ≡ true) (lines_among es) e (All-filter is_line (λ e. is_before e.edge.a e.edge.b ≡ true) es h.directed) at

  parts : ArePartedWhole es (lines_among es) (slanted_among es)
  parts = record { parts = IsPermutation-filter_both is_line (λ e. not (is_line e)) (λ e. refl) es; whole = lines_whole }

  -- ---- what the pass makes of them is parted

  record IsLinePiece (s : Edge) : Type 0 where
    of : Entry C
    listed : Contains (lines_among es) of
    among : Contains (edges_of (cuts of)) s

  line_pieces : All (λ f. IsLinePiece f.edge) (all_cut kind (marks_in precision k) (edges_of es) (lines_among es))
  line_pieces =
      all_flat_map (λ (f : Entry C). IsLinePiece f.edge) cuts (lines_among es)
      (All-weaker (Contains (lines_among es)) (λ e. All (λ (f : Entry C). IsLinePiece f.edge) (cuts e)) each (lines_among es)
      (All-contains_itself (lines_among es)))
    where
      each : (e : Entry C) → Contains (lines_among es) e → All (λ (f : Entry C). IsLinePiece f.edge) (cuts e)
      each e at =
          All-weaker (λ (f : Entry C). Contains (edges_of (cuts e)) f.edge) (λ f. IsLinePiece f.edge)
          (λ f there. record { of = e; listed = at; among = there }) (cuts e) (edges_contain (cuts e))

  pieces_parted : (s t : Edge) → IsLinePiece s → IsLinePiece t → parted s t ≡ true
  pieces_parted s t u v =
      (cuts_in_turn kind precision).parted k es u.of v.of s t h (in_es u.of u.listed) (in_es v.of v.listed) (line_meets u.of u.listed)
      (line_meets v.of v.listed) u.among v.among
    where
      in_es : (e : Entry C) → Contains (lines_among es) e → Contains es e
      in_es e at = All-contains (Contains es) (lines_among es) e (All-filter is_line (Contains es) es (All-contains_itself es)) at

  -- ---- they are cut at first, and apart from slanted ones

  module _ {of : Count → C} (reads : IsCountMap boolean kind of) (lines : List (Entry Count)) (others : List (Entry C))
      (apart : ArePartsApart kind of precision k es lines others) where
    pub first_pieces : All (IsPieceOfSome (edges_of (lines_among es))) (edges_of lines)
    first_pieces =
        listed_pieces kind apart.base (lines_among es)
        (All-filter is_line (λ e. is_before e.edge.a e.edge.b ≡ true) es h.directed) inside of lines apart.lines_are
      where
        inside : (e : Entry C) → Contains (lines_among es) e → All (λ m. strictly_inside m e.edge ≡ true) (apart.base e.edge)
        inside e at =
            All-weaker (Contains (apart.base e.edge)) (λ m. strictly_inside m e.edge ≡ true)
            (λ m there. All-contains (λ m. strictly_inside m e.edge ≡ true) (marks_on late_marks (edges_of es) e.edge) m
            (whole_marks_inside (edges_of es) e.edge (edges_directed es h) (line_meets e at) (line_forward e at))
            (subst (λ l. Contains l m) (whole_marks_on precision k (edges_of es) e.edge (line_meets e at))
            (apart.first.only e.edge m (All-contains (λ e. Contains (edges_of (lines_among es)) e.edge) (lines_among es) e
            (edges_contain (lines_among es)) at) there)))
            (apart.base e.edge) (All-contains_itself (apart.base e.edge))

    pub first_lines : AllRectilinear (edges_of lines)
    first_lines = All-weaker (IsPieceOfSome (edges_of (lines_among es))) (λ s. is_rectilinear s ≡ true) each (edges_of lines) first_pieces
      where
        each : (u : Edge) → IsPieceOfSome (edges_of (lines_among es)) u → is_rectilinear u ≡ true
        each u p =
            piece_of_line u p.of p.piece
            (All-contains (λ s. is_before s.a s.b ≡ true) (edges_of (lines_among es)) p.of
            (All-map (λ s. is_before s.a s.b ≡ true) (λ (e : Entry C). e.edge) (lines_among es)
            (All-filter is_line (λ e. is_before e.edge.a e.edge.b ≡ true) es h.directed)) p.listed)
            (All-contains (λ s. is_rectilinear s ≡ true) (edges_of (lines_among es)) p.of
            (All-map (λ s. is_rectilinear s ≡ true) (λ (e : Entry C). e.edge) (lines_among es) (filter_passes is_line es)) p.listed)

    first_directed : IsDirected lines
    first_directed i d l =
        let piece : IsPieceOfSome (edges_of (lines_among es)) (get_or lines i d).edge =
        All-contains (IsPieceOfSome (edges_of (lines_among es))) (edges_of lines) (get_or lines i d).edge first_pieces (edges_contain lines i d l) in
        piece.piece.forward

    -- ---- their pieces are cut at each other

    abbrev pub second_steps : List (Entry Count)
    second_steps = all_cut boolean late_marks (edges_of lines) lines

    line_steps : IsPermutation (all_cut kind (marks_in precision k) (edges_of es) (lines_among es)) (with_counts of second_steps)
    line_steps =
        subst (IsPermutation (all_cut kind (marks_in precision k) (edges_of es) (lines_among es)))
        (ap (λ ss. flat_map (cut kind late_marks ss) (with_counts of lines)) (counts_edges reads lines)
        ∙ sym (counts_cuts reads late_marks (edges_of lines) lines))
        ((cuts_in_turn kind precision).pieces k es (lines_among es) (slanted_among es) (with_counts of lines) apart.base h parts apart.first apart.lines_are)

    all_steps : IsPermutation (steps_in kind precision es k) (with_counts of second_steps ++ others)
    all_steps =
        IsPermutation-trans (steps_in kind precision es k) (flat_map cuts (lines_among es ++ slanted_among es)) (with_counts of second_steps ++ others)
        (flat_map_permuted cuts es (lines_among es ++ slanted_among es) parts.parts)
        (subst (λ l. IsPermutation l (with_counts of second_steps ++ others)) (sym (flat_map_parted cuts (lines_among es) (slanted_among es)))
        (subst (λ l. IsPermutation (flat_map cuts (lines_among es) ++ flat_map cuts (slanted_among es)) (with_counts of second_steps ++ l))
        (sym apart.others_are)
        (IsPermutation-append_left (flat_map cuts (slanted_among es)) (flat_map cuts (lines_among es)) (with_counts of second_steps) line_steps)))

    all_length : length (steps_in kind precision es k) ≡ length second_steps + length others
    all_length =
        let both = length_permutation (steps_in kind precision es k) (with_counts of second_steps ++ others) all_steps in
        let apart = length-append (with_counts of second_steps) others in
        let read = length-map second_steps (with_count_of of) in
        omega (arith, both, apart, read)

    -- no more are cut at first than there are steps
    pub first_many : length lines ≤ length (steps_in kind precision es k)
    first_many = let first = no_fewer_cuts boolean late_marks (edges_of lines) lines first_directed in omega (arith, first, all_length)

    pub second_many : length second_steps ≤ length (steps_in kind precision es k)
    second_many = omega (arith, all_length)

    pub second_overfull : (fits : C → Bool) → IsOverfull kind fits (with_counts of second_steps) → IsOverfull kind fits (steps_in kind precision es k)
    second_overfull fits over =
        overfull_before kind fits (steps_in kind precision es k) (others ++ with_counts of second_steps)
        (IsPermutation-trans (steps_in kind precision es k) (with_counts of second_steps ++ others) (others ++ with_counts of second_steps) all_steps
        (IsPermutation-append_comm (with_counts of second_steps) others))
        (overfull_after kind fits others (with_counts of second_steps) over)

    -- ---- laid, and joined with the others

    module _ (laid : List (Entry Count)) (is : laid ≡ pass_by boolean late_marks lines) where
      laid_read : with_counts of laid ≡ normal kind (with_counts of second_steps)
      laid_read = ap (with_counts of) is ∙ counts_normal reads second_steps

      pub joined_pass : normal kind (with_counts of laid ++ others) ≡ pass kind precision es k
      joined_pass =
          ap (λ l. normal kind (l ++ others)) laid_read
          ∙ (normal_normal_append laws (with_counts of second_steps) others
          ∙ normal_permutation laws (steps_in kind precision es k) (with_counts of second_steps ++ others) all_steps)

      pub laid_map : IsMap kind (with_counts of laid)
      laid_map = subst (IsMap kind) (sym laid_read) (normal_map kind (with_counts of second_steps))

      pub laid_parted : AllParted (edges_of (with_counts of laid))
      laid_parted s t in_s in_t =
          pieces_parted s t (All-contains IsLinePiece (edges_of (with_counts of laid)) s all in_s)
          (All-contains IsLinePiece (edges_of (with_counts of laid)) t all in_t)
        where
          all : All IsLinePiece (edges_of (with_counts of laid))
          all =
              All-map IsLinePiece (λ (e : Entry C). e.edge) (with_counts of laid)
              (subst (All (λ (e : Entry C). IsLinePiece e.edge)) (sym laid_read)
              (normal_edges kind IsLinePiece (with_counts of second_steps)
              (All-permutation (λ (e : Entry C). IsLinePiece e.edge) (all_cut kind (marks_in precision k) (edges_of es) (lines_among es))
              (with_counts of second_steps) line_steps line_pieces)))

      pub joined_many : length laid + length others ≤ length (steps_in kind precision es k)
      joined_many =
          let few = normal_length boolean second_steps in
          let long = ap length is in
          omega (arith, few, long, all_length)

      pub joined_overfull : (fits : C → Bool) → IsOverfull kind fits (with_counts of laid ++ others) → IsOverfull kind fits (steps_in kind precision es k)
      joined_overfull fits over =
          overfull_before kind fits (steps_in kind precision es k) (with_counts of second_steps ++ others) all_steps
          (overfull_unjoined laws fits (with_counts of second_steps) others (subst (λ l. IsOverfull kind fits (l ++ others)) laid_read over))
