-- A pass of groups is a pass of each of them alone.
use Rattle.std.proofs.Common.{◌≡◌, ℕ, Bool, true, false, cond, List, [], ◌∷◌, ◌++◌, filter, flat_map, All, Any, Contains, ◌⊎◌, inl, inr, subst, refl, sym, ap, ◌∙◌}
use Rattle.std.proofs.lemmas.Bool.{false≢true}
use Rattle.std.proofs.lemmas.List.Elements.{All-head, All-tail, All-weaker, All-map, All-contains, All-contains_itself, filter_passes}
use Rattle.plane_base.specs.Plane.{Point, Edge}
use Rattle.plane_base.specs.Counts.{Counting, Entry, normal}
use Rattle.plane_base.specs.Given.{laid_path}
use Rattle.plane_base.specs.Crossing.{Marks, no_marks}
use Rattle.plane_base.proofs.Facts.Maps.Normal.{normal_edges}
use Rattle.segment_split.specs.Paths.{path}
use Rattle.segment_split.specs.Passes.{edges_of, marks_in, marks_on, cut, pass}
use Rattle.segment_split.specs.Groups.{Bounds, LiesWithin, in_box, AreGroups, part, ChangesAlone}
use Rattle.segment_split.specs.declared.solver.Precision.{Precision}
use Rattle.segment_split.proofs.Spread.Lists.{all_flat_map}
use Rattle.segment_split.proofs.Passes.Paths.{path_all}
use Rattle.segment_split.proofs.Passes.Laws.{EndsAre, laid_path_ends, marks_within}
use Rattle.plane_base.proofs.Facts.Crossings.Roundings.{apart_parted}
use Rattle.segment_split.proofs.Passes.Unmarked.{unless_parted}
use Rattle.segment_split.proofs.Facts.Groups.Boxes.{in_box_told, in_box_tested, apart_edges, not_in_both, IsElsewhere, here_or_elsewhere}
use Rattle.segment_split.proofs.Facts.Groups.Filters.{filter_whole, filter_empty, filter_flat_map, filter_normal}

-- the edge lies in a box of the list
abbrev pub IsInOne : List Bounds → Edge → Type 0
IsInOne boxes s = Any (λ box. in_box box s ≡ true) boxes

module _ {C : Type 0} (kind : Counting C) where
  -- what holds of an edge's ends and of the marks on it holds of the ends of all its steps
  cut_ends : (P : Point → Type 0) (marks : Edge → Edge → Marks) (edges : List Edge) (e : Entry C) → EndsAre P e.edge → All P (marks_on marks edges e.edge)
      → All (λ f. EndsAre P f.edge) (cut kind marks edges e)
  cut_ends P marks edges e h all =
      laid_path_ends kind P e.count (path e.edge (marks_on marks edges e.edge)) (path_all P e.edge (marks_on marks edges e.edge) h.0 h.1 all)

  pub normal_alone : ChangesAlone (normal kind)
  normal_alone = record {
    groups = λ boxes es h. record { apart = h.apart; each = normal_edges kind (IsInOne boxes) es h.each };
    alone = λ boxes box es h at. filter_normal (in_box box) kind es;
  }

module _ {C : Type 0} (kind : Counting C) (precision : Precision) (k : ℕ) (boxes : List Bounds) (es : List (Entry C)) (groups : AreGroups boxes es) where
  -- ---- marks

  -- an edge elsewhere lays nothing on one of the box
  none_across : (box : Bounds) (s t : Edge) → in_box box s ≡ true → IsElsewhere boxes box t → marks_in precision k s t ≡ no_marks
  none_across box s t h (c, at, apart, there) = (unless_parted precision k s t).1 (apart_parted s t (apart_edges box c s t apart (in_box_told box s h) (in_box_told c t there)))

  -- what all edges lay on one of the box, those of the box lay
  marks_alone : (box : Bounds) → Contains boxes box → (s : Edge) → in_box box s ≡ true → (fs : List (Entry C)) → All (Contains es) fs
      → marks_on (marks_in precision k) (edges_of fs) s ≡ marks_on (marks_in precision k) (edges_of (part box fs)) s
  marks_alone box at s h [] all = refl
  marks_alone box at s h (f ∷ fs) all =
      by (in_box box f.edge) refl (here_or_elsewhere boxes es groups box at f (All-head (Contains es) f fs all)) (marks_alone box at s h fs (All-tail (Contains es) f fs all))
    where
      by : (here : Bool) → in_box box f.edge ≡ here → (in_box box f.edge ≡ true) ⊎ IsElsewhere boxes box f.edge
          → marks_on (marks_in precision k) (edges_of fs) s ≡ marks_on (marks_in precision k) (edges_of (part box fs)) s
          → (marks_in precision k s f.edge).first ++ marks_on (marks_in precision k) (edges_of fs) s
          ≡ marks_on (marks_in precision k) (edges_of (cond here (f ∷ part box fs) (part box fs))) s
      by true e w rest = ap (λ ps. (marks_in precision k s f.edge).first ++ ps) rest
      by false e (inl i) rest = absurd (false≢true (sym e ∙ i))
      by false e (inr w) rest = ap (λ m. m.first ++ marks_on (marks_in precision k) (edges_of fs) s) (none_across box s f.edge h w) ∙ rest

  -- ---- steps

  module _ (box : Bounds) (at : Contains boxes box) where
    cut_alone : (e : Entry C) → in_box box e.edge ≡ true → cut kind (marks_in precision k) (edges_of es) e ≡ cut kind (marks_in precision k) (edges_of (part box es)) e
    cut_alone e h = ap (λ ps. laid_path kind e.count (path e.edge ps)) (marks_alone box at e.edge h es (All-contains_itself es))

    part_within : All (EndsAre (LiesWithin box)) (edges_of (part box es))
    part_within =
        All-map (EndsAre (LiesWithin box)) (λ e. e.edge) (part box es)
        (All-weaker (λ e. in_box box e.edge ≡ true) (λ e. EndsAre (LiesWithin box) e.edge) (λ e. in_box_told box e.edge) (part box es) (filter_passes (λ e. in_box box e.edge) es))

    marks_stay : (s : Edge) → in_box box s ≡ true → All (LiesWithin box) (marks_on (marks_in precision k) (edges_of (part box es)) s)
    marks_stay s h =
        all_flat_map (LiesWithin box) (λ t. (marks_in precision k s t).first) (edges_of (part box es))
        (All-weaker (EndsAre (LiesWithin box)) (λ t. All (LiesWithin box) (marks_in precision k s t).first) (λ t there. marks_within box precision k s t (in_box_told box s h) there) (edges_of (part box es)) part_within)

    -- all steps of an edge of the box lie there
    cut_stays : (e : Entry C) → in_box box e.edge ≡ true → All (λ f. in_box box f.edge ≡ true) (cut kind (marks_in precision k) (edges_of es) e)
    cut_stays e h =
        subst (All (λ f. in_box box f.edge ≡ true)) (sym (cut_alone e h))
        (All-weaker (λ f. EndsAre (LiesWithin box) f.edge) (λ f. in_box box f.edge ≡ true) (λ f. in_box_tested box f.edge) (cut kind (marks_in precision k) (edges_of (part box es)) e)
        (cut_ends kind (LiesWithin box) (marks_in precision k) (edges_of (part box es)) e (in_box_told box e.edge h) (marks_stay e.edge h)))

  -- of the steps of an edge those that lie in the box are all, as the part alone lays them, or none
  cut_part : (box : Bounds) → Contains boxes box → (e : Entry C) → Contains es e
      → filter (λ f. in_box box f.edge) (cut kind (marks_in precision k) (edges_of es) e) ≡ cond (in_box box e.edge) (cut kind (marks_in precision k) (edges_of (part box es)) e) []
  cut_part box at e there = by (in_box box e.edge) refl (here_or_elsewhere boxes es groups box at e there)
    where
      by : (here : Bool) → in_box box e.edge ≡ here → (in_box box e.edge ≡ true) ⊎ IsElsewhere boxes box e.edge
          → filter (λ f. in_box box f.edge) (cut kind (marks_in precision k) (edges_of es) e) ≡ cond here (cut kind (marks_in precision k) (edges_of (part box es)) e) []
      by true h w = filter_whole (λ f. in_box box f.edge) (cut kind (marks_in precision k) (edges_of es) e) (cut_stays box at e h) ∙ cut_alone box at e h
      by false h (inl i) = absurd (false≢true (sym h ∙ i))
      by false h (inr (c, other, apart, i)) =
          filter_empty (λ f. in_box box f.edge) (cut kind (marks_in precision k) (edges_of es) e)
          (All-weaker (λ f. in_box c f.edge ≡ true) (λ f. in_box box f.edge ≡ false) (λ f. not_in_both box c f.edge apart) (cut kind (marks_in precision k) (edges_of es) e) (cut_stays c other e i))

  -- ---- the pass

  pub pass_alone : (box : Bounds) → Contains boxes box → part box (pass kind precision es k) ≡ pass kind precision (part box es) k
  pass_alone box at =
      filter_normal (in_box box) kind (flat_map (cut kind (marks_in precision k) (edges_of es)) es)
      ∙ ap (normal kind)
      (filter_flat_map (λ e. in_box box e.edge) (λ f. in_box box f.edge) (cut kind (marks_in precision k) (edges_of es)) (cut kind (marks_in precision k) (edges_of (part box es))) es
      (All-weaker (Contains es)
      (λ e. filter (λ f. in_box box f.edge) (cut kind (marks_in precision k) (edges_of es) e) ≡ cond (in_box box e.edge) (cut kind (marks_in precision k) (edges_of (part box es)) e) [])
      (cut_part box at) es (All-contains_itself es)))

  pub pass_groups : AreGroups boxes (pass kind precision es k)
  pass_groups = record {
    apart = groups.apart;
    each =
        normal_edges kind (IsInOne boxes) (flat_map (cut kind (marks_in precision k) (edges_of es)) es)
        (all_flat_map (λ f. IsInOne boxes f.edge) (cut kind (marks_in precision k) (edges_of es)) es
        (All-weaker (Contains es) (λ e. All (λ f. IsInOne boxes f.edge) (cut kind (marks_in precision k) (edges_of es) e)) one es (All-contains_itself es)));
  }
    where
      one : (e : Entry C) → Contains es e → All (λ f. IsInOne boxes f.edge) (cut kind (marks_in precision k) (edges_of es) e)
      one e there = by (All-contains (λ e. IsInOne boxes e.edge) es e groups.each there)
        where
          by : IsInOne boxes e.edge → All (λ f. IsInOne boxes f.edge) (cut kind (marks_in precision k) (edges_of es) e)
          by (i, c, l, same, h) =
              All-weaker (λ f. in_box c f.edge ≡ true) (λ f. IsInOne boxes f.edge) (λ f g. (i, c, l, same, g)) (cut kind (marks_in precision k) (edges_of es) e) (cut_stays c (i, l, same) e h)
