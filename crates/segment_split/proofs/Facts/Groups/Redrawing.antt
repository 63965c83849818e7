-- Groups are redrawn each as if alone.
use Rattle.std.proofs.Common.{◌≡◌, ℕ, zero, suc, ◌+◌, List, Contains, subst, refl, sym, ap, ◌∙◌}
use Rattle.std.proofs.lemmas.List.Elements.{All-map, All-filter, All-contains}
use Rattle.plane_base.specs.Plane.{Edge}
use Rattle.plane_base.specs.Counts.{Counting, Entry, IsNormal, normal}
use Rattle.plane_base.specs.Crossing.{Marks}
use Rattle.plane_base.proofs.Facts.Maps.Normal.{normal_is_normal}
use Rattle.segment_split.specs.Passes.{early_passes, edges_of, marks_in, MarksSome, pass}
use Rattle.segment_split.specs.Redrawing.{iterate, spread, redrawn, MarksInPass}
use Rattle.segment_split.specs.RedrawLaws.{IsFirstUnmarked}
use Rattle.segment_split.specs.Groups.{Bounds, in_box, AreGroups, part, RedrawsAlone}
use Rattle.segment_split.specs.declared.solver.Precision.{Precision}
use Rattle.segment_split.proofs.Spread.Lists.{edges_contain}
use Rattle.segment_split.proofs.Redrawing.Ends.{redraws_to_the_end}
use Rattle.segment_split.proofs.Facts.Groups.Filters.{normal_filter, filter_normal}
use Rattle.segment_split.proofs.Facts.Groups.Passes.{normal_alone, pass_alone, pass_groups}

-- the edges of a part are edges of the map
pub part_contains : {C : Type 0} (box : Bounds) (es : List (Entry C)) (s : Edge) → Contains (edges_of (part box es)) s → Contains (edges_of es) s
part_contains {C} box es s =
    All-contains (Contains (edges_of es)) (edges_of (part box es)) s
    (All-map (Contains (edges_of es)) (λ (e : Entry C). e.edge) (part box es) (All-filter (λ e. in_box box e.edge) (λ e. Contains (edges_of es) e.edge) es (edges_contain es)))

-- a part marks nothing where the whole doesn't
part_marks : {C : Type 0} (box : Bounds) (es : List (Entry C)) (marks : Edge → Edge → Marks) → MarksSome marks (edges_of (part box es)) → MarksSome marks (edges_of es)
part_marks box es marks (s, t, at, there, some) = (s, t, part_contains box es s at, part_contains box es t there, some)

module _ {C : Type 0} (kind : Counting C) (precision : Precision) where
  iterate_groups : (boxes : List Bounds) (es : List (Entry C)) (n : ℕ) → AreGroups boxes es → AreGroups boxes (iterate kind precision es n)
  iterate_groups boxes es zero h = h
  iterate_groups boxes es (suc n) h = pass_groups kind precision n boxes (iterate kind precision es n) (iterate_groups boxes es n h)

  iterate_alone : (boxes : List Bounds) (box : Bounds) (es : List (Entry C)) (n : ℕ) → AreGroups boxes es → Contains boxes box
      → part box (iterate kind precision es n) ≡ iterate kind precision (part box es) n
  iterate_alone boxes box es zero h at = refl
  iterate_alone boxes box es (suc n) h at =
      pass_alone kind precision n boxes (iterate kind precision es n) (iterate_groups boxes es n h) box at
      ∙ ap (λ fs. pass kind precision fs n) (iterate_alone boxes box es n h at)

  redrawn_alone : (boxes : List Bounds) (box : Bounds) (es : List (Entry C)) → IsNormal kind es → AreGroups boxes es → Contains boxes box
      → part box (redrawn kind precision es) ≡ redrawn kind precision (part box es)
  redrawn_alone boxes box es whole h at = by (redraws_to_the_end kind precision es whole).first
    where
      by : (n : ℕ) × IsFirstUnmarked kind precision es n × (redrawn kind precision es ≡ iterate kind precision es n) → part box (redrawn kind precision es) ≡ redrawn kind precision (part box es)
      by (n, first, same) =
          ap (part box) same
          ∙ (iterate_alone boxes box es n h at
          ∙ sym ((redraws_to_the_end kind precision (part box es) (normal_filter (in_box box) kind es whole)).at_each n none))
        where
          none : MarksInPass kind precision (part box es) n → ⊥
          none some =
              first.unmarked
              (part_marks box (iterate kind precision es n) (marks_in precision n)
              (subst (λ fs. MarksSome (marks_in precision n) (edges_of fs)) (sym (iterate_alone boxes box es n h at)) some))

  pub redraws_alone : RedrawsAlone kind precision
  redraws_alone = record {
    of_normal = normal_alone kind;
    of_pass = λ k. record {
      groups = λ boxes es h. pass_groups kind precision k boxes es h;
      alone = λ boxes box es h at. pass_alone kind precision k boxes es h box at;
    };
    of_iterate = λ n. record {
      groups = λ boxes es h. iterate_groups boxes es n h;
      alone = λ boxes box es h at. iterate_alone boxes box es n h at;
    };
    groups = λ boxes es h. iterate_groups boxes es (early_passes + spread (edges_of (iterate kind precision es early_passes))) h;
    of_redrawn = redrawn_alone;
    of_given = λ boxes box es directed h at.
        redrawn_alone boxes box (normal kind es) (normal_is_normal kind es directed) h at
        ∙ ap (redrawn kind precision) (filter_normal (in_box box) kind es);
  }
