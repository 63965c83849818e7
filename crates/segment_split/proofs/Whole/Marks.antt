-- Where edges cross at whole points alone, every pass is a late one, and all marks lie strictly inside the edge that is marked.
use Rattle.std.proofs.Common.{◌≡◌, ℕ, Bool, true, false, cond, ltb, get_or, List, Contains, All, refl, ap, subst}
use Rattle.std.proofs.lemmas.List.Elements.{All-weaker, All-contains_itself}
use Rattle.plane_base.specs.Plane.{Edge}
use Rattle.plane_base.specs.Counts.{Counting, Entry, normal}
use Rattle.plane_base.specs.Given.{laid_path}
use Rattle.plane_base.specs.Segments.{strictly_inside}
use Rattle.plane_base.specs.Crossing.{Marks, cross_marks, late_marks}
use Rattle.plane_base.specs.WholeLaws.{MeetsWhole, AreInside}
use Rattle.plane_base.proofs.Facts.Crossings.Whole.{whole_marks_stay}
use Rattle.segment_split.specs.Paths.{path}
use Rattle.segment_split.specs.Passes.{radius, early_passes, edges_of, marks_in, marks_on, cut, pass_by, pass}
use Rattle.segment_split.specs.WholeLaws.{AllMeetWhole, MeetsAllWhole}
use Rattle.segment_split.specs.declared.solver.Precision.{Precision}
use Rattle.segment_split.proofs.Spread.Lists.{IsDirectedEdge, flat_map_same, all_flat_map, edges_contain}

-- ---- passes

either_same : (b : Bool) (m n : Marks) → m ≡ n → cond b m n ≡ n
either_same true m n e = e
either_same false m n e = refl

whole_marks_in : (precision : Precision) (k : ℕ) (s t : Edge) → MeetsWhole s t → marks_in precision k s t ≡ late_marks s t
whole_marks_in precision k s t h =
    either_same (ltb k early_passes) (cross_marks s t (radius precision k)) (late_marks s t) (whole_marks_stay.same s t (radius precision k) h)

pub whole_marks_on : (precision : Precision) (k : ℕ) (es : List Edge) (s : Edge) → MeetsAllWhole es s → marks_on (marks_in precision k) es s ≡ marks_on late_marks es s
whole_marks_on precision k es s meets =
    flat_map_same (λ t. (marks_in precision k s t).first) (λ t. (late_marks s t).first) es
    (All-weaker (Contains es) (λ t. (marks_in precision k s t).first ≡ (late_marks s t).first)
    (λ t in_t. ap (λ (m : Marks). m.first) (whole_marks_in precision k s t (meets t in_t))) es (All-contains_itself es))

pub whole_pass : {C : Type 0} (kind : Counting C) (precision : Precision) (es : List (Entry C)) (k : ℕ) → AllMeetWhole (edges_of es) → pass kind precision es k ≡ pass_by kind late_marks es
whole_pass {C} kind precision es k whole =
    ap (normal kind)
    (flat_map_same (cut kind (marks_in precision k) (edges_of es)) (cut kind late_marks (edges_of es)) es
    (All-weaker (λ (e : Entry C). Contains (edges_of es) e.edge) (λ e. cut kind (marks_in precision k) (edges_of es) e ≡ cut kind late_marks (edges_of es) e)
    (λ e in_es. ap (λ ms. laid_path kind e.count (path e.edge ms)) (whole_marks_on precision k (edges_of es) e.edge (λ t. whole e.edge t in_es))) es (edges_contain es)))

-- ---- marks

late_inside : (s t : Edge) → IsDirectedEdge s → IsDirectedEdge t → MeetsWhole s t → AreInside s t (late_marks s t)
late_inside s t f g h = subst (AreInside s t) (whole_marks_stay.same s t 0 h) (whole_marks_stay.inside s t 0 f g h)

pub whole_marks_inside : (es : List Edge) (s : Edge) → All IsDirectedEdge es → MeetsAllWhole es s → IsDirectedEdge s → All (λ m. strictly_inside m s ≡ true) (marks_on late_marks es s)
whole_marks_inside es s directed meets forward =
    all_flat_map (λ m. strictly_inside m s ≡ true) (λ t. (late_marks s t).first) es
    (λ k d h. (late_inside s (get_or es k d) forward (directed k d h) (meets (get_or es k d) (All-contains_itself es k d h))).first)
