-- A path along its own edge winds as the edge does.
use Rattle.std.proofs.Common.{◌≡◌, true, cond, List, [], ◌∷◌, ◌++◌, flat_map, All, ℤ, pos, ◌+ℤ◌, ◌*ℤ◌, sym, ap, ◌∙◌, arith}
use Rattle.std.proofs.lemmas.Int.{ints}
use Rattle.std.proofs.lemmas.List.Elements.{All-head, All-tail, All-weaker}
use Rattle.plane_base.specs.Plane.{Point, RationalPoint, is_before, turn, step_winding, is_below}
use Rattle.plane_base.specs.Counts.{Count, Counting, Entry, boolean, IsNormal}
use Rattle.plane_base.specs.Balance.{IsAdditive}
use Rattle.plane_base.specs.Segments.{strictly_inside}
use Rattle.plane_base.specs.Crossing.{late_marks}
use Rattle.plane_base.specs.Windings.{path_winding, winding}
use Rattle.plane_base.proofs.Facts.Maps.LinearSums.{subject_additive, clip_additive}
use Rattle.plane_base.proofs.Facts.Points.OneLine as line
use Rattle.plane_base.proofs.Facts.Crossings.Pieces.{three_on_line}
use Rattle.plane_base.proofs.Facts.Crossings.Tests.{inside_tells}
use Rattle.plane_base.proofs.Facts.Lists.Totals.{total_flat_map, total_pointwise_on}
use Rattle.plane_base.proofs.Facts.Points.Turns.{turn_there_and_back, turn_end_twice}
use Rattle.plane_base.proofs.Facts.Windings.Sums.{sum_below, sum_below_by_steps, sum_below_path, sum_below_normal}
use Rattle.segment_split.specs.Paths.{along, path}
use Rattle.segment_split.specs.Passes.{edges_of, marks_on, cut, pass_by}
use Rattle.segment_split.specs.WholeLaws.{AllMeetWhole}
use Rattle.segment_split.proofs.Spread.StaircaseMarks.{along_all}
use Rattle.segment_split.proofs.Whole.Pieces.{cut_inside}

-- ---- a path along a line

module _ (a b : Point) (forward : is_before a b ≡ true) (p : RationalPoint) where
  line_winding : (u : Point) (ps : List Point) (w : Point) → turn a b u ≡ pos 0 → All (λ m. turn a b m ≡ pos 0) ps → turn a b w ≡ pos 0 → path_winding (u ∷ ps ++ w ∷ []) p ≡ step_winding u w p
  line_winding u [] w e all g = alone (step_winding u w p)
    where
      alone : (x : ℤ) → x +ℤ pos 0 ≡ x
      alone x = omega (arith, ints)
  line_winding u (v ∷ ps) w e all g =
      ap (λ t. step_winding u v p +ℤ t) (line_winding v ps w f (All-tail (λ m. turn a b m ≡ pos 0) v ps all) g)
      ∙ line.on_one_line u v w p (three_on_line a b u v w forward e f g)
    where
      f : turn a b v ≡ pos 0
      f = All-head (λ m. turn a b m ≡ pos 0) v ps all

  -- from the first of the two to the second
  pub along_winding : (ps : List Point) → All (λ m. turn a b m ≡ pos 0) ps → path_winding (a ∷ ps ++ b ∷ []) p ≡ step_winding a b p
  along_winding ps all = line_winding a ps b (turn_there_and_back a b) all (turn_end_twice a b)

-- ---- a pass

module _ {kind : Counting Count} {n : Count → ℤ} (additive : IsAdditive kind n) (es : List (Entry Count)) (normal_es : IsNormal kind es) (whole : AllMeetWhole (edges_of es)) (p : RationalPoint) where
  pub sum_below_pass : sum_below n (pass_by kind late_marks es) p ≡ sum_below n es p
  sum_below_pass =
      sum_below_normal additive (flat_map (cut kind late_marks (edges_of es)) es) p
      ∙ total_flat_map (λ e. cond (is_below e.edge.a e.edge.b p) (n e.count) (pos 0)) (cut kind late_marks (edges_of es)) es
      ∙ total_pointwise_on (λ e. sum_below n (cut kind late_marks (edges_of es) e) p) (λ e. n e.count *ℤ step_winding e.edge.a e.edge.b p) es
      (λ k d h. each _ (normal_es.directed k d h) (cut_inside kind es normal_es.directed whole k d h))
      ∙ sym (sum_below_by_steps n es p normal_es.directed)
    where
      each : (e : Entry Count) → is_before e.edge.a e.edge.b ≡ true → All (λ m. strictly_inside m e.edge ≡ true) (marks_on late_marks (edges_of es) e.edge)
          → sum_below n (cut kind late_marks (edges_of es) e) p ≡ n e.count *ℤ step_winding e.edge.a e.edge.b p
      each e forward inside =
          sum_below_path additive (path e.edge (marks_on late_marks (edges_of es) e.edge)) e.count p
          ∙ ap (λ w. n e.count *ℤ w) (along_winding e.edge.a e.edge.b forward p (along e.edge (marks_on late_marks (edges_of es) e.edge))
          (along_all e.edge (λ m. turn e.edge.a e.edge.b m ≡ pos 0) (marks_on late_marks (edges_of es) e.edge)
          (All-weaker (λ m. strictly_inside m e.edge ≡ true) (λ m. turn e.edge.a e.edge.b m ≡ pos 0) (λ m f. (inside_tells m e.edge f).0) (marks_on late_marks (edges_of es) e.edge) inside)))

pub winding_pass : (es : List (Entry Count)) (p : RationalPoint) → IsNormal boolean es → AllMeetWhole (edges_of es) → winding (pass_by boolean late_marks es) p ≡ winding es p
winding_pass es p h k = λ i. record { subject = sum_below_pass subject_additive es h k p i; clip = sum_below_pass clip_additive es h k p i }
