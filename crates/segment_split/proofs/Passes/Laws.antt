-- A pass leaves a map that is balanced as before and fits the same boxes.
use Rattle.std.proofs.Common.{◌≡◌, ℕ, Bool, true, false, cond, nat_lt, List, [], ◌∷◌, flat_map, All, Ordering, Less, Equal, Greater, ℤ, ◌-ℤ◌, ◌*ℤ◌, ◌≤ℤ◌, ◌∙◌, arith}
use Rattle.std.specs.Int.{int_min, int_max}
use Rattle.std.proofs.lemmas.Int.{ints, clamps}
use Rattle.std.proofs.lemmas.List.Elements.{All-nil, All-cons, All-head, All-tail, All-append, All-weaker, All-map}
use Rattle.plane_base.specs.Plane.{Point, Edge, point_order}
use Rattle.plane_base.specs.Counts.{Counting, Entry, lay, IsNormal}
use Rattle.plane_base.specs.Given.{laid_path}
use Rattle.plane_base.specs.Balance.{IsAdditive, fall, mark}
use Rattle.plane_base.specs.Crossing.{Marks, cross_marks, late_marks}
use Rattle.plane_base.specs.CrossingLaws.{InBox, InBoxOfBoth}
use Rattle.plane_base.proofs.Facts.Lists.Totals.{total_pointwise, total_flat_map}
use Rattle.plane_base.proofs.Facts.Maps.Normal.{normal_is_normal, normal_edges}
use Rattle.plane_base.proofs.Facts.Maps.Laying.{IsDirectedEntry, IsDirected, lay_by, laid_path_directed}
use Rattle.plane_base.proofs.Facts.Maps.Balance.{fall_normal, fall_path}
use Rattle.plane_base.proofs.Facts.Crossings.MarkLaws.{marks_stay_in_boxes}
use Rattle.segment_split.specs.Paths.{path, along}
use Rattle.segment_split.specs.Passes.{early_passes, radius, edges_of, marks_in, marks_on, cut, pass_by, pass}
use Rattle.segment_split.specs.RedrawLaws.{Bounds, LiesWithin, Rearranges}
use Rattle.segment_split.specs.declared.solver.Precision.{Precision}
use Rattle.segment_split.proofs.Passes.Paths.{path_all}
use Rattle.segment_split.proofs.Spread.Lists.{all_flat_map}

-- ---- a map

module _ {C : Type 0} (kind : Counting C) (marks : Edge → Edge → Marks) where
  pub cuts_directed : (edges : List Edge) (es : List (Entry C)) → IsDirected (flat_map (cut kind marks edges) es)
  cuts_directed edges es =
      all_flat_map IsDirectedEntry (cut kind marks edges) es
      (All-weaker (λ e. Unit) (λ e. IsDirected (cut kind marks edges e)) (λ e h. laid_path_directed kind e.count (path e.edge (marks_on marks edges e.edge))) es (λ i d h. tt))

  pub pass_is_normal : (es : List (Entry C)) → IsNormal kind (pass_by kind marks es)
  pass_is_normal es = normal_is_normal kind (flat_map (cut kind marks (edges_of es)) es) (cuts_directed (edges_of es) es)

-- ---- balance

module _ {C : Type 0} {kind : Counting C} {n : C → ℤ} (additive : IsAdditive kind n) (marks : Edge → Edge → Marks) (f : Point → ℤ) where
  -- a cut edge loses what the edge lost
  fall_cut : (edges : List Edge) (e : Entry C) → fall n f (cut kind marks edges e) ≡ n e.count *ℤ (f e.edge.a -ℤ f e.edge.b)
  fall_cut edges e = fall_path additive f e.count e.edge.a (along e.edge (marks_on marks edges e.edge)) e.edge.b

  pub fall_cuts : (edges : List Edge) (es : List (Entry C)) → fall n f (flat_map (cut kind marks edges) es) ≡ fall n f es
  fall_cuts edges es =
      total_flat_map (λ e. n e.count *ℤ (f e.edge.a -ℤ f e.edge.b)) (cut kind marks edges) es
      ∙ total_pointwise (λ e. fall n f (cut kind marks edges e)) (λ e. n e.count *ℤ (f e.edge.a -ℤ f e.edge.b)) es (fall_cut edges)

  pub fall_pass : (es : List (Entry C)) → fall n f (pass_by kind marks es) ≡ fall n f es
  fall_pass es = fall_normal additive f (flat_map (cut kind marks (edges_of es)) es) ∙ fall_cuts (edges_of es) es

-- ---- boxes

-- both ends
abbrev pub EndsAre : (Point → Type 0) → Edge → Type 0
EndsAre P s = P s.a × P s.b

module _ {C : Type 0} (kind : Counting C) (P : Point → Type 0) where
  lay_ends : (u v : Point) (c : C) → P u → P v → All (λ e. EndsAre P e.edge) (lay kind u v c)
  lay_ends u v c h k = by (point_order u v)
    where
      by : (o : Ordering) → All (λ e. EndsAre P e.edge) (lay_by kind o u v c)
      by Less = All-cons (λ e. EndsAre P e.edge) (record { edge = record { a = u; b = v }; count = c }) [] (h, k) (All-nil (λ e. EndsAre P e.edge))
      by Equal = All-nil (λ e. EndsAre P e.edge)
      by Greater = All-cons (λ e. EndsAre P e.edge) (record { edge = record { a = v; b = u }; count = kind.turned c }) [] (k, h) (All-nil (λ e. EndsAre P e.edge))

  pub laid_path_ends : (c : C) (points : List Point) → All P points → All (λ e. EndsAre P e.edge) (laid_path kind c points)
  laid_path_ends c [] h = All-nil (λ e. EndsAre P e.edge)
  laid_path_ends c (p ∷ []) h = All-nil (λ e. EndsAre P e.edge)
  laid_path_ends c (p ∷ q ∷ rest) h =
      let later : All P (q ∷ rest) = All-tail P p (q ∷ rest) h in
      All-append (λ e. EndsAre P e.edge) (lay kind p q c) (laid_path kind c (q ∷ rest)) (lay_ends p q c (All-head P p (q ∷ rest) h) (All-head P q rest later)) (laid_path_ends c (q ∷ rest) later)

  -- What holds of all ends holds of all ends after the pass, where it holds of the marks.
  pub pass_ends : (marks : Edge → Edge → Marks) (es : List (Entry C)) → ((s t : Edge) → EndsAre P s → EndsAre P t → All P (marks s t).first)
      → All (λ e. EndsAre P e.edge) es → All (λ e. EndsAre P e.edge) (pass_by kind marks es)
  pass_ends marks es laid all =
      normal_edges kind (EndsAre P) (flat_map (cut kind marks (edges_of es)) es)
      (all_flat_map (λ e. EndsAre P e.edge) (cut kind marks (edges_of es)) es (All-weaker (λ e. EndsAre P e.edge) (λ e. All (λ e. EndsAre P e.edge) (cut kind marks (edges_of es) e)) one es all))
    where
      each : All (EndsAre P) (edges_of es)
      each = All-map (EndsAre P) (λ e. e.edge) es all

      one : (e : Entry C) → EndsAre P e.edge → All (λ e. EndsAre P e.edge) (cut kind marks (edges_of es) e)
      one e h =
          laid_path_ends e.count (path e.edge (marks_on marks (edges_of es) e.edge))
          (path_all P e.edge (marks_on marks (edges_of es) e.edge) h.0 h.1
          (all_flat_map P (λ t. (marks e.edge t).first) (edges_of es) (All-weaker (EndsAre P) (λ t. All P (marks e.edge t).first) (λ t k. laid e.edge t h k) (edges_of es) each)))

-- ---- the marks of a pass stay in every box

below_both : (l a b x : ℤ) → l ≤ℤ a → l ≤ℤ b → int_min a b ≤ℤ x → l ≤ℤ x
below_both l a b x h k m = omega (arith, ints, clamps)

above_both : (r a b x : ℤ) → a ≤ℤ r → b ≤ℤ r → x ≤ℤ int_max a b → x ≤ℤ r
above_both r a b x h k m = omega (arith, ints, clamps)

below_four : (l a b c d x : ℤ) → l ≤ℤ a → l ≤ℤ b → l ≤ℤ c → l ≤ℤ d → int_min (int_min a b) (int_min c d) ≤ℤ x → l ≤ℤ x
below_four l a b c d x h k m n o = omega (arith, ints, clamps)

above_four : (r a b c d x : ℤ) → a ≤ℤ r → b ≤ℤ r → c ≤ℤ r → d ≤ℤ r → x ≤ℤ int_max (int_max a b) (int_max c d) → x ≤ℤ r
above_four r a b c d x h k m n o = omega (arith, ints, clamps)

module _ (box : Bounds) where
  in_own_box : (s : Edge) (p : Point) → EndsAre (LiesWithin box) s → InBox p s → LiesWithin box p
  in_own_box s p h k = record {
    left = below_both _ _ _ _ h.0.left h.1.left k.left;
    right = above_both _ _ _ _ h.0.right h.1.right k.right;
    bottom = below_both _ _ _ _ h.0.bottom h.1.bottom k.bottom;
    top = above_both _ _ _ _ h.0.top h.1.top k.top;
  }

  in_box_of_both : (s t : Edge) (p : Point) → EndsAre (LiesWithin box) s → EndsAre (LiesWithin box) t → InBoxOfBoth p s t → LiesWithin box p
  in_box_of_both s t p h i k = record {
    left = below_four _ _ _ _ _ _ h.0.left h.1.left i.0.left i.1.left k.left;
    right = above_four _ _ _ _ _ _ h.0.right h.1.right i.0.right i.1.right k.right;
    bottom = below_four _ _ _ _ _ _ h.0.bottom h.1.bottom i.0.bottom i.1.bottom k.bottom;
    top = above_four _ _ _ _ _ _ h.0.top h.1.top i.0.top i.1.top k.top;
  }

  pub marks_within : (precision : Precision) (k : ℕ) (s t : Edge) → EndsAre (LiesWithin box) s → EndsAre (LiesWithin box) t → All (LiesWithin box) (marks_in precision k s t).first
  marks_within precision k s t h i = by (nat_lt k early_passes)
    where
      by : (early : Bool) → All (LiesWithin box) (cond early (cross_marks s t (radius precision k)) (late_marks s t)).first
      by true = All-weaker (λ p. InBoxOfBoth p s t) (LiesWithin box) (λ p. in_box_of_both s t p h i) (cross_marks s t (radius precision k)).first (marks_stay_in_boxes.early s t (radius precision k)).first
      by false = All-weaker (λ p. InBox p s) (LiesWithin box) (λ p. in_own_box s p h) (late_marks s t).first (marks_stay_in_boxes.late s t).first

-- ---- the law

pub pass_rearranges : {C : Type 0} (kind : Counting C) (precision : Precision) (k : ℕ) → Rearranges kind (λ es. pass kind precision es k)
pass_rearranges kind precision k = record {
  is_normal = λ es h. pass_is_normal kind (marks_in precision k) es;
  falls = λ n additive f es. fall_pass additive (marks_in precision k) f es;
  balanced = λ n additive es h v. fall_pass additive (marks_in precision k) (mark v) es ∙ h v;
  balanced_for_all = λ n additive es h f. fall_pass additive (marks_in precision k) f es ∙ h f;
  bounded = λ box es h. pass_ends kind (LiesWithin box) (marks_in precision k) es (marks_within box precision k) h;
}

-- ---- the range of coordinates

-- a box that is as high as it is wide
abbrev square : ℤ → ℤ → Bounds
square least greatest = record { left = least; right = greatest; bottom = least; top = greatest }
