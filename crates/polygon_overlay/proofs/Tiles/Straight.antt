-- Horizontal and vertical steps: what is held of them, and what is answered, is horizontal or vertical too.
use Rattle.std.proofs.Common.{◌≡◌, ◌⊎◌, inl, inr, ⊎_elim, Bool, true, false, cond, ◌&&◌, List, [], ◌∷◌, ◌++◌, map, flat_map, get_or, All, Contains, ℤ, pos, ◌-ℤ◌, ◌*ℤ◌, ◌<ℤ◌, int_eq, sym, ap, ◌∙◌, subst, arith}
use Rattle.std.specs.List.{AllZip}
use Rattle.std.specs.declared.cmp.Ordering.{Ordering}
use Rattle.std.specs.declared.cmp.Ordering.TheVariants.{Less, Equal, Greater}
use Rattle.std.specs.Ordering.{is_le}
use Rattle.std.proofs.lemmas.Int.{ints}
use Rattle.std.proofs.lemmas.Bool.{and_parts}
use Rattle.std.proofs.lemmas.Bool.Decides.{Decides-int_eq}
use Rattle.std.proofs.lemmas.List.Elements.{All-nil, All-cons, All-head, All-tail, All-append, All-map, All-weaker, All-contains, All-contains_itself, All-filter}
use Rattle.std.proofs.lemmas.List.Sorted.{All-permutation}
use Rattle.plane_base.specs.Plane.{Point, Edge, turn, point_order, is_before}
use Rattle.plane_base.specs.Balance.{IsBalancedMap}
use Rattle.plane_base.specs.Counts.{Count, Entry, boolean, one_subject, one_clip, lay, normal, IsNormal}
use Rattle.plane_base.specs.Given.{laid_path, laid}
use Rattle.plane_base.specs.Regions.{FillRule, OverlayRule}
use Rattle.plane_base.specs.Thinning.{IsThinned}
use Rattle.plane_base.proofs.Facts.Lists.Cycles.{All-front, All-back}
use Rattle.plane_base.proofs.Facts.Maps.Laying.{lay_by}
use Rattle.plane_base.proofs.Facts.Maps.Normal.{normal_edges, normal_is_normal}
use Rattle.plane_base.proofs.Facts.Numbers.Products.{factor_zero, zero_product}
use Rattle.plane_base.proofs.Facts.Points.Orders.{point_less, before_is_less}
use Rattle.segment_split.specs.Adding.{IsTaken}
use Rattle.segment_split.specs.Groups.{Bounds}
use Rattle.segment_split.specs.LineLaws.{is_rectilinear, AllRectilinear, is_part, HorizontalAndVerticalMeetWhole, RedrawsByLines}
use Rattle.segment_split.specs.Passes.{edges_of}
use Rattle.segment_split.specs.Redrawing.{redrawn}
use Rattle.segment_split.specs.RedrawLaws.{Rearranges, RedrawsToTheEnd}
use Rattle.segment_split.specs.declared.solver.Precision.{Precision}
use Rattle.segment_arrangement.specs.EdgeSides.{is_boundary, boundary}
use Rattle.segment_arrangement.specs.SideLaws.{IsArrangement}
use Rattle.segment_arrangement.proofs.Facts.ConstantSides.{Contains-map}
use Rattle.contour_walk.specs.Answering.{Answering, answer_with}
use Rattle.contour_walk.specs.BindingLaws.{all_contours, CornersStay, PassOnce}
use Rattle.contour_walk.specs.Orderly.{AreOrderly, AnswersAreOrderly}
use Rattle.contour_walk.specs.Shapes.{without_straight, finished}
use Rattle.contour_walk.specs.Walks.{Border, Contour, is_same}
use Rattle.contour_walk.specs.WalkLaws.{border_of, borders, step_along, steps_to, contour_steps}
use Rattle.polygon_overlay.specs.Builders.{IsHeld}
use Rattle.polygon_overlay.specs.Overlays.{redrawn_of, MeetsWhole}
use Rattle.polygon_overlay.specs.OverlayLaws.{HoldsContours}
use Rattle.polygon_overlay.specs.Tiles.{clamped_point, clamped, AreRectilinear}
use Rattle.polygon_overlay.specs.TileLaws.{AnswersStayRectilinear}
use Rattle.polygon_overlay.proofs.Answering.AreaLaws.{all_mapped}
use Rattle.polygon_overlay.proofs.Answering.ArrangementLaws.{redrawn_arrangement}
use Rattle.polygon_overlay.proofs.Returning.ReturnLaws.{as_contour, pass_once, in_place_some}
use Rattle.polygon_overlay.proofs.Tiles.Steps.{rectilinear, is_horizontal, is_vertical, straight_back, straight_clamped}
use Rattle.polygon_overlay.proofs.Tiles.ThinnedSteps.{thinned_steps}

abbrev pub IsStraight : Edge → Type 0
IsStraight s = is_rectilinear s ≡ true

-- ---- on one line

nothing : (x : ℤ) → pos 0 *ℤ x ≡ pos 0
nothing x = omega (arith, ints)

gap : (x y : ℤ) → x ≡ y → y -ℤ x ≡ pos 0
gap x y e = omega (arith, ints)

no_gap : (x y : ℤ) → y -ℤ x ≡ pos 0 → x ≡ y
no_gap x y e = omega (arith, ints)

-- one of the two products of a turn, where the other is 0
first_left : (w v y x : ℤ) → v ≡ pos 0 → (w *ℤ y) -ℤ (v *ℤ x) ≡ pos 0 → w *ℤ y ≡ pos 0
first_left w v y x e f = alone (w *ℤ y) (v *ℤ x) (ap (λ z. z *ℤ x) e ∙ nothing x) f
  where
    alone : (m n : ℤ) → n ≡ pos 0 → m -ℤ n ≡ pos 0 → m ≡ pos 0
    alone m n e f = omega (arith, ints)

second_left : (w v y x : ℤ) → w ≡ pos 0 → (w *ℤ y) -ℤ (v *ℤ x) ≡ pos 0 → v *ℤ x ≡ pos 0
second_left w v y x e f = alone (w *ℤ y) (v *ℤ x) (ap (λ z. z *ℤ y) e ∙ nothing y) f
  where
    alone : (m n : ℤ) → m ≡ pos 0 → m -ℤ n ≡ pos 0 → n ≡ pos 0
    alone m n e f = omega (arith, ints)

-- two straight steps on one line are one
pub straight_joined : (u v w : Point) → turn u v w ≡ pos 0 → IsStraight (record { a = u; b = v }) → IsStraight (record { a = v; b = w }) → IsStraight (record { a = u; b = w })
straight_joined u v w flat h k = by (rectilinear u v h) (rectilinear v w k)
  where
    after_horizontal : u.y ≡ v.y → v.x ≡ w.x → (v.x -ℤ u.x ≡ pos 0) ⊎ (w.y -ℤ u.y ≡ pos 0) → IsStraight (record { a = u; b = w })
    after_horizontal e f (inl z) = is_vertical u w (no_gap u.x v.x z ∙ f)
    after_horizontal e f (inr z) = is_horizontal u w (no_gap u.y w.y z)

    after_vertical : u.x ≡ v.x → v.y ≡ w.y → (v.y -ℤ u.y ≡ pos 0) ⊎ (w.x -ℤ u.x ≡ pos 0) → IsStraight (record { a = u; b = w })
    after_vertical e f (inl z) = is_horizontal u w (no_gap u.y v.y z ∙ f)
    after_vertical e f (inr z) = is_vertical u w (no_gap u.x w.x z)

    by : (u.y ≡ v.y) ⊎ (u.x ≡ v.x) → (v.y ≡ w.y) ⊎ (v.x ≡ w.x) → IsStraight (record { a = u; b = w })
    by (inl e) (inl f) = is_horizontal u w (e ∙ f)
    by (inr e) (inr f) = is_vertical u w (e ∙ f)
    by (inl e) (inr f) =
        after_horizontal e f
        (zero_product (v.x -ℤ u.x) (w.y -ℤ u.y) (first_left (v.x -ℤ u.x) (v.y -ℤ u.y) (w.y -ℤ u.y) (w.x -ℤ u.x) (gap u.y v.y e) flat))
    by (inr e) (inl f) =
        after_vertical e f
        (zero_product (v.y -ℤ u.y) (w.x -ℤ u.x) (second_left (v.x -ℤ u.x) (v.y -ℤ u.y) (w.y -ℤ u.y) (w.x -ℤ u.x) (gap u.x v.x e) flat))

-- a part of a straight edge is straight
straight_part : (u s : Edge) → is_before s.a s.b ≡ true → IsStraight s → is_part u s ≡ true → IsStraight u
straight_part u s forward h e = by (rectilinear s.a s.b h)
  where
    ends : (int_eq (turn s.a s.b u.a) (pos 0) ≡ true) × (int_eq (turn s.a s.b u.b) (pos 0) ≡ true)
    ends =
        and_parts (int_eq (turn s.a s.b u.a) (pos 0)) (int_eq (turn s.a s.b u.b) (pos 0))
        (and_parts (int_eq (turn s.a s.b u.a) (pos 0) && int_eq (turn s.a s.b u.b) (pos 0)) (is_le (point_order s.a u.a) && is_le (point_order u.b s.b)) e).0

    first : turn s.a s.b u.a ≡ pos 0
    first = (Decides-int_eq (turn s.a s.b u.a) (pos 0)).0 ends.0

    second : turn s.a s.b u.b ≡ pos 0
    second = (Decides-int_eq (turn s.a s.b u.b) (pos 0)).0 ends.1

    wide : s.a.y ≡ s.b.y → pos 0 <ℤ (s.b.x -ℤ s.a.x)
    wide k = ⊎_elim (λ l. omega (arith, ints, l)) (λ l. absurd (omega (arith, ints, l.1, k))) (point_less s.a s.b (before_is_less s.a s.b forward))

    tall : s.a.x ≡ s.b.x → pos 0 <ℤ (s.b.y -ℤ s.a.y)
    tall k = ⊎_elim (λ l. absurd (omega (arith, ints, l, k))) (λ l. omega (arith, ints, l.1)) (point_less s.a s.b (before_is_less s.a s.b forward))

    on_horizontal : (p : Point) → s.a.y ≡ s.b.y → turn s.a s.b p ≡ pos 0 → s.a.y ≡ p.y
    on_horizontal p k flat =
        no_gap s.a.y p.y
        (factor_zero (s.b.x -ℤ s.a.x) (p.y -ℤ s.a.y) (wide k) (first_left (s.b.x -ℤ s.a.x) (s.b.y -ℤ s.a.y) (p.y -ℤ s.a.y) (p.x -ℤ s.a.x) (gap s.a.y s.b.y k) flat))

    on_vertical : (p : Point) → s.a.x ≡ s.b.x → turn s.a s.b p ≡ pos 0 → s.a.x ≡ p.x
    on_vertical p k flat =
        no_gap s.a.x p.x
        (factor_zero (s.b.y -ℤ s.a.y) (p.x -ℤ s.a.x) (tall k) (second_left (s.b.x -ℤ s.a.x) (s.b.y -ℤ s.a.y) (p.y -ℤ s.a.y) (p.x -ℤ s.a.x) (gap s.a.x s.b.x k) flat))

    by : (s.a.y ≡ s.b.y) ⊎ (s.a.x ≡ s.b.x) → IsStraight u
    by (inl k) = is_horizontal u.a u.b (sym (on_horizontal u.a k first) ∙ on_horizontal u.b k second)
    by (inr k) = is_vertical u.a u.b (sym (on_vertical u.a k first) ∙ on_vertical u.b k second)

-- ---- contours, clamped and thinned

path_clamped : (tile : Bounds) (first u : Point) (rest : List Point) → AllRectilinear (steps_to first (u ∷ rest))
    → AllRectilinear (steps_to (clamped_point tile first) (clamped tile (u ∷ rest)))
path_clamped tile first u [] h =
    All-cons IsStraight (record { a = clamped_point tile u; b = clamped_point tile first }) [] (straight_clamped tile u first (All-head IsStraight (record { a = u; b = first }) [] h))
    (All-nil IsStraight)
path_clamped tile first u (r ∷ rest) h =
    All-cons IsStraight (record { a = clamped_point tile u; b = clamped_point tile r }) (steps_to (clamped_point tile first) (clamped tile (r ∷ rest)))
    (straight_clamped tile u r (All-head IsStraight (record { a = u; b = r }) (steps_to first (r ∷ rest)) h))
    (path_clamped tile first r rest (All-tail IsStraight (record { a = u; b = r }) (steps_to first (r ∷ rest)) h))

contour_clamped : (tile : Bounds) (c : List Point) → AllRectilinear (contour_steps c) → AllRectilinear (contour_steps (clamped tile c))
contour_clamped tile [] h = All-nil IsStraight
contour_clamped tile (u ∷ rest) h = path_clamped tile u u rest h

pub contours_clamped : (tile : Bounds) (cs : List (List Point)) → AreRectilinear cs → AreRectilinear (map (clamped tile) cs)
contours_clamped tile cs all =
    All-map (λ c. AllRectilinear (contour_steps c)) (clamped tile) cs (λ i d l. contour_clamped tile (get_or cs i d) (all i d l))

thinned : (c d : List Point) → IsThinned c d → AllRectilinear (contour_steps c) → AllRectilinear (contour_steps d)
thinned c d h all = thinned_steps (λ u v. IsStraight (record { a = u; b = v })) straight_joined c d h all

-- ---- what is held

abbrev IsStraightEntry : Entry Count → Type 0
IsStraightEntry e = IsStraight e.edge

step_lays : (c : Count) (u v : Point) → IsStraight (record { a = u; b = v }) → All IsStraightEntry (lay boolean u v c)
step_lays c u v h = by (point_order u v)
  where
    by : (o : Ordering) → All IsStraightEntry (lay_by boolean o u v c)
    by Less = All-cons IsStraightEntry _ [] h (All-nil IsStraightEntry)
    by Equal = All-nil IsStraightEntry
    by Greater = All-cons IsStraightEntry _ [] (straight_back u v h) (All-nil IsStraightEntry)

path_lays : (c : Count) (first u : Point) (rest : List Point) → AllRectilinear (steps_to first (u ∷ rest)) → All IsStraightEntry (laid_path boolean c (u ∷ rest ++ first ∷ []))
path_lays c first u [] h =
    All-append IsStraightEntry (lay boolean u first c) [] (step_lays c u first (All-head IsStraight (record { a = u; b = first }) [] h)) (All-nil IsStraightEntry)
path_lays c first u (r ∷ rest) h =
    All-append IsStraightEntry (lay boolean u r c) (laid_path boolean c (r ∷ rest ++ first ∷ []))
    (step_lays c u r (All-head IsStraight (record { a = u; b = r }) (steps_to first (r ∷ rest)) h))
    (path_lays c first r rest (All-tail IsStraight (record { a = u; b = r }) (steps_to first (r ∷ rest)) h))

contour_lays : (c : Count) (contour : List Point) → AllRectilinear (contour_steps contour) → All IsStraightEntry (laid boolean c contour)
contour_lays c [] h = All-nil IsStraightEntry
contour_lays c (u ∷ rest) h = path_lays c u u rest h

contours_lay : (keep_all : Bool) (c : Count) (contours taken : List (List Point)) → AllZip (IsTaken keep_all) contours taken → AreRectilinear contours
    → All IsStraightEntry (flat_map (laid boolean c) taken)
contours_lay keep_all c [] [] zip all = All-nil IsStraightEntry
contours_lay keep_all c [] (t ∷ ts) zip all = absurd zip
contours_lay keep_all c (x ∷ xs) [] zip all = absurd zip
contours_lay keep_all c (x ∷ xs) (t ∷ ts) zip all =
    All-append IsStraightEntry (laid boolean c t) (flat_map (laid boolean c) ts)
    (contour_lays c t (one keep_all zip.0 (All-head (λ c. AllRectilinear (contour_steps c)) x xs all)))
    (contours_lay keep_all c xs ts zip.1 (All-tail (λ c. AllRectilinear (contour_steps c)) x xs all))
  where
    one : (keep : Bool) → IsTaken keep x t → AllRectilinear (contour_steps x) → AllRectilinear (contour_steps t)
    one true same h = subst (λ c. AllRectilinear (contour_steps c)) (sym same) h
    one false is_thinned h = thinned x t is_thinned h

module _ (keep_all : Bool) (subjects clips : List (List Point)) (held : List (Entry Count)) (holds : HoldsContours keep_all subjects clips held)
    (of_subjects : AreRectilinear subjects) (of_clips : AreRectilinear clips) where
  held_straight : All IsStraightEntry held
  held_straight =
      let subject_edges = flat_map (laid boolean one_subject) holds.taken_subjects in
      let clip_edges = flat_map (laid boolean one_clip) holds.taken_clips in
      All-permutation IsStraightEntry (subject_edges ++ clip_edges) held holds.is
      (All-append IsStraightEntry subject_edges clip_edges
      (contours_lay keep_all one_subject subjects holds.taken_subjects holds.are_subjects of_subjects)
      (contours_lay keep_all one_clip clips holds.taken_clips holds.are_clips of_clips))

  -- the keys of the map of what is held
  pub keys_straight : AllRectilinear (edges_of (normal boolean held))
  keys_straight = All-map IsStraight (λ (e : Entry Count). e.edge) (normal boolean held) (normal_edges boolean IsStraight held held_straight)

  pub held_meets_whole : HorizontalAndVerticalMeetWhole boolean → (least greatest : ℤ) → IsHeld least greatest held → MeetsWhole held
  held_meets_whole whole least greatest is_held = whole (normal boolean held) (normal_is_normal boolean held is_held.directed) keys_straight

pub both_straight : (subjects clips : List (List Point)) → AreRectilinear (subjects ++ clips) → AreRectilinear subjects × AreRectilinear clips
both_straight subjects clips all = (
  All-front (λ c. AllRectilinear (contour_steps c)) subjects clips all,
  All-back (λ c. AllRectilinear (contour_steps c)) subjects clips all,
)

-- ---- what is redrawn

module _ (precision : Precision) (whole : HorizontalAndVerticalMeetWhole boolean) (lines : RedrawsByLines boolean precision) (es : List (Entry Count)) (is : IsNormal boolean es)
    (all : AllRectilinear (edges_of es)) where
  key_redrawn : (u : Edge) → Contains (edges_of (redrawn boolean precision es)) u → IsStraight u
  key_redrawn u here =
      let (s, there, part) = ((lines.is_map es is (whole es is all)).joins u here).along in
      straight_part u s
      (All-contains (λ (s : Edge). is_before s.a s.b ≡ true) (edges_of es) s
      (All-map (λ (s : Edge). is_before s.a s.b ≡ true) (λ (e : Entry Count). e.edge) es is.directed) there)
      (All-contains IsStraight (edges_of es) s all there) part

  entries_redrawn : All IsStraightEntry (redrawn boolean precision es)
  entries_redrawn =
      let fs = redrawn boolean precision es in
      All-weaker (Contains fs) IsStraightEntry (λ e here. key_redrawn e.edge (Contains-map (λ (e : Entry Count). e.edge) fs e here)) fs (All-contains_itself fs)

-- ---- what is answered

each_part : (cs : List (List Point)) → AllRectilinear (flat_map contour_steps cs) → AreRectilinear cs
each_part [] all = All-nil (λ c. AllRectilinear (contour_steps c))
each_part (c ∷ cs) all =
    All-cons (λ c. AllRectilinear (contour_steps c)) c cs (All-front IsStraight (contour_steps c) (flat_map contour_steps cs) all)
    (each_part cs (All-back IsStraight (contour_steps c) (flat_map contour_steps cs) all))

module _ (fill : FillRule) (rule : OverlayRule) (es : List (Entry Count)) (output : Bool) (all : All IsStraightEntry es) where
  links_straight : All (λ (l : Border). IsStraight l.edge) (borders fill rule es)
  links_straight =
      All-map (λ (l : Border). IsStraight l.edge) (border_of fill rule es) (boundary fill rule es) (All-filter (is_boundary fill rule es) IsStraightEntry es all)

  steps_straight : AllRectilinear (map (step_along output) (borders fill rule es))
  steps_straight =
      All-map IsStraight (step_along output) (borders fill rule es)
      (All-weaker (λ (l : Border). IsStraight l.edge) (λ (l : Border). IsStraight (step_along output l)) (λ l h. by l h (is_same l.above output)) (borders fill rule es) links_straight)
    where
      by : (l : Border) → IsStraight l.edge → (b : Bool) → IsStraight (cond b (record { a = l.edge.b; b = l.edge.a }) l.edge)
      by l h true = straight_back l.edge.a l.edge.b h
      by l h false = h

module _ (rearranges : (precision : Precision) → Rearranges boolean (redrawn boolean precision)) (ends : (precision : Precision) → RedrawsToTheEnd boolean precision)
    (balanced : (precision : Precision) (es : List (Entry Count)) → IsBalancedMap es → IsBalancedMap (redrawn boolean precision es))
    (orderly : AnswersAreOrderly) (corners : CornersStay) (whole : HorizontalAndVerticalMeetWhole boolean) (lines : (precision : Precision) → RedrawsByLines boolean precision) where
  -- an answer, with all its points and as it is finished
  module _ (least greatest : ℤ) (o : Answering) (fill : FillRule) (rule : OverlayRule) (precision : Precision) (held : List (Entry Count))
      (is_held : IsHeld least greatest held) (none : o.least ≡ 0) (all : AllRectilinear (edges_of (normal boolean held))) where
    abbrev pub redrawn_map : List (Entry Count)
    redrawn_map = redrawn_of precision held

    pub arranged : IsArrangement redrawn_map
    arranged = redrawn_arrangement least greatest precision (rearranges precision) (ends precision) (balanced precision) held is_held

    pub told : AreOrderly o.clockwise o.keep_all (borders fill rule redrawn_map) (answer_with o (borders fill rule redrawn_map))
    told = orderly o fill rule redrawn_map arranged none

    abbrev pub full_contours : List (List Point)
    full_contours = all_contours told.full

    pub are_finished : all_contours (answer_with o (borders fill rule redrawn_map)) ≡ map (finished o.keep_all) full_contours
    are_finished = ap all_contours told.is ∙ all_mapped (finished o.keep_all) told.full

    pub redrawn_straight : All IsStraightEntry redrawn_map
    redrawn_straight = entries_redrawn precision whole (lines precision) (normal boolean held) (normal_is_normal boolean held is_held.directed) all

    pub full_straight : AreRectilinear full_contours
    full_straight =
        each_part full_contours
        (All-permutation IsStraight (map (step_along o.clockwise) (borders fill rule redrawn_map)) (flat_map contour_steps full_contours) told.passed
        (steps_straight fill rule redrawn_map o.clockwise redrawn_straight))

    passed : PassOnce (borders fill rule redrawn_map) (map as_contour full_contours)
    passed = pass_once fill rule redrawn_map o.clockwise full_contours arranged told.passed (in_place_some o.clockwise told.full told.places)

    pub is_thinned : (c : List Point) → Contains full_contours c → IsThinned c (without_straight c)
    is_thinned c here =
        All-contains (λ (c : Contour). IsThinned c.points (without_straight c.points)) (map as_contour full_contours) (as_contour c)
        (corners.thinned fill rule redrawn_map (map as_contour full_contours) arranged passed) (Contains-map as_contour full_contours c here)

    finished_straight : AreRectilinear (map (finished o.keep_all) full_contours)
    finished_straight =
        All-map (λ c. AllRectilinear (contour_steps c)) (finished o.keep_all) full_contours
        (λ i d l. one o.keep_all (get_or full_contours i d) (All-contains_itself full_contours i d l) (full_straight i d l))
      where
        one : (keep_all : Bool) (c : List Point) → Contains full_contours c → AllRectilinear (contour_steps c) → AllRectilinear (contour_steps (finished keep_all c))
        one true c here h = h
        one false c here h = thinned c (without_straight c) (is_thinned c here) h

  pub answers_stay_rectilinear : AnswersStayRectilinear
  answers_stay_rectilinear least greatest o fill rule precision held is_held none all =
      subst AreRectilinear (sym (are_finished least greatest o fill rule precision held is_held none all)) (finished_straight least greatest o fill rule precision held is_held none all)
