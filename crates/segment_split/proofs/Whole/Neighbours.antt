-- Where edges cross at whole points alone, the redrawn map is that of the neighbours on all lines.
use Rattle.std.proofs.Common.{◌≡◌, ◌↔◌, ℕ, zero, suc, ◌<◌, Bool, true, false, cond, List, [], ◌∷◌, ◌++◌, length, map, flat_map, get_or, Option, Some, None, All, Contains, ◌⊎◌, inl, inr, ⊎_elim, subst, Less, is_eq, refl, sym, ap, ◌∙◌, arith}
use Rattle.std.proofs.lemmas.Bool.{false≢true}
use Rattle.std.proofs.lemmas.List.Elements.{All-cons, All-head, All-tail, All-map, All-weaker, All-contains, All-contains_itself}
use Rattle.plane_base.specs.Plane.{Point, Edge, point_order, edge_order}
use Rattle.plane_base.specs.Counts.{Counting, Entry, count_at, IsNormal}
use Rattle.plane_base.specs.Given.{laid_path}
use Rattle.plane_base.specs.Crossing.{late_marks}
use Rattle.plane_base.proofs.Facts.Maps.Normal.{AllPairs-head, AllPairs-tail, normal_edges, with_count, joined_at, count_at_normal, same_normal}
use Rattle.plane_base.proofs.Facts.Maps.Laying.{IsDirected, lay_by}
use Rattle.plane_base.proofs.Facts.Points.Orders.{point_total, edge_itself, edge_equal, is_equal, less_apart}
use Rattle.segment_split.specs.Paths.{path}
use Rattle.segment_split.specs.Passes.{edges_of, marks_on, cut, pass_by}
use Rattle.segment_split.specs.Redrawing.{redrawn}
use Rattle.segment_split.specs.WholeLaws.{AllMeetWhole}
use Rattle.segment_split.specs.LineLaws.{is_part, JoinsNeighbours, entries_along, count_along, IsMapOfNeighbours, RedrawsByLines}
use Rattle.segment_split.specs.declared.solver.Precision.{Precision}
use Rattle.segment_split.proofs.Spread.Lists.{IsDirectedEdge, all_flat_map, edges_contain}
use Rattle.segment_split.proofs.Whole.Marks.{whole_pass}
use Rattle.segment_split.proofs.Whole.Pieces.{directed_edges}
use Rattle.segment_split.proofs.Whole.CutPoints.{part_from, marked_inside, step_is_piece, step_joins, joins_step, marks_are_cut_points}
use Rattle.segment_split.proofs.Passes.Steps.{contains_head, contains_tail, IsRisingPath, IsStep, path_rises, cut_steps}
use Rattle.segment_split.proofs.Passes.Laws.{pass_is_normal}
use Rattle.segment_split.proofs.Passes.Last.{one_pass_is_enough}

-- ---- steps of rising paths

pub contained : {X : Type 0} (x : X) (xs : List X) (y : X) → Contains (x ∷ xs) y → (x ≡ y) ⊎ Contains xs y
contained x xs y h = by h.0 h.1 h.2
  where
    by : (k : ℕ) → k < length (x ∷ xs) → get_or (x ∷ xs) k y ≡ y → (x ≡ y) ⊎ Contains xs y
    by zero l e = inl e
    by (suc k) l e = inr (k, omega arith, e)

pub not_itself : (p : Point) → point_order p p ≡ Less → ⊥
not_itself p l = less_apart point_total p p l refl

pub not_there_and_back : (p q : Point) → point_order p q ≡ Less → point_order q p ≡ Less → ⊥
not_there_and_back p q l m = not_itself p (point_total.trans p q p l m)

pub contains_no : {X : Type 0} (x : X) → Contains [] x → ⊥
contains_no x h = let l : h.0 < 0 = h.1 in absurd (omega arith)

module _ (p q : Point) (rest : List Point) (rising : IsRisingPath (p ∷ q ∷ rest)) where
  abbrev next : Edge
  next = record { a = p; b = q }

  behind : All (λ r. point_order p r ≡ Less) (q ∷ rest)
  behind = AllPairs-head (λ p q. point_order p q ≡ Less) p (q ∷ rest) rising

  pub behind_at : (r : Point) → Contains (q ∷ rest) r → point_order p r ≡ Less
  behind_at r h = All-contains (λ r. point_order p r ≡ Less) (q ∷ rest) r behind h

  pub further : IsRisingPath (q ∷ rest)
  further = AllPairs-tail (λ p q. point_order p q ≡ Less) p (q ∷ rest) rising

  beyond_at : (r : Point) → Contains rest r → point_order q r ≡ Less
  beyond_at r h = All-contains (λ r. point_order q r ≡ Less) rest r (AllPairs-head (λ p q. point_order p q ≡ Less) q rest further) h

  pub first_step : IsStep (p ∷ q ∷ rest) next
  first_step = record {
    first = contains_head p (q ∷ rest);
    second = contains_tail p (q ∷ rest) q (contains_head q rest);
    forward = All-head (λ r. point_order p r ≡ Less) q rest behind;
    free = All-weaker (Contains (p ∷ q ∷ rest)) (λ r. point_order p r ≡ Less → point_order r q ≡ Less → ⊥) none (p ∷ q ∷ rest) (All-contains_itself (p ∷ q ∷ rest));
  }
    where
      none : (r : Point) → Contains (p ∷ q ∷ rest) r → point_order p r ≡ Less → point_order r q ≡ Less → ⊥
      none r h l m =
          ⊎_elim (λ e. not_itself r (ap (λ z. point_order z r) (sym e) ∙ l))
          (λ k. ⊎_elim (λ e. not_itself r (ap (point_order r) (sym e) ∙ m)) (λ k. not_there_and_back r q m (beyond_at r k)) (contained q rest r k))
          (contained p (q ∷ rest) r h)

  pub later_step : (u : Edge) → IsStep (q ∷ rest) u → IsStep (p ∷ q ∷ rest) u
  later_step u h = record {
    first = contains_tail p (q ∷ rest) u.a h.first;
    second = contains_tail p (q ∷ rest) u.b h.second;
    forward = h.forward;
    free =
        All-cons (λ r. point_order u.a r ≡ Less → point_order r u.b ≡ Less → ⊥) p (q ∷ rest)
        (λ l m. not_there_and_back u.a p l (behind_at u.a h.first)) h.free;
  }

  -- a step of the path is the first one, or one of the rest
  pub step_cases : (u : Edge) → IsStep (p ∷ q ∷ rest) u → (next ≡ u) ⊎ IsStep (q ∷ rest) u
  step_cases u h = ⊎_elim (λ e. inl (from_first e)) (λ k. inr (after k)) (contained p (q ∷ rest) u.a h.first)
    where
      free_at : (r : Point) → Contains (p ∷ q ∷ rest) r → point_order u.a r ≡ Less → point_order r u.b ≡ Less → ⊥
      free_at r k = All-contains (λ r. point_order u.a r ≡ Less → point_order r u.b ≡ Less → ⊥) (p ∷ q ∷ rest) r h.free k

      from_first : p ≡ u.a → next ≡ u
      from_first e =
          ⊎_elim (λ f. absurd (not_itself u.b (ap (λ z. point_order z u.b) (sym f ∙ e) ∙ h.forward)))
          (λ k. ⊎_elim (λ f i. record { a = e i; b = f i })
          (λ l. absurd (free_at q (contains_tail p (q ∷ rest) q (contains_head q rest)) (ap (λ z. point_order z q) (sym e) ∙ behind_at q (contains_head q rest)) (beyond_at u.b l)))
          (contained q rest u.b k))
          (contained p (q ∷ rest) u.b h.second)

      after : Contains (q ∷ rest) u.a → IsStep (q ∷ rest) u
      after k = record {
        first = k;
        second = ⊎_elim (λ e. absurd (not_there_and_back u.a u.b h.forward (ap (λ z. point_order z u.a) (sym e) ∙ behind_at u.a k))) (λ l. l) (contained p (q ∷ rest) u.b h.second);
        forward = h.forward;
        free = All-tail (λ r. point_order u.a r ≡ Less → point_order r u.b ≡ Less → ⊥) p (q ∷ rest) h.free;
      }

-- ---- what paths count on an edge

module _ {C : Type 0} (kind : Counting C) (u : Edge) where
  abbrev joins_here : Bool → C → List (Entry C) → Option C
  joins_here b c rest = cond b (with_count kind c (joined_at kind rest u)) (joined_at kind rest u)

  -- b tells whether the path steps from the one end of u to the other
  path_counts : (c : C) (ps : List Point) (rest : List (Entry C)) (b : Bool) → IsRisingPath ps → (b ≡ true → IsStep ps u) → (IsStep ps u → b ≡ true)
      → joined_at kind (laid_path kind c ps ++ rest) u ≡ joins_here b c rest
  path_counts c [] rest true rising f g = absurd (contains_no u.a (f refl).first)
  path_counts c [] rest false rising f g = refl
  path_counts c (p ∷ []) rest true rising f g = absurd (alone (f refl))
    where
      only : (r : Point) → Contains (p ∷ []) r → p ≡ r
      only r h = ⊎_elim (λ e. e) (λ k. absurd (contains_no r k)) (contained p [] r h)

      alone : IsStep (p ∷ []) u → ⊥
      alone h = not_itself u.b (ap (λ z. point_order z u.b) (sym (only u.b h.second) ∙ only u.a h.first) ∙ h.forward)
  path_counts c (p ∷ []) rest false rising f g = refl
  path_counts c (p ∷ q ∷ ps) rest b rising f g =
      ap (λ l. joined_at kind ((l ++ laid_path kind c (q ∷ ps)) ++ rest) u) (ap (λ o. lay_by kind o p q c) (first_step p q ps rising).forward)
      ∙ by (is_eq (edge_order (next p q ps rising) u)) refl (path_counts c (q ∷ ps) rest)
    where
      tail : List (Entry C)
      tail = laid_path kind c (q ∷ ps) ++ rest

      on : Edge
      on = next p q ps rising

      by : (here : Bool) → is_eq (edge_order on u) ≡ here
          → ((d : Bool) → IsRisingPath (q ∷ ps) → (d ≡ true → IsStep (q ∷ ps) u) → (IsStep (q ∷ ps) u → d ≡ true) → joined_at kind tail u ≡ joins_here d c rest)
          → cond here (with_count kind c (joined_at kind tail u)) (joined_at kind tail u) ≡ joins_here b c rest
      by true e later =
          let same : on ≡ u = edge_equal on u (is_equal (edge_order on u) e) in
          let first : p ≡ u.a = ap (λ (s : Edge). s.a) same in
          let none : IsStep (q ∷ ps) u → ⊥ = λ h. not_itself p (behind_at p q ps rising p (subst (Contains (q ∷ ps)) (sym first) h.first)) in
          let rest_alone : joined_at kind tail u ≡ joined_at kind rest u = later false (further p q ps rising) (λ e. absurd (false≢true e)) (λ h. absurd (none h)) in
          let told : b ≡ true = g (subst (IsStep (p ∷ q ∷ ps)) same (first_step p q ps rising)) in
          ap (with_count kind c) rest_alone ∙ sym (ap (λ d. joins_here d c rest) told)
      by false e later =
          let differ : on ≡ u → ⊥ = λ same. false≢true (sym e ∙ ap is_eq (ap (λ s. edge_order s u) same ∙ edge_itself u)) in
          later b (further p q ps rising)
          (λ t. ⊎_elim (λ same. absurd (differ same)) (λ h. h) (step_cases p q ps rising u (f t)))
          (λ h. g (later_step p q ps rising u h))

  -- an entry's path through its marks steps along u exactly where u is a part of its edge
  abbrev StepsAlong : (Entry C → List Point) → Entry C → Type 0
  StepsAlong f e = IsRisingPath (f e) × ((is_part u e.edge ≡ true) ↔ IsStep (f e) u)

  abbrev on_it : List (Entry C) → List (Entry C)
  on_it es = map (λ e. record { edge = u; count = e.count }) es

  paths_count : (f : Entry C → List Point) (es : List (Entry C)) → All (StepsAlong f) es
      → joined_at kind (flat_map (λ e. laid_path kind e.count (f e)) es) u ≡ joined_at kind (on_it (entries_along es u)) u
  paths_count f [] all = refl
  paths_count f (e ∷ es) all =
      let here : StepsAlong f e = All-head (StepsAlong f) e es all in
      path_counts e.count (f e) (flat_map (λ e. laid_path kind e.count (f e)) es) (is_part u e.edge) here.0 here.1.0 here.1.1
      ∙ ap (λ o. cond (is_part u e.edge) (with_count kind e.count o) o) (paths_count f es (All-tail (StepsAlong f) e es all))
      ∙ by (is_part u e.edge)
    where
      by : (b : Bool) → cond b (with_count kind e.count (joined_at kind (on_it (entries_along es u)) u)) (joined_at kind (on_it (entries_along es u)) u)
          ≡ joined_at kind (on_it (cond b (e ∷ entries_along es u) (entries_along es u))) u
      by true = sym (ap (λ o. cond (is_eq o) (with_count kind e.count (joined_at kind (on_it (entries_along es u)) u)) (joined_at kind (on_it (entries_along es u)) u)) (edge_itself u))
      by false = refl

-- ---- counts and edges of a list

pub count_listed : {C : Type 0} (es : List (Entry C)) (u : Edge) (c : C) → count_at es u ≡ Some c → Contains (edges_of es) u
count_listed [] u c h = absurd (cc)
count_listed {C} (e ∷ es) u c h = by (is_eq (edge_order e.edge u)) refl h (count_listed es u c)
  where
    by : (here : Bool) → is_eq (edge_order e.edge u) ≡ here → cond here (Some e.count) (count_at es u) ≡ Some c → (count_at es u ≡ Some c → Contains (edges_of es) u) → Contains (edges_of (e ∷ es)) u
    by true k f rest = (0, omega arith, edge_equal e.edge u (is_equal (edge_order e.edge u) k))
    by false k f rest = let there = rest f in (suc there.0, omega (arith, there.1), there.2)

-- ---- the pass

module _ {C : Type 0} (kind : Counting C) (es : List (Entry C)) (h : IsDirected es) (whole : AllMeetWhole (edges_of es)) where
  directed : All IsDirectedEdge (edges_of es)
  directed = directed_edges kind es h whole

  abbrev points : Entry C → List Point
  points e = path e.edge (marks_on late_marks (edges_of es) e.edge)

  pass_joins : All (λ (e : Entry C). JoinsNeighbours (edges_of es) e.edge) (pass_by kind late_marks es)
  pass_joins =
      normal_edges kind (JoinsNeighbours (edges_of es)) (flat_map (cut kind late_marks (edges_of es)) es)
      (all_flat_map (λ (f : Entry C). JoinsNeighbours (edges_of es) f.edge) (cut kind late_marks (edges_of es)) es
      (λ k d l. each (get_or es k d) (edges_contain es k d l) (h k d l)))
    where
      each : (e : Entry C) → Contains (edges_of es) e.edge → IsDirectedEdge e.edge → All (λ f. JoinsNeighbours (edges_of es) f.edge) (cut kind late_marks (edges_of es) e)
      each e at forward =
          All-weaker (λ (f : Entry C). IsStep (points e) f.edge) (λ f. JoinsNeighbours (edges_of es) f.edge)
          (λ f step. step_joins (edges_of es) directed e.edge at (λ t. whole e.edge t at) f.edge step) (cut kind late_marks (edges_of es) e)
          (cut_steps e.edge forward (marks_on late_marks (edges_of es) e.edge) (marked_inside (edges_of es) directed e.edge at (λ t. whole e.edge t at)) kind e.count)

  pass_counts : (u : Edge) → JoinsNeighbours (edges_of es) u → count_at (pass_by kind late_marks es) u ≡ count_along kind es u
  pass_counts u joins =
      count_at_normal kind (flat_map (cut kind late_marks (edges_of es)) es) u
      ∙ paths_count kind u points es (λ k d l. each (get_or es k d) (edges_contain es k d l) (h k d l))
      ∙ sym (count_at_normal kind (on_it kind u (entries_along es u)) u)
    where
      each : (e : Entry C) → Contains (edges_of es) e.edge → IsDirectedEdge e.edge → StepsAlong kind u points e
      each e at forward = (
        path_rises e.edge forward (marks_on late_marks (edges_of es) e.edge) (marked_inside (edges_of es) directed e.edge at (λ t. whole e.edge t at)),
        (joins_step (edges_of es) directed e.edge at (λ t. whole e.edge t at) u joins, (λ step. part_from u e.edge (step_is_piece (edges_of es) directed e.edge at (λ t. whole e.edge t at) u step))),
      )

-- a directed list becomes the map of its neighbours in one late pass
pub pass_is_map : {C : Type 0} (kind : Counting C) (es : List (Entry C)) → IsDirected es → AllMeetWhole (edges_of es) → IsMapOfNeighbours kind es (pass_by kind late_marks es)
pass_is_map kind es h whole = record {
  is_normal = pass_is_normal kind late_marks es;
  joins = λ u.
      All-contains (JoinsNeighbours (edges_of es)) (edges_of (pass_by kind late_marks es)) u
      (All-map (JoinsNeighbours (edges_of es)) (λ (e : Entry _). e.edge) (pass_by kind late_marks es) (pass_joins kind es h whole));
  counts = pass_counts kind es h whole;
}

module _ {C : Type 0} (kind : Counting C) where
  pub one_map : (es fs gs : List (Entry C)) → IsMapOfNeighbours kind es fs → IsMapOfNeighbours kind es gs → fs ≡ gs
  one_map es fs gs f g = same_normal fs gs f.is_normal g.is_normal (λ u. by u (count_at fs u) (count_at gs u) refl refl)
    where
      at : (u : Edge) → JoinsNeighbours (edges_of es) u → count_at fs u ≡ count_at gs u
      at u h = f.counts u h ∙ sym (g.counts u h)

      by : (u : Edge) (c d : Option C) → count_at fs u ≡ c → count_at gs u ≡ d → count_at fs u ≡ count_at gs u
      by u (Some c) d e k = at u (f.joins u (count_listed fs u c e))
      by u None (Some d) e k = at u (g.joins u (count_listed gs u d k))
      by u None None e k = e ∙ sym k

module _ {C : Type 0} (kind : Counting C) (precision : Precision) where
  pub redrawn_by_a_pass : (es : List (Entry C)) → IsNormal kind es → AllMeetWhole (edges_of es) → redrawn kind precision es ≡ pass_by kind late_marks es
  redrawn_by_a_pass es h whole = (one_pass_is_enough kind precision).is_last es 0 h whole ∙ whole_pass kind precision es 0 whole

  redrawn_is_map : (es : List (Entry C)) → IsNormal kind es → AllMeetWhole (edges_of es) → IsMapOfNeighbours kind es (redrawn kind precision es)
  redrawn_is_map es h whole = subst (IsMapOfNeighbours kind es) (sym (redrawn_by_a_pass es h whole)) (pass_is_map kind es h.directed whole)

  pub redraws_by_lines : RedrawsByLines kind precision
  redraws_by_lines = record {
    marks = λ es k s p h whole at. marks_are_cut_points precision k (edges_of es) s p (directed_edges kind es h.directed whole) at (λ t. whole s t at);
    is_map = redrawn_is_map;
    only = λ es fs h whole map. one_map kind es fs (redrawn kind precision es) map (redrawn_is_map es h whole);
  }
