-- The redrawn map of horizontal and vertical edges as a list: from each point the steps to the next ones above and to the right.
use Rattle.std.proofs.Common.{◌≡◌, ◌↔◌, suc, Bool, true, false, cond, List, [], ◌∷◌, ◌++◌, map, Option, Some, None, All, Contains, ◌⊎◌, inl, inr, ⊎_elim, subst, ℤ, pos, ◌<ℤ◌, ◌≤ℤ◌, int_eq, Ordering, Less, Equal, Greater, is_lt, is_eq, refl, sym, ap, ap₂, ◌∙◌, ◌≢◌, ◌+ℤ◌, arith}
use Rattle.std.proofs.lemmas.Int.{ints, by_lt_z}
use Rattle.std.proofs.lemmas.Bool.{false≢true}
use Rattle.std.proofs.lemmas.Bool.Decides.{Decides-int_eq}
use Rattle.std.proofs.lemmas.Option.{same_Some}
use Rattle.std.proofs.lemmas.List.Elements.{All-nil, All-cons, All-head, All-tail, All-append, All-map, All-weaker, All-contains, All-filter, filter_passes, Contains-append_left, Contains-append_right}
use Rattle.plane_base.specs.Plane.{Point, Edge, is_before, point_order, edge_order}
use Rattle.plane_base.specs.Segments.{strictly_inside}
use Rattle.plane_base.specs.Counts.{Counting, Entry, normal, count_at, IsNormal}
use Rattle.plane_base.proofs.Facts.Maps.Normal.{AllPairs-nil, AllPairs-head, AllPairs-tail, IsAbove, IsRising, rising_cons, IsCounted, normal_counted, count_at_counted, with_count, joined_at, count_at_normal}
use Rattle.plane_base.specs.Crossing.{late_marks}
use Rattle.plane_base.specs.WholeLaws.{IsPiece}
use Rattle.plane_base.proofs.Facts.Maps.Laying.{IsDirected}
use Rattle.plane_base.proofs.Facts.Points.Orders.{point_total, point_equal, point_itself, less_from_greater, point_less_by_x, point_less_by_y, before_is_less, edge_itself, edge_equal, is_equal}
use Rattle.segment_split.specs.Passes.{edges_of, pass_by}
use Rattle.segment_split.specs.Redrawing.{redrawn}
use Rattle.segment_split.specs.LineLaws.{is_rectilinear, AllRectilinear, IsCutPoint, is_part, JoinsNeighbours, entries_along, count_along, IsMapOfNeighbours, PassesUpThrough, PassesHorizontalThrough, IsMetAt, SpansHorizontal, SpansUp, IsEndOfSome, IsCrossing, ArePoints, first_by, right_of, above, counted_step, step_to, steps_between}
use Rattle.segment_split.specs.declared.solver.Precision.{Precision}
use Rattle.segment_split.proofs.Spread.Lists.{IsDirectedEdge, edges_contain}
use Rattle.segment_split.proofs.Passes.Steps.{contains_head, IsRisingPath, inside_is, inside_from}
use Rattle.segment_split.proofs.Whole.CutPoints.{part_tells}
use Rattle.segment_split.proofs.Whole.RectilinearEdges.{IsHorizontal, IsVertical, rectilinear, horizontal_meet_whole, horizontal_and_vertical_meet_whole}
use Rattle.segment_split.proofs.Whole.Coordinates.{horizontal_flat, vertical_flat, less_by_x, less_by_y, horizontal_line, vertical_line, cut_by_coordinates}
use Rattle.segment_split.proofs.Whole.Neighbours.{contained, contains_no, not_itself, not_there_and_back, redrawn_by_a_pass, pass_is_map, one_map}
use Rattle.plane_base.proofs.Facts.Points.AlongOrder.{up_through}

later : {X : Type 0} (x : X) (xs : List X) (y : X) → Contains xs y → Contains (x ∷ xs) y
later x xs y h = (suc h.0, omega (arith, h.1), h.2)

-- ---- the first of a rising list that passes a test

module _ (test : Point → Bool) where
  pub record IsFirst (ps : List Point) (q : Point) : Type 0 where
    pub listed : Contains ps q
    pub passes : test q ≡ true
    pub least : (r : Point) → Contains ps r → test r ≡ true → point_order r q ≡ Less → ⊥

  pub first_tells : (ps : List Point) (q : Point) → IsRisingPath ps → first_by test ps ≡ Some q → IsFirst ps q
  first_tells [] q rising e = absurd (cc)
  first_tells (p ∷ ps) q rising e = by (test p) refl e (first_tells ps q (AllPairs-tail (λ p q. point_order p q ≡ Less) p ps rising))
    where
      behind : (r : Point) → Contains ps r → point_order p r ≡ Less
      behind r h = All-contains (λ r. point_order p r ≡ Less) ps r (AllPairs-head (λ p q. point_order p q ≡ Less) p ps rising) h

      by : (b : Bool) → test p ≡ b → cond b (Some p) (first_by test ps) ≡ Some q → (first_by test ps ≡ Some q → IsFirst ps q) → IsFirst (p ∷ ps) q
      by true t f rest =
          let same : p ≡ q = same_Some p q f in
          record {
            listed = subst (Contains (p ∷ ps)) same (contains_head p ps);
            passes = ap test (sym same) ∙ t;
            least = λ r there k l.
                ⊎_elim (λ m. not_itself q (ap (λ z. point_order z q) (sym same ∙ m) ∙ l)) (λ m. not_there_and_back r q l (ap (λ z. point_order z r) (sym same) ∙ behind r m)) (contained p ps r there);
          }
      by false t f rest =
          let first = rest f in
          record {
            listed = later p ps q first.listed;
            passes = first.passes;
            least = λ r there k l. ⊎_elim (λ m. false≢true (sym t ∙ ap test m ∙ k)) (λ m. first.least r m k l) (contained p ps r there);
          }

  pub first_some : (ps : List Point) (q : Point) → Contains ps q → test q ≡ true → first_by test ps ≡ None → ⊥
  first_some [] q h k e = contains_no q h
  first_some (p ∷ ps) q h k e = by (test p) refl e (first_some ps q)
    where
      by : (b : Bool) → test p ≡ b → cond b (Some p) (first_by test ps) ≡ None → (Contains ps q → test q ≡ true → first_by test ps ≡ None → ⊥) → ⊥
      by true t f rest = absurd (cc)
      by false t f rest = ⊎_elim (λ m. false≢true (sym t ∙ ap test m ∙ k)) (λ m. rest m k f) (contained p ps q h)

  first_finds : (ps : List Point) (q : Point) → IsRisingPath ps → IsFirst ps q → first_by test ps ≡ Some q
  first_finds ps q rising h = by (first_by test ps) refl
    where
      by : (o : Option Point) → first_by test ps ≡ o → o ≡ Some q
      by None e = absurd (first_some ps q h.listed h.passes e)
      by (Some r) e =
          let first = first_tells ps r rising e in
          at (point_order r q) refl first
        where
          at : (o : Ordering) → point_order r q ≡ o → IsFirst ps r → Some r ≡ Some q
          at Less l first = absurd (h.least r first.listed first.passes l)
          at Equal l first = ap Some (point_equal r q l)
          at Greater l first = absurd (first.least q h.listed h.passes (less_from_greater point_total r q l))

-- ---- steps along one coordinate: g is the other

-- u steps from a point of the list to the next one with the same g
pub record IsStepAlong (g : Point → ℤ) (ps : List Point) (u : Edge) : Type 0 where
  pub first : Contains ps u.a
  pub second : Contains ps u.b
  pub forward : point_order u.a u.b ≡ Less
  pub same : g u.a ≡ g u.b
  pub free : (r : Point) → Contains ps r → g r ≡ g u.a → point_order u.a r ≡ Less → point_order r u.b ≡ Less → ⊥

module _ {C : Type 0} (kind : Counting C) (es : List (Entry C)) where
  -- what the entry counts is counted along its edge
  abbrev CountsAlong : Entry C → Type 0
  CountsAlong f = count_along kind es f.edge ≡ Some f.count

  counted_holds : (P : Entry C → Type 0) (u : Edge) (o : Option C) → ((c : C) → o ≡ Some c → P (record { edge = u; count = c })) → All P (counted_step u o)
  counted_holds P u None h = All-nil P
  counted_holds P u (Some c) h = All-cons P (record { edge = u; count = c }) [] (h c refl) (All-nil P)

  module _ (g : Point → ℤ) (p : Point) (ps : List Point) (rising : IsRisingPath (p ∷ ps)) where
    abbrev beside : Point → Bool
    beside q = int_eq (g q) (g p)

    abbrev step_along : List (Entry C)
    step_along = step_to kind es p (first_by beside ps)

    behind : (r : Point) → Contains ps r → point_order p r ≡ Less
    behind r h = All-contains (λ r. point_order p r ≡ Less) ps r (AllPairs-head (λ p q. point_order p q ≡ Less) p ps rising) h

    rest_rising : IsRisingPath ps
    rest_rising = AllPairs-tail (λ p q. point_order p q ≡ Less) p ps rising

    steps_along : All (λ f. (f.edge.a ≡ p) × (IsStepAlong g (p ∷ ps) f.edge × CountsAlong f)) step_along
    steps_along = by (first_by beside ps) refl
      where
        by : (o : Option Point) → first_by beside ps ≡ o → All (λ f. (f.edge.a ≡ p) × (IsStepAlong g (p ∷ ps) f.edge × CountsAlong f)) (step_to kind es p o)
        by None e = All-nil (λ f. (f.edge.a ≡ p) × (IsStepAlong g (p ∷ ps) f.edge × CountsAlong f))
        by (Some q) e =
            counted_holds (λ f. (f.edge.a ≡ p) × (IsStepAlong g (p ∷ ps) f.edge × CountsAlong f)) (record { a = p; b = q }) (count_along kind es (record { a = p; b = q }))
            (λ c counts. (refl, (step, counts)))
          where
            first : IsFirst beside ps q
            first = first_tells beside ps q rest_rising e

            step : IsStepAlong g (p ∷ ps) (record { a = p; b = q })
            step = record {
              first = contains_head p ps;
              second = later p ps q first.listed;
              forward = behind q first.listed;
              same = sym ((Decides-int_eq (g q) (g p)).0 first.passes);
              free = λ r there same l m.
                  ⊎_elim (λ k. not_itself r (ap (λ z. point_order z r) (sym k) ∙ l)) (λ k. first.least r k ((Decides-int_eq (g r) (g p)).1 same) m) (contained p ps r there);
            }

    step_there : (u : Edge) (c : C) → IsStepAlong g (p ∷ ps) u → p ≡ u.a → count_along kind es u ≡ Some c → Contains step_along (record { edge = u; count = c })
    step_there u c h e counts =
        subst (λ o. Contains (step_to kind es p o) (record { edge = u; count = c })) (sym found)
        (subst (λ v. Contains (counted_step v (count_along kind es v)) (record { edge = u; count = c })) (λ i. record { a = sym e i; b = u.b })
        (subst (λ o. Contains (counted_step u o) (record { edge = u; count = c })) (sym counts) (0, omega arith, refl)))
      where
        second : Contains ps u.b
        second = ⊎_elim (λ k. absurd (not_itself u.b (ap (λ z. point_order z u.b) (sym k ∙ e) ∙ h.forward))) (λ k. k) (contained p ps u.b h.second)

        found : first_by beside ps ≡ Some u.b
        found =
            first_finds beside ps u.b rest_rising
            (record {
              listed = second;
              passes = (Decides-int_eq (g u.b) (g p)).1 (sym h.same ∙ ap g (sym e));
              least = λ r there passes l. h.free r (later p ps r there) ((Decides-int_eq (g r) (g p)).0 passes ∙ ap g e) (ap (λ z. point_order z r) (sym e) ∙ behind r there) l;
            })

    step_later : (u : Edge) → IsStepAlong g ps u → IsStepAlong g (p ∷ ps) u
    step_later u h = record {
      first = later p ps u.a h.first;
      second = later p ps u.b h.second;
      forward = h.forward;
      same = h.same;
      free = λ r there same l m.
          ⊎_elim (λ k. not_there_and_back p u.a (behind u.a h.first) (ap (point_order u.a) k ∙ l)) (λ k. h.free r k same l m) (contained p ps r there);
    }

    step_of_rest : (u : Edge) → IsStepAlong g (p ∷ ps) u → Contains ps u.a → IsStepAlong g ps u
    step_of_rest u h first = record {
      first = first;
      second = ⊎_elim (λ k. absurd (not_there_and_back p u.a (behind u.a first) (ap (point_order u.a) k ∙ h.forward))) (λ k. k) (contained p ps u.b h.second);
      forward = h.forward;
      same = h.same;
      free = λ r there. h.free r (later p ps r there);
    }

  -- ---- all steps

  abbrev upward : Point → ℤ
  upward p = p.x

  abbrev onward : Point → ℤ
  onward p = p.y

  abbrev IsStepIn : List Point → Edge → Type 0
  IsStepIn ps u = IsStepAlong upward ps u ⊎ IsStepAlong onward ps u

  abbrev IsStepEntry : List Point → Entry C → Type 0
  IsStepEntry ps f = IsStepIn ps f.edge × CountsAlong f

  steps_are : (ps : List Point) → IsRisingPath ps → All (IsStepEntry ps) (steps_between kind es ps)
  steps_are [] rising = All-nil (IsStepEntry [])
  steps_are (p ∷ ps) rising =
      All-append (IsStepEntry (p ∷ ps)) (step_along upward p ps rising) (step_along onward p ps rising ++ steps_between kind es ps)
      (All-weaker (λ f. (f.edge.a ≡ p) × (IsStepAlong upward (p ∷ ps) f.edge × CountsAlong f)) (IsStepEntry (p ∷ ps)) (λ f h. (inl h.1.0, h.1.1)) (step_along upward p ps rising) (steps_along upward p ps rising))
      (All-append (IsStepEntry (p ∷ ps)) (step_along onward p ps rising) (steps_between kind es ps)
      (All-weaker (λ f. (f.edge.a ≡ p) × (IsStepAlong onward (p ∷ ps) f.edge × CountsAlong f)) (IsStepEntry (p ∷ ps)) (λ f h. (inr h.1.0, h.1.1)) (step_along onward p ps rising) (steps_along onward p ps rising))
      (All-weaker (IsStepEntry ps) (IsStepEntry (p ∷ ps)) (λ f h. (⊎_elim (λ k. inl (step_later upward p ps rising f.edge k)) (λ k. inr (step_later onward p ps rising f.edge k)) h.0, h.1))
      (steps_between kind es ps) (steps_are ps (rest_rising upward p ps rising))))

  steps_have : (ps : List Point) (u : Edge) (c : C) → IsRisingPath ps → IsStepIn ps u → count_along kind es u ≡ Some c → Contains (steps_between kind es ps) (record { edge = u; count = c })
  steps_have [] u c rising h counts = absurd (⊎_elim (λ k. contains_no u.a k.first) (λ k. contains_no u.a k.first) h)
  steps_have (p ∷ ps) u c rising h counts = by (λ k. steps_have ps u c (rest_rising upward p ps rising) k counts) h
    where
      after : (IsStepIn ps u → Contains (steps_between kind es ps) (record { edge = u; count = c })) → IsStepIn ps u → Contains (steps_between kind es (p ∷ ps)) (record { edge = u; count = c })
      after rest k =
          Contains-append_right (step_along upward p ps rising) (step_along onward p ps rising ++ steps_between kind es ps) (record { edge = u; count = c })
          (Contains-append_right (step_along onward p ps rising) (steps_between kind es ps) (record { edge = u; count = c }) (rest k))

      up : (IsStepIn ps u → Contains (steps_between kind es ps) (record { edge = u; count = c })) → IsStepAlong upward (p ∷ ps) u → Contains (steps_between kind es (p ∷ ps)) (record { edge = u; count = c })
      up rest k =
          ⊎_elim (λ e. Contains-append_left (step_along upward p ps rising) (step_along onward p ps rising ++ steps_between kind es ps) (record { edge = u; count = c }) (step_there upward p ps rising u c k e counts))
          (λ l. after rest (inl (step_of_rest upward p ps rising u k l))) (contained p ps u.a k.first)

      on : (IsStepIn ps u → Contains (steps_between kind es ps) (record { edge = u; count = c })) → IsStepAlong onward (p ∷ ps) u → Contains (steps_between kind es (p ∷ ps)) (record { edge = u; count = c })
      on rest k =
          ⊎_elim
          (λ e. Contains-append_right (step_along upward p ps rising) (step_along onward p ps rising ++ steps_between kind es ps) (record { edge = u; count = c })
          (Contains-append_left (step_along onward p ps rising) (steps_between kind es ps) (record { edge = u; count = c }) (step_there onward p ps rising u c k e counts)))
          (λ l. after rest (inr (step_of_rest onward p ps rising u k l))) (contained p ps u.a k.first)

      by : (IsStepIn ps u → Contains (steps_between kind es ps) (record { edge = u; count = c })) → IsStepIn (p ∷ ps) u → Contains (steps_between kind es (p ∷ ps)) (record { edge = u; count = c })
      by rest (inl k) = up rest k
      by rest (inr k) = on rest k

  -- ---- they rise

  -- a list of entries before others
  before_all : (fs gs : List (Entry C)) → IsRising fs → IsRising gs → All (λ f. All (IsAbove f.edge) gs) fs → IsRising (fs ++ gs)
  before_all [] gs h k all = k
  before_all (f ∷ fs) gs h k all =
      rising_cons f (fs ++ gs)
      (All-append (IsAbove f.edge) fs gs (AllPairs-head (λ (e f : Entry C). edge_order e.edge f.edge ≡ Less) f fs h) (All-head (λ f. All (IsAbove f.edge) gs) f fs all))
      (before_all fs gs (AllPairs-tail (λ (e f : Entry C). edge_order e.edge f.edge ≡ Less) f fs h) k (All-tail (λ f. All (IsAbove f.edge) gs) f fs all))

  one_rising : (p : Point) (o : Option Point) → IsRising (step_to kind es p o)
  one_rising p None = AllPairs-nil (λ (e f : Entry C). edge_order e.edge f.edge ≡ Less)
  one_rising p (Some q) = by (count_along kind es (record { a = p; b = q }))
    where
      by : (o : Option C) → IsRising (counted_step (record { a = p; b = q }) o)
      by None = AllPairs-nil (λ (e f : Entry C). edge_order e.edge f.edge ≡ Less)
      by (Some c) = rising_cons (record { edge = record { a = p; b = q }; count = c }) [] (All-nil (IsAbove (record { a = p; b = q }))) (AllPairs-nil (λ (e f : Entry C). edge_order e.edge f.edge ≡ Less))

  edge_less_by_first : (s t : Edge) → point_order s.a t.a ≡ Less → edge_order s t ≡ Less
  edge_less_by_first s t e = rw e refl

  edge_less_by_second : (s t : Edge) → s.a ≡ t.a → point_order s.b t.b ≡ Less → edge_order s t ≡ Less
  edge_less_by_second s t e f = rw (e, point_itself t.a) f

  steps_rise : (ps : List Point) → IsRisingPath ps → IsRising (steps_between kind es ps)
  steps_rise [] rising = AllPairs-nil (λ (e f : Entry C). edge_order e.edge f.edge ≡ Less)
  steps_rise (p ∷ ps) rising =
      before_all (step_along upward p ps rising) (step_along onward p ps rising ++ steps_between kind es ps) (one_rising p (first_by (beside upward p ps rising) ps))
      (before_all (step_along onward p ps rising) (steps_between kind es ps) (one_rising p (first_by (beside onward p ps rising) ps)) (steps_rise ps (rest_rising upward p ps rising))
      (All-weaker (λ f. (f.edge.a ≡ p) × (IsStepAlong onward (p ∷ ps) f.edge × CountsAlong f)) (λ f. All (IsAbove f.edge) (steps_between kind es ps)) (λ f h. all_later f h.0) (step_along onward p ps rising) (steps_along onward p ps rising)))
      (All-weaker (λ f. (f.edge.a ≡ p) × (IsStepAlong upward (p ∷ ps) f.edge × CountsAlong f)) (λ f. All (IsAbove f.edge) (step_along onward p ps rising ++ steps_between kind es ps))
      (λ f h. All-append (IsAbove f.edge) (step_along onward p ps rising) (steps_between kind es ps) (across f h.0 h.1.0) (all_later f h.0)) (step_along upward p ps rising) (steps_along upward p ps rising))
    where
      all_later : (f : Entry C) → f.edge.a ≡ p → All (IsAbove f.edge) (steps_between kind es ps)
      all_later f e =
          All-weaker (IsStepEntry ps) (IsAbove f.edge)
          (λ k h. edge_less_by_first f.edge k.edge (ap (λ z. point_order z k.edge.a) e ∙ behind upward p ps rising k.edge.a (⊎_elim (λ m. m.first) (λ m. m.first) h.0)))
          (steps_between kind es ps) (steps_are ps (rest_rising upward p ps rising))

      across : (f : Entry C) → f.edge.a ≡ p → IsStepAlong upward (p ∷ ps) f.edge → All (IsAbove f.edge) (step_along onward p ps rising)
      across f e up =
          All-weaker (λ k. (k.edge.a ≡ p) × (IsStepAlong onward (p ∷ ps) k.edge × CountsAlong k)) (IsAbove f.edge)
          (λ k h. edge_less_by_second f.edge k.edge (e ∙ sym h.0) (point_less_by_x f.edge.b k.edge.b (less f.edge k.edge (ap upward (e ∙ sym h.0)) up.same h.1.0.same h.1.0.forward)))
          (step_along onward p ps rising) (steps_along onward p ps rising)
        where
          less : (s t : Edge) → s.a.x ≡ t.a.x → s.a.x ≡ s.b.x → t.a.y ≡ t.b.y → point_order t.a t.b ≡ Less → s.b.x <ℤ t.b.x
          less s t e f g l = let k = less_by_x t.a t.b g l in close s.a.x t.a.x s.b.x t.b.x e f k
            where
              close : (x y z w : ℤ) → x ≡ y → x ≡ z → y <ℤ w → z <ℤ w
              close x y z w e f h = omega (arith, ints)

-- ---- an entry of a rising list

count_of_member : {C : Type 0} (fs : List (Entry C)) (u : Edge) (c : C) → IsRising fs → Contains fs (record { edge = u; count = c }) → count_at fs u ≡ Some c
count_of_member [] u c rising h = absurd (contains_no _ h)
count_of_member {C} (f ∷ fs) u c rising h = by (is_eq (edge_order f.edge u)) refl (count_of_member fs u c (AllPairs-tail (λ (e f : Entry C). edge_order e.edge f.edge ≡ Less) f fs rising)) (contained f fs (record { edge = u; count = c }) h)
  where
    above : (k : Entry C) → Contains fs k → edge_order f.edge k.edge ≡ Less
    above k m = All-contains (IsAbove f.edge) fs k (AllPairs-head (λ (e f : Entry C). edge_order e.edge f.edge ≡ Less) f fs rising) m

    by : (b : Bool) → is_eq (edge_order f.edge u) ≡ b → (Contains fs (record { edge = u; count = c }) → count_at fs u ≡ Some c) → (f ≡ record { edge = u; count = c }) ⊎ Contains fs (record { edge = u; count = c })
        → cond b (Some f.count) (count_at fs u) ≡ Some c
    by true e rest (inl m) = ap (λ (k : Entry C). Some k.count) m
    by true e rest (inr m) = absurd (level (edge_order f.edge u) e (above (record { edge = u; count = c }) m))
      where
        level : (o : Ordering) → is_eq o ≡ true → o ≡ Less → ⊥
        level Less e f = absurd (cc)
        level Equal e f = absurd (cc)
        level Greater e f = absurd (cc)
    by false e rest (inl m) = absurd (false≢true (sym e ∙ ap is_eq (ap (λ (k : Entry C). edge_order k.edge u) m ∙ edge_itself u)))
    by false e rest (inr m) = rest m

-- ---- what a list counts at an edge is what an entry of it counts

module _ {C : Type 0} (kind : Counting C) (es : List (Entry C)) (ps : List Point) where
  listed_counts : (fs : List (Entry C)) → All (IsStepEntry kind es ps) fs → (u : Edge) (c : C) → count_at fs u ≡ Some c → count_along kind es u ≡ Some c
  listed_counts [] entries u c e = absurd (cc)
  listed_counts (f ∷ fs) entries u c e = by (is_eq (edge_order f.edge u)) refl e (listed_counts fs (All-tail (IsStepEntry kind es ps) f fs entries) u c)
    where
      by : (b : Bool) → is_eq (edge_order f.edge u) ≡ b → cond b (Some f.count) (count_at fs u) ≡ Some c → (count_at fs u ≡ Some c → count_along kind es u ≡ Some c) → count_along kind es u ≡ Some c
      by true l k rest = ap (count_along kind es) (sym (edge_equal f.edge u (is_equal (edge_order f.edge u) l))) ∙ (All-head (IsStepEntry kind es ps) f fs entries).1 ∙ k
      by false l k rest = rest k

-- ---- numbers

pub weak : (x y : ℤ) → x <ℤ y → x ≤ℤ y
weak x y h = omega (arith, ints)

weaken : (x y z : ℤ) → x ≤ℤ y → y <ℤ z → x ≤ℤ z
weaken x y z h k = omega (arith, ints)

weaker : (x y z : ℤ) → x <ℤ y → y ≤ℤ z → x ≤ℤ z
weaker x y z h k = omega (arith, ints)

le_lt : (x y z : ℤ) → x ≤ℤ y → y <ℤ z → x <ℤ z
le_lt x y z h k = omega (arith, ints)

level_le : (x : ℤ) → x ≤ℤ x
level_le x = omega (arith, ints)

one_more : (x : ℤ) → x <ℤ (x +ℤ pos 1)
one_more x = omega (arith, ints)

next_up : (x y z : ℤ) → x <ℤ y → y ≤ℤ z → (x +ℤ pos 1) ≤ℤ z
next_up x y z h k = omega (arith, ints)

pub up_to : (x y : ℤ) → x <ℤ y → (x +ℤ pos 1) ≤ℤ y
up_to x y h = omega (arith, ints)

down_to : (x y : ℤ) → (x +ℤ pos 1) ≤ℤ y → x ≤ℤ y
down_to x y h = omega (arith, ints)

past : (x y z : ℤ) → x ≤ℤ y → (y +ℤ pos 1) ≤ℤ z → x <ℤ z
past x y z h k = omega (arith, ints)

same_place : (x y : ℤ) → x ≤ℤ y → y ≤ℤ x → x ≡ y
same_place x y h k = omega (arith, ints)

-- ---- points

abbrev point_at : ℤ → ℤ → Point
point_at x y = record { x = x; y = y }

abbrev point_over : ℤ → ℤ → Point
point_over y x = record { x = x; y = y }

horizontal_before : (a b : Point) → a.y ≡ b.y → a.x <ℤ b.x → point_order a b ≡ Less
horizontal_before a b e h = point_less_by_x a b h

vertical_before : (a b : Point) → a.x ≡ b.x → a.y <ℤ b.y → point_order a b ≡ Less
vertical_before a b e h = point_less_by_y a b e h

pub some_not_none : {X : Type 0} {o : Option X} {x : X} → o ≡ Some x → o ≢ None
some_not_none e f = let g = sym e ∙ f in absurd (cc)

ends_decided : (es : List Edge) (p : Point) → IsEndOfSome es p ⊎ (IsEndOfSome es p → ⊥)
ends_decided [] p = inr (λ h. contains_no h.0 h.1)
ends_decided (s ∷ es) p = by (point_order p s.a) (point_order p s.b) refl refl (ends_decided es p)
  where
    none : point_order p s.a ≢ Equal → point_order p s.b ≢ Equal → (IsEndOfSome es p → ⊥) → IsEndOfSome (s ∷ es) p → ⊥
    none e f rest h =
        ⊎_elim
        (λ m. ⊎_elim (λ k. e (ap (point_order p) (ap (λ (r : Edge). r.a) m ∙ sym k) ∙ point_itself p)) (λ k. f (ap (point_order p) (ap (λ (r : Edge). r.b) m ∙ sym k) ∙ point_itself p)) h.2)
        (λ m. rest (h.0, m, h.2)) (contained s es h.0 h.1)

    differ : (o : Ordering) → point_order p s.a ≡ o → o ≢ Equal → point_order p s.a ≢ Equal
    differ o e f g = f (sym e ∙ g)

    differ_second : (o : Ordering) → point_order p s.b ≡ o → o ≢ Equal → point_order p s.b ≢ Equal
    differ_second o e f g = f (sym e ∙ g)

    is_not : (o : Ordering) → (o ≡ Equal) ⊎ (o ≢ Equal)
    is_not Less = inr (λ e. absurd (cc))
    is_not Equal = inl refl
    is_not Greater = inr (λ e. absurd (cc))

    by : (o r : Ordering) → point_order p s.a ≡ o → point_order p s.b ≡ r → IsEndOfSome es p ⊎ (IsEndOfSome es p → ⊥) → IsEndOfSome (s ∷ es) p ⊎ (IsEndOfSome (s ∷ es) p → ⊥)
    by o r e f rest =
        ⊎_elim (λ k. inl (s, (0, omega arith, refl), inl (point_equal p s.a (e ∙ k))))
        (λ k. ⊎_elim (λ l. inl (s, (0, omega arith, refl), inr (point_equal p s.b (f ∙ l))))
        (λ l. ⊎_elim (λ m. inl (m.0, later s es m.0 m.1, m.2)) (λ m. inr (none (differ o e k) (differ_second r f l) m)) rest) (is_not r))
        (is_not o)

-- ---- what counts along two edges is the same where the same edges run along both

module _ {C : Type 0} (kind : Counting C) (es : List (Entry C)) (u v : Edge) where
  filter_alike : (fs : List (Entry C)) → All (λ e. is_part u e.edge ≡ is_part v e.edge) fs → entries_along fs u ≡ entries_along fs v
  filter_alike [] all = refl
  filter_alike (f ∷ fs) all =
      ap₂ (λ b l. cond b (f ∷ l) l) (All-head (λ e. is_part u e.edge ≡ is_part v e.edge) f fs all) (filter_alike fs (All-tail (λ e. is_part u e.edge ≡ is_part v e.edge) f fs all))

  relabelled : (fs : List (Entry C)) → joined_at kind (map (λ e. record { edge = u; count = e.count }) fs) u ≡ joined_at kind (map (λ e. record { edge = v; count = e.count }) fs) v
  relabelled [] = refl
  relabelled (f ∷ fs) =
      ap₂ (λ b o. cond b (with_count kind f.count o) o) (ap is_eq (edge_itself u) ∙ sym (ap is_eq (edge_itself v))) (relabelled fs)

  same_along : ((s : Edge) → Contains (edges_of es) s → (is_part u s ≡ true → is_part v s ≡ true) × (is_part v s ≡ true → is_part u s ≡ true)) → count_along kind es u ≡ count_along kind es v
  same_along h =
      count_at_normal kind (map (λ e. record { edge = u; count = e.count }) (entries_along es u)) u
      ∙ relabelled (entries_along es u)
      ∙ ap (λ l. joined_at kind (map (λ e. record { edge = v; count = e.count }) l) v) (filter_alike es (λ k d l. alike _ (edges_contain es k d l)))
      ∙ sym (count_at_normal kind (map (λ e. record { edge = v; count = e.count }) (entries_along es v)) v)
    where
      alike : (s : Edge) → Contains (edges_of es) s → is_part u s ≡ is_part v s
      alike s at = by (is_part u s) (is_part v s) refl refl
        where
          by : (b c : Bool) → is_part u s ≡ b → is_part v s ≡ c → b ≡ c
          by true c e f = sym ((h s at).0 e) ∙ f
          by false true e f = sym e ∙ (h s at).1 f
          by false false e f = refl

-- ---- the points and steps of a map

module _ {C : Type 0} (kind : Counting C) (es : List (Entry C)) (h : IsDirected es) (all : AllRectilinear (edges_of es)) (ps : List Point) (points : ArePoints kind es ps) where
  pub directed_entry : (s : Edge) → Contains (edges_of es) s → is_before s.a s.b ≡ true
  directed_entry s at = All-contains IsDirectedEdge (edges_of es) s (All-map IsDirectedEdge (λ (e : Entry C). e.edge) es h) at

  pub an_end : (s : Edge) → Contains (edges_of es) s → (p : Point) → ((p ≡ s.a) ⊎ (p ≡ s.b)) → Contains ps p
  an_end s at p e = points.ends p (s, at, e)

  met_up : (p : Point) → Contains ps p → IsMetAt PassesUpThrough (edges_of es) p
  met_up p at = ⊎_elim (λ k. (k.0, k.1, inl k.2)) (λ k. (k.0.0, k.0.1, inr k.0.2)) (points.only p at)

  met_horizontal : (p : Point) → Contains ps p → IsMetAt PassesHorizontalThrough (edges_of es) p
  met_horizontal p at = ⊎_elim (λ k. (k.0, k.1, inl k.2)) (λ k. (k.1.0, k.1.1, inr k.1.2)) (points.only p at)

  -- what counts along an edge is there
  some_along : (u : Edge) (c : C) → count_along kind es u ≡ Some c → (s : Edge) × Contains (edges_of es) s × (is_part u s ≡ true)
  some_along u c counts = by (entries_along es u) refl counts
    where
      each : All (λ e. Contains (edges_of es) e.edge × (is_part u e.edge ≡ true)) (entries_along es u)
      each k d l = (All-filter (λ e. is_part u e.edge) (λ e. Contains (edges_of es) e.edge) es (edges_contain es) k d l, filter_passes (λ e. is_part u e.edge) es k d l)

      by : (l : List (Entry C)) → entries_along es u ≡ l → count_at (normal kind (map (λ e. record { edge = u; count = e.count }) l)) u ≡ Some c → (s : Edge) × Contains (edges_of es) s × (is_part u s ≡ true)
      by [] e f = absurd (cc)
      by (e ∷ l) f g = let first = All-head (λ e. Contains (edges_of es) e.edge × (is_part u e.edge ≡ true)) e l (subst (All (λ e. Contains (edges_of es) e.edge × (is_part u e.edge ≡ true))) f each) in (e.edge, first.0, first.1)

  -- ---- horizontal edges

  module _ (u : Edge) (forward : is_before u.a u.b ≡ true) (level : IsHorizontal u) where
    pub horizontal_cut_is : (p : Point) → IsCutPoint (edges_of es) u p ↔ ((p.y ≡ u.a.y) × IsMetAt PassesUpThrough (edges_of es) p)
    horizontal_cut_is p = horizontal_line es u p h all forward level

    pub horizontal_parts : (v s : Edge) → is_before v.a v.b ≡ true → IsHorizontal v → Contains (edges_of es) s → (is_part v s ≡ true) ↔ SpansHorizontal s v
    horizontal_parts v s next other at = (cut_by_coordinates kind).horizontal_part v s next (directed_entry s at) other

    pub point_cuts_horizontal : (p : Point) → Contains ps p → p.y ≡ u.a.y → IsCutPoint (edges_of es) u p
    point_cuts_horizontal p at e = (horizontal_cut_is p).1 (e, met_up p at)

    horizontal_long : u.a.x <ℤ u.b.x
    horizontal_long = less_by_x u.a u.b level (before_is_less u.a u.b forward)

    -- no edge of the list ends on u between its ends
    abbrev HorizontalIsFree : Type 0
    HorizontalIsFree =
        (s : Edge) → Contains (edges_of es) s → (q : Point) → (q ≡ s.a) ⊎ (q ≡ s.b) → q.y ≡ u.a.y → u.a.x <ℤ q.x → q.x <ℤ u.b.x → ⊥

    -- one to the next place on the line
    abbrev horizontal_short : Point → Edge
    horizontal_short p = record { a = p; b = right_of p }

    pub short_horizontal_before : (p : Point) → is_before p (right_of p) ≡ true
    short_horizontal_before p = ap is_lt (point_less_by_x p (right_of p) (one_more p.x))

    -- what counts along u counts at each of its places
    horizontal_counts_inside : HorizontalIsFree → (p : Point) → p.y ≡ u.a.y → u.a.x ≤ℤ p.x → p.x <ℤ u.b.x → count_along kind es (horizontal_short p) ≡ count_along kind es u
    horizontal_counts_inside free p e from to = same_along kind es (horizontal_short p) u (λ s at. (shorter s at, longer s at))
      where
        longer : (s : Edge) → Contains (edges_of es) s → is_part u s ≡ true → is_part (horizontal_short p) s ≡ true
        longer s at part =
            let k = (horizontal_parts u s forward level at).0 part in
            (horizontal_parts (horizontal_short p) s (short_horizontal_before p) refl at).1
            (record { first = k.first ∙ sym e; second = k.second ∙ sym e; from = up_through s.a.x u.a.x p.x k.from from; to = next_up p.x u.b.x s.b.x to k.to })

        shorter : (s : Edge) → Contains (edges_of es) s → is_part (horizontal_short p) s ≡ true → is_part u s ≡ true
        shorter s at part =
            let k : SpansHorizontal s (horizontal_short p) = (horizontal_parts (horizontal_short p) s (short_horizontal_before p) refl at).0 part in
            (horizontal_parts u s forward level at).1
            (record {
              first = k.first ∙ e;
              second = k.second ∙ e;
              from = by_lt_z u.a.x s.a.x (λ l. absurd (free s at s.a (inl refl) (k.first ∙ e) l (le_lt s.a.x p.x u.b.x k.from to))) (λ l. l);
              to = by_lt_z s.b.x u.b.x (λ l. absurd (free s at s.b (inr refl) (k.second ∙ e) (past u.a.x p.x s.b.x from k.to) l)) (λ l. l);
            })

    -- and where it ends, unless an edge ends there
    horizontal_counts_at_end : HorizontalIsFree → (IsEndOfSome (edges_of es) u.b → ⊥) → count_along kind es (horizontal_short u.b) ≡ count_along kind es u
    horizontal_counts_at_end free none = same_along kind es (horizontal_short u.b) u (λ s at. (shorter s at, longer s at))
      where
        at_end : (s : Edge) (q : Point) → q.y ≡ u.a.y → q.x ≡ u.b.x → u.b ≡ q
        at_end s q e f = λ i. point_at (sym f i) ((sym level ∙ sym e) i)

        longer : (s : Edge) → Contains (edges_of es) s → is_part u s ≡ true → is_part (horizontal_short u.b) s ≡ true
        longer s at part =
            let k = (horizontal_parts u s forward level at).0 part in
            (horizontal_parts (horizontal_short u.b) s (short_horizontal_before u.b) refl at).1
            (record {
              first = k.first ∙ level;
              second = k.second ∙ level;
              from = weaken s.a.x u.a.x u.b.x k.from horizontal_long;
              to = by_lt_z u.b.x s.b.x (λ l. up_to u.b.x s.b.x l) (λ l. absurd (none (s, at, inr (at_end s s.b k.second (same_place s.b.x u.b.x l k.to)))));
            })

        shorter : (s : Edge) → Contains (edges_of es) s → is_part (horizontal_short u.b) s ≡ true → is_part u s ≡ true
        shorter s at part =
            let k : SpansHorizontal s (horizontal_short u.b) = (horizontal_parts (horizontal_short u.b) s (short_horizontal_before u.b) refl at).0 part in
            (horizontal_parts u s forward level at).1
            (record {
              first = k.first ∙ sym level;
              second = k.second ∙ sym level;
              from =
                  by_lt_z u.a.x s.a.x
                  (λ l. by_lt_z s.a.x u.b.x (λ m. absurd (free s at s.a (inl refl) (k.first ∙ sym level) l m))
                  (λ m. absurd (none (s, at, inl (at_end s s.a (k.first ∙ sym level) (same_place s.a.x u.b.x k.from m))))))
                  (λ l. l);
              to = down_to u.b.x s.b.x k.to;
            })

    -- A cut point on an edge that runs along u is a point, if it is one where it is a crossing.
    cut_horizontal_there : (s : Edge) → Contains (edges_of es) s → (p : Point) → IsCutPoint (edges_of es) u p → s.a.y ≡ u.a.y → s.b.y ≡ u.a.y → s.a.x ≤ℤ p.x → p.x ≤ℤ s.b.x
        → (IsCrossing (edges_of es) p → Contains ps p) → Contains ps p
    cut_horizontal_there s at p cut e f from to counts = ⊎_elim (an_end k.1.0 k.1.1 p) crossing k.1.2
      where
        k : (p.y ≡ u.a.y) × IsMetAt PassesUpThrough (edges_of es) p
        k = (horizontal_cut_is p).0 cut

        crossing : PassesUpThrough k.1.0 p → Contains ps p
        crossing across =
            by_lt_z s.a.x p.x
            (λ l. by_lt_z p.x s.b.x
            (λ m. counts ((k.1.0, k.1.1, across), (s, at, record { first = e ∙ sym k.0; second = f ∙ sym k.0; left = l; right = m })))
            (λ m. an_end s at p (inr (λ i. point_at (same_place p.x s.b.x to m i) ((k.0 ∙ sym f) i)))))
            (λ l. an_end s at p (inl (λ i. point_at (same_place p.x s.a.x l from i) ((k.0 ∙ sym e) i))))

    horizontal_step_joins : (c : C) → count_along kind es u ≡ Some c → IsStepAlong (λ p. p.y) ps u → (s : Edge) → Contains (edges_of es) s → is_part u s ≡ true → JoinsNeighbours (edges_of es) u
    horizontal_step_joins c counts step s at part = record {
      forward = forward;
      along = (s, at, part);
      first = point_cuts_horizontal u.a step.first refl;
      second = point_cuts_horizontal u.b step.second (sym level);
      free = λ p cut. by p cut (strictly_inside p u) refl;
    }
      where
        spans : SpansHorizontal s u
        spans = (horizontal_parts u s forward level at).0 part

        free : HorizontalIsFree
        free r there q end e l m = step.free q (an_end r there q end) e (horizontal_before u.a q (sym e) l) (horizontal_before q u.b (e ∙ level) m)

        by : (p : Point) → IsCutPoint (edges_of es) u p → (b : Bool) → strictly_inside p u ≡ b → b ≡ false
        by p cut false e = refl
        by p cut true e =
            let k = inside_is p u e in
            let height = ((horizontal_cut_is p).0 cut).0 in
            let after = less_by_x u.a p (sym height) k.1 in
            let before = less_by_x p u.b (height ∙ level) k.2 in
            let there =
            cut_horizontal_there s at p cut spans.first spans.second (weaken s.a.x u.a.x p.x spans.from after) (weaker p.x u.b.x s.b.x before spans.to)
            (λ crossing. points.crossings p crossing (inl (some_not_none (horizontal_counts_inside free p height (weak u.a.x p.x after) before ∙ counts)))) in
            absurd (step.free p there height k.1 k.2)

    joins_horizontal_step : (c : C) → count_along kind es u ≡ Some c → JoinsNeighbours (edges_of es) u → IsStepAlong (λ p. p.y) ps u
    joins_horizontal_step c counts joins = record {
      first =
          there u.a joins.first spans.from (weaker u.a.x u.b.x joins.along.0.b.x horizontal_long spans.to)
          (λ crossing. points.crossings u.a crossing (inl (some_not_none (horizontal_counts_inside free u.a refl (level_le u.a.x) horizontal_long ∙ counts))));
      second =
          there u.b joins.second (weaken joins.along.0.a.x u.a.x u.b.x spans.from horizontal_long) spans.to
          (λ crossing. ⊎_elim (points.ends u.b) (λ none. points.crossings u.b crossing (inl (some_not_none (horizontal_counts_at_end free none ∙ counts)))) (ends_decided (edges_of es) u.b));
      forward = before_is_less u.a u.b forward;
      same = level;
      free = λ p at same l m.
          false≢true (sym (joins.free p (point_cuts_horizontal p at same)) ∙ inside_from p u ((horizontal_flat u p forward level).1 same) l m);
    }
      where
        spans : SpansHorizontal joins.along.0 u
        spans = (horizontal_parts u joins.along.0 forward level joins.along.1).0 joins.along.2

        free : HorizontalIsFree
        free r at q end e l m =
            false≢true
            (sym (joins.free q (point_cuts_horizontal q (an_end r at q end) e))
            ∙ inside_from q u ((horizontal_flat u q forward level).1 e) (horizontal_before u.a q (sym e) l) (horizontal_before q u.b (e ∙ level) m))

        there : (p : Point) → IsCutPoint (edges_of es) u p → joins.along.0.a.x ≤ℤ p.x → p.x ≤ℤ joins.along.0.b.x → (IsCrossing (edges_of es) p → Contains ps p) → Contains ps p
        there p cut from to = cut_horizontal_there joins.along.0 joins.along.1 p cut spans.first spans.second from to

  -- ---- vertical edges

  module _ (u : Edge) (forward : is_before u.a u.b ≡ true) (vertical : IsVertical u) where
    pub vertical_cut_is : (p : Point) → IsCutPoint (edges_of es) u p ↔ ((p.x ≡ u.a.x) × IsMetAt PassesHorizontalThrough (edges_of es) p)
    vertical_cut_is p = vertical_line es u p h all forward vertical

    pub vertical_parts : (v s : Edge) → is_before v.a v.b ≡ true → IsVertical v → Contains (edges_of es) s → (is_part v s ≡ true) ↔ SpansUp s v
    vertical_parts v s next other at = (cut_by_coordinates kind).vertical_part v s next (directed_entry s at) other

    pub point_cuts_vertical : (p : Point) → Contains ps p → p.x ≡ u.a.x → IsCutPoint (edges_of es) u p
    point_cuts_vertical p at e = (vertical_cut_is p).1 (e, met_horizontal p at)

    vertical_long : u.a.y <ℤ u.b.y
    vertical_long = less_by_y u.a u.b vertical (before_is_less u.a u.b forward)

    -- no edge of the list ends on u between its ends
    abbrev VerticalIsFree : Type 0
    VerticalIsFree =
        (s : Edge) → Contains (edges_of es) s → (q : Point) → (q ≡ s.a) ⊎ (q ≡ s.b) → q.x ≡ u.a.x → u.a.y <ℤ q.y → q.y <ℤ u.b.y → ⊥

    -- one to the next place on the line
    abbrev vertical_short : Point → Edge
    vertical_short p = record { a = p; b = above p }

    pub short_vertical_before : (p : Point) → is_before p (above p) ≡ true
    short_vertical_before p = ap is_lt (point_less_by_y p (above p) refl (one_more p.y))

    -- what counts along u counts at each of its places
    vertical_counts_inside : VerticalIsFree → (p : Point) → p.x ≡ u.a.x → u.a.y ≤ℤ p.y → p.y <ℤ u.b.y → count_along kind es (vertical_short p) ≡ count_along kind es u
    vertical_counts_inside free p e from to = same_along kind es (vertical_short p) u (λ s at. (shorter s at, longer s at))
      where
        longer : (s : Edge) → Contains (edges_of es) s → is_part u s ≡ true → is_part (vertical_short p) s ≡ true
        longer s at part =
            let k = (vertical_parts u s forward vertical at).0 part in
            (vertical_parts (vertical_short p) s (short_vertical_before p) refl at).1
            (record { first = k.first ∙ sym e; second = k.second ∙ sym e; from = up_through s.a.y u.a.y p.y k.from from; to = next_up p.y u.b.y s.b.y to k.to })

        shorter : (s : Edge) → Contains (edges_of es) s → is_part (vertical_short p) s ≡ true → is_part u s ≡ true
        shorter s at part =
            let k : SpansUp s (vertical_short p) = (vertical_parts (vertical_short p) s (short_vertical_before p) refl at).0 part in
            (vertical_parts u s forward vertical at).1
            (record {
              first = k.first ∙ e;
              second = k.second ∙ e;
              from = by_lt_z u.a.y s.a.y (λ l. absurd (free s at s.a (inl refl) (k.first ∙ e) l (le_lt s.a.y p.y u.b.y k.from to))) (λ l. l);
              to = by_lt_z s.b.y u.b.y (λ l. absurd (free s at s.b (inr refl) (k.second ∙ e) (past u.a.y p.y s.b.y from k.to) l)) (λ l. l);
            })

    -- and where it ends, unless an edge ends there
    vertical_counts_at_end : VerticalIsFree → (IsEndOfSome (edges_of es) u.b → ⊥) → count_along kind es (vertical_short u.b) ≡ count_along kind es u
    vertical_counts_at_end free none = same_along kind es (vertical_short u.b) u (λ s at. (shorter s at, longer s at))
      where
        at_end : (s : Edge) (q : Point) → q.x ≡ u.a.x → q.y ≡ u.b.y → u.b ≡ q
        at_end s q e f = λ i. point_over (sym f i) ((sym vertical ∙ sym e) i)

        longer : (s : Edge) → Contains (edges_of es) s → is_part u s ≡ true → is_part (vertical_short u.b) s ≡ true
        longer s at part =
            let k = (vertical_parts u s forward vertical at).0 part in
            (vertical_parts (vertical_short u.b) s (short_vertical_before u.b) refl at).1
            (record {
              first = k.first ∙ vertical;
              second = k.second ∙ vertical;
              from = weaken s.a.y u.a.y u.b.y k.from vertical_long;
              to = by_lt_z u.b.y s.b.y (λ l. up_to u.b.y s.b.y l) (λ l. absurd (none (s, at, inr (at_end s s.b k.second (same_place s.b.y u.b.y l k.to)))));
            })

        shorter : (s : Edge) → Contains (edges_of es) s → is_part (vertical_short u.b) s ≡ true → is_part u s ≡ true
        shorter s at part =
            let k : SpansUp s (vertical_short u.b) = (vertical_parts (vertical_short u.b) s (short_vertical_before u.b) refl at).0 part in
            (vertical_parts u s forward vertical at).1
            (record {
              first = k.first ∙ sym vertical;
              second = k.second ∙ sym vertical;
              from =
                  by_lt_z u.a.y s.a.y
                  (λ l. by_lt_z s.a.y u.b.y (λ m. absurd (free s at s.a (inl refl) (k.first ∙ sym vertical) l m))
                  (λ m. absurd (none (s, at, inl (at_end s s.a (k.first ∙ sym vertical) (same_place s.a.y u.b.y k.from m))))))
                  (λ l. l);
              to = down_to u.b.y s.b.y k.to;
            })

    -- A cut point on an edge that runs along u is a point, if it is one where it is a crossing.
    cut_vertical_there : (s : Edge) → Contains (edges_of es) s → (p : Point) → IsCutPoint (edges_of es) u p → s.a.x ≡ u.a.x → s.b.x ≡ u.a.x → s.a.y ≤ℤ p.y → p.y ≤ℤ s.b.y
        → (IsCrossing (edges_of es) p → Contains ps p) → Contains ps p
    cut_vertical_there s at p cut e f from to counts = ⊎_elim (an_end k.1.0 k.1.1 p) crossing k.1.2
      where
        k : (p.x ≡ u.a.x) × IsMetAt PassesHorizontalThrough (edges_of es) p
        k = (vertical_cut_is p).0 cut

        crossing : PassesHorizontalThrough k.1.0 p → Contains ps p
        crossing across =
            by_lt_z s.a.y p.y
            (λ l. by_lt_z p.y s.b.y
            (λ m. counts ((s, at, record { first = e ∙ sym k.0; second = f ∙ sym k.0; below = l; above = m }), (k.1.0, k.1.1, across)))
            (λ m. an_end s at p (inr (λ i. point_over (same_place p.y s.b.y to m i) ((k.0 ∙ sym f) i)))))
            (λ l. an_end s at p (inl (λ i. point_over (same_place p.y s.a.y l from i) ((k.0 ∙ sym e) i))))

    vertical_step_joins : (c : C) → count_along kind es u ≡ Some c → IsStepAlong (λ p. p.x) ps u → (s : Edge) → Contains (edges_of es) s → is_part u s ≡ true → JoinsNeighbours (edges_of es) u
    vertical_step_joins c counts step s at part = record {
      forward = forward;
      along = (s, at, part);
      first = point_cuts_vertical u.a step.first refl;
      second = point_cuts_vertical u.b step.second (sym vertical);
      free = λ p cut. by p cut (strictly_inside p u) refl;
    }
      where
        spans : SpansUp s u
        spans = (vertical_parts u s forward vertical at).0 part

        free : VerticalIsFree
        free r there q end e l m = step.free q (an_end r there q end) e (vertical_before u.a q (sym e) l) (vertical_before q u.b (e ∙ vertical) m)

        by : (p : Point) → IsCutPoint (edges_of es) u p → (b : Bool) → strictly_inside p u ≡ b → b ≡ false
        by p cut false e = refl
        by p cut true e =
            let k = inside_is p u e in
            let height = ((vertical_cut_is p).0 cut).0 in
            let after = less_by_y u.a p (sym height) k.1 in
            let before = less_by_y p u.b (height ∙ vertical) k.2 in
            let there =
            cut_vertical_there s at p cut spans.first spans.second (weaken s.a.y u.a.y p.y spans.from after) (weaker p.y u.b.y s.b.y before spans.to)
            (λ crossing. points.crossings p crossing (inr (some_not_none (vertical_counts_inside free p height (weak u.a.y p.y after) before ∙ counts)))) in
            absurd (step.free p there height k.1 k.2)

    joins_vertical_step : (c : C) → count_along kind es u ≡ Some c → JoinsNeighbours (edges_of es) u → IsStepAlong (λ p. p.x) ps u
    joins_vertical_step c counts joins = record {
      first =
          there u.a joins.first spans.from (weaker u.a.y u.b.y joins.along.0.b.y vertical_long spans.to)
          (λ crossing. points.crossings u.a crossing (inr (some_not_none (vertical_counts_inside free u.a refl (level_le u.a.y) vertical_long ∙ counts))));
      second =
          there u.b joins.second (weaken joins.along.0.a.y u.a.y u.b.y spans.from vertical_long) spans.to
          (λ crossing. ⊎_elim (points.ends u.b) (λ none. points.crossings u.b crossing (inr (some_not_none (vertical_counts_at_end free none ∙ counts)))) (ends_decided (edges_of es) u.b));
      forward = before_is_less u.a u.b forward;
      same = vertical;
      free = λ p at same l m.
          false≢true (sym (joins.free p (point_cuts_vertical p at same)) ∙ inside_from p u ((vertical_flat u p forward vertical).1 same) l m);
    }
      where
        spans : SpansUp joins.along.0 u
        spans = (vertical_parts u joins.along.0 forward vertical joins.along.1).0 joins.along.2

        free : VerticalIsFree
        free r at q end e l m =
            false≢true
            (sym (joins.free q (point_cuts_vertical q (an_end r at q end) e))
            ∙ inside_from q u ((vertical_flat u q forward vertical).1 e) (vertical_before u.a q (sym e) l) (vertical_before q u.b (e ∙ vertical) m))

        there : (p : Point) → IsCutPoint (edges_of es) u p → joins.along.0.a.y ≤ℤ p.y → p.y ≤ℤ joins.along.0.b.y → (IsCrossing (edges_of es) p → Contains ps p) → Contains ps p
        there p cut from to = cut_vertical_there joins.along.0 joins.along.1 p cut spans.first spans.second from to

  -- ---- the list is the map

  abbrev steps : List (Entry C)
  steps = steps_between kind es ps

  pub way_of : (s : Edge) → Contains (edges_of es) s → IsHorizontal s ⊎ IsVertical s
  way_of s at = rectilinear s (All-contains (λ s. is_rectilinear s ≡ true) (edges_of es) s all at)

  step_joins_neighbours : (u : Edge) (c : C) → IsStepIn kind es ps u → count_along kind es u ≡ Some c → JoinsNeighbours (edges_of es) u
  step_joins_neighbours u c step counts =
      let found = some_along u c counts in
      ⊎_elim (λ k. vertical_step_joins u (ap is_lt k.forward) k.same c counts k found.0 found.1 found.2) (λ k. horizontal_step_joins u (ap is_lt k.forward) k.same c counts k found.0 found.1 found.2) step

  joins_are_steps : (u : Edge) (c : C) → count_along kind es u ≡ Some c → JoinsNeighbours (edges_of es) u → IsStepIn kind es ps u
  joins_are_steps u c counts joins = ⊎_elim (λ k. inr (joins_horizontal_step u joins.forward (level k) c counts joins)) (λ k. inl (joins_vertical_step u joins.forward (vertical k) c counts joins)) (way_of joins.along.0 joins.along.1)
    where
      piece : IsPiece u joins.along.0
      piece = part_tells u joins.along.0 joins.forward joins.along.2

      forward : is_before joins.along.0.a joins.along.0.b ≡ true
      forward = directed_entry joins.along.0 joins.along.1

      level : IsHorizontal joins.along.0 → IsHorizontal u
      level k = (horizontal_flat joins.along.0 u.a forward k).0 piece.first_on ∙ sym ((horizontal_flat joins.along.0 u.b forward k).0 piece.second_on)

      vertical : IsVertical joins.along.0 → IsVertical u
      vertical k = (vertical_flat joins.along.0 u.a forward k).0 piece.first_on ∙ sym ((vertical_flat joins.along.0 u.b forward k).0 piece.second_on)

  steps_entries : All (IsStepEntry kind es ps) steps
  steps_entries = steps_are kind es ps points.rising

  steps_joined : (u : Edge) → Contains (edges_of steps) u → JoinsNeighbours (edges_of es) u
  steps_joined u =
      All-contains (JoinsNeighbours (edges_of es)) (edges_of steps) u
      (All-map (JoinsNeighbours (edges_of es)) (λ (e : Entry C). e.edge) steps
      (All-weaker (IsStepEntry kind es ps) (λ f. JoinsNeighbours (edges_of es) f.edge) (λ f k. step_joins_neighbours f.edge f.count k.0 k.1) steps steps_entries))

  steps_counted : (u : Edge) → JoinsNeighbours (edges_of es) u → count_at steps u ≡ count_along kind es u
  steps_counted u joins = by (count_along kind es u) refl (count_at steps u) refl
    where
      by : (o : Option C) → count_along kind es u ≡ o → (r : Option C) → count_at steps u ≡ r → count_at steps u ≡ o
      by (Some c) e r f = count_of_member steps u c (steps_rise kind es ps points.rising) (steps_have kind es ps u c points.rising (joins_are_steps u c e joins) e)
      by None e None f = f
      by None e (Some c) f = absurd (none c (sym e ∙ listed_counts kind es ps steps steps_entries u c f))
        where
          none : (c : C) → None ≡ Some c → ⊥
          none c e = absurd (cc)

  steps_normal : IsNormal kind steps
  steps_normal = record {
    directed = All-weaker (IsStepEntry kind es ps) (λ f. is_before f.edge.a f.edge.b ≡ true) (λ f k. ⊎_elim (λ m. ap is_lt m.forward) (λ m. ap is_lt m.forward) k.0) steps steps_entries;
    rising = steps_rise kind es ps points.rising;
    counted =
        All-weaker (IsStepEntry kind es ps) (IsCounted kind)
        (λ f k. count_at_counted kind (normal kind (map (λ e. record { edge = f.edge; count = e.count }) (entries_along es f.edge))) f.edge
        (normal_counted kind (map (λ e. record { edge = f.edge; count = e.count }) (entries_along es f.edge))) f.count k.1) steps steps_entries;
  }

  steps_are_map : IsMapOfNeighbours kind es steps
  steps_are_map = record { is_normal = steps_normal; joins = steps_joined; counts = steps_counted }

-- one late pass over a directed list lays the steps between its points
pub steps_of_pass : {C : Type 0} (kind : Counting C) (es : List (Entry C)) (ps : List Point) → IsDirected es → AllRectilinear (edges_of es) → ArePoints kind es ps → pass_by kind late_marks es ≡ steps_between kind es ps
steps_of_pass kind es ps h all points =
    one_map kind es (pass_by kind late_marks es) (steps_between kind es ps) (pass_is_map kind es h (horizontal_meet_whole es h all)) (steps_are_map kind es h all ps points)

pub steps_of_points : {C : Type 0} (kind : Counting C) (precision : Precision) (es : List (Entry C)) (ps : List Point) → IsNormal kind es → AllRectilinear (edges_of es) → ArePoints kind es ps → redrawn kind precision es ≡ steps_between kind es ps
steps_of_points kind precision es ps h all points =
    redrawn_by_a_pass kind precision es h (horizontal_and_vertical_meet_whole kind es h all) ∙ steps_of_pass kind es ps h.directed all points
