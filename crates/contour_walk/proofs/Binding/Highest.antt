-- The way down leads to the last of the edges that are wanted.
use Rattle.std.proofs.Common.{◌≡◌, ◌≢◌, ℕ, zero, suc, Bool, true, false, cond, not, List, [], ◌∷◌, map, filter, flat_map, Contains, ◌⊎◌, inl, inr, ℤ, pos, ◌+ℤ◌, ◌≤ℤ◌, ◌<ℤ◌, refl, sym, ap, ◌∙◌, subst, arith}
use Rattle.std.specs.Prelude.{Option, Some, None}
use Rattle.std.specs.declared.cmp.Ordering.{Ordering}
use Rattle.std.specs.declared.cmp.Ordering.TheVariants.{Less, Equal, Greater}
use Rattle.std.specs.Ordering.{is_lt, is_eq, ordering_reverse}
use Rattle.std.proofs.lemmas.Int.{ints}
use Rattle.std.proofs.lemmas.Bool.{false≢true, and_parts, and_from}
use Rattle.std.proofs.lemmas.List.Elements.{Contains-append_cases}
use Rattle.plane_base.specs.Plane.{Edge, turn, point_order, edge_order}
use Rattle.plane_base.specs.Counts.{Count, Entry}
use Rattle.plane_base.specs.Segments.{parted, column_order, order_against, angle_order, precedes}
use Rattle.plane_base.specs.ColumnLaws.{IsLive}
use Rattle.plane_base.specs.Regions.{FillRule, OverlayRule}
use Rattle.plane_base.proofs.Facts.Lists.Totals.{total_append, total_not_negative}
use Rattle.plane_base.proofs.Facts.Columns.Order.{order_is_lawful}
use Rattle.plane_base.proofs.Facts.Columns.Levels.{unless_same}
use Rattle.plane_base.proofs.Facts.Points.Orders.{point_total, point_equal, point_less, int_less, int_cmp_less, edge_itself, less_from_greater, less_apart}
use Rattle.segment_arrangement.specs.Columns.{is_live}
use Rattle.segment_arrangement.specs.SideLaws.{IsArrangement}
use Rattle.segment_arrangement.proofs.Facts.ColumnPlaces.{lt_tells, lt_holds, live_tells, live_holds}
use Rattle.segment_arrangement.proofs.Facts.EndsAlong.{precedes_itself, precedes_by_start, precedes_by_other_start, precedes_by_angle}
use Rattle.segment_arrangement.proofs.Facts.Fans.{turn_over}
use Rattle.segment_arrangement.proofs.Facts.GreatestEntry.{Contains-head, Contains-later, Contains-cases}
use Rattle.contour_walk.specs.Walks.{Border, Contour, contour_edges}
use Rattle.contour_walk.specs.WalkLaws.{borders}
use Rattle.contour_walk.specs.Binding.{Owned, is_above, owned_from, is_under, higher, highest, way_down}
use Rattle.contour_walk.specs.BindingLaws.{PassOnce, anchor_order, UnderIsEarlier, is_wanted, IsLastWanted, AreApart, WayDownIsLast}
use Rattle.contour_walk.proofs.Facts.Binding.Lists.{map_tells, filter_holds, filter_tells, flat_holds, term_of_total}
use Rattle.contour_walk.proofs.Facts.Binding.Orders.{anchors_tell, before_by_point, before_by_angle}
use Rattle.contour_walk.proofs.Facts.Binding.Anchors.{times}
use Rattle.contour_walk.proofs.Binding.Passed.{any_two, edge_once}
use Rattle.contour_walk.proofs.Binding.Owned.{owned_tells, way_down_tells, way_down_holds, contour_there}

-- ---- what passes under an edge

pub under_is_earlier : UnderIsEarlier
under_is_earlier s e wide = (tells, λ h. holds h.0 (anchors_tell s e h.1) h.2)
  where
    apart : (z : ℤ) → pos 0 <ℤ z → z <ℤ pos 0 → ⊥
    apart z l m = omega (arith, ints)

    -- nothing that begins later passes under it
    later : (s.a.x ≤ℤ e.a.x) → precedes s e ≡ true → point_order e.a s.a ≡ Less → ⊥
    later over below h = by (point_less e.a s.a h)
      where
        by : (e.a.x <ℤ s.a.x) ⊎ ((e.a.x ≡ s.a.x) × (e.a.y <ℤ s.a.y)) → ⊥
        by (inl l) = absurd (omega (arith, ints, over))
        by (inr l) = absurd (apart (turn e.a e.b s.a) (turn_over e s.a (omega (arith, ints, wide)) l.0 l.1) (lt_tells (turn e.a e.b s.a) (pos 0) (sym (precedes_by_start s e h) ∙ below)))

    held : (o : Ordering) → point_order s.a e.a ≡ o → IsLive e.a.x s → precedes s e ≡ true → (anchor_order s e ≡ Less) × ((s.a ≡ e.a) ⊎ (order_against s e.a ≡ Less))
    held Less h live below =
        (before_by_point s e h, inr (int_cmp_less (pos 0) (turn s.a s.b e.a) (lt_tells (pos 0) (turn s.a s.b e.a) (sym (precedes_by_other_start s e h) ∙ below))))
    held Equal h live below =
        let at = point_equal s.a e.a h in
        (before_by_angle s e at (int_cmp_less (pos 0) (turn s.a s.b e.b) (lt_tells (pos 0) (turn s.a s.b e.b) (sym (precedes_by_angle s e at) ∙ below))), inl at)
    held Greater h live below = absurd (later live.0 below (less_from_greater point_total s.a e.a h))

    tells : is_under e s ≡ true → IsLive e.a.x s × (anchor_order s e ≡ Less) × ((s.a ≡ e.a) ⊎ (order_against s e.a ≡ Less))
    tells h =
        let p = and_parts (is_live e.a.x s) (precedes s e) h in
        let live = live_tells e.a.x s p.0 in
        let k = held (point_order s.a e.a) refl live p.1 in
        (live, k.0, k.1)

    below_from : (point_order s.a e.a ≡ Less) ⊎ ((s.a ≡ e.a) × (angle_order s e ≡ Less)) → (s.a ≡ e.a) ⊎ (order_against s e.a ≡ Less) → precedes s e ≡ true
    below_from (inl h) (inl at) = absurd (less_apart point_total s.a e.a h at)
    below_from (inl h) (inr l) = precedes_by_other_start s e h ∙ lt_holds (pos 0) (turn s.a s.b e.a) (int_less (pos 0) (turn s.a s.b e.a) l)
    below_from (inr h) k = precedes_by_angle s e h.0 ∙ lt_holds (pos 0) (turn s.a s.b e.b) (int_less (pos 0) (turn s.a s.b e.b) h.1)

    holds : IsLive e.a.x s → (point_order s.a e.a ≡ Less) ⊎ ((s.a ≡ e.a) × (angle_order s e ≡ Less)) → (s.a ≡ e.a) ⊎ (order_against s e.a ≡ Less) → is_under e s ≡ true
    holds live h k = and_from (is_live e.a.x s) (precedes s e) (live_holds e.a.x s live) (below_from h k)

-- ---- the highest

-- edges over one column, any two different ones of them parted
record AreOver (x : ℤ) (os : List Owned) : Type 0 where
  live : (o : Owned) → Contains os o → IsLive x o.edge
  apart : (o p : Owned) → Contains os o → Contains os p → o.edge ≢ p.edge → parted o.edge p.edge ≡ true

record IsHighest (os : List Owned) (o : Owned) : Type 0 where
  here : Contains os o
  last : (p : Owned) → Contains os p → p.edge ≢ o.edge → precedes p.edge o.edge ≡ true

module _ (x : ℤ) where
  differ_if : (s t : Edge) → precedes s t ≡ true → s ≢ t
  differ_if s t h same = false≢true (sym (precedes_itself t) ∙ (ap (λ u. precedes u t) (sym same) ∙ h))

  less_if : (s t : Edge) → precedes s t ≡ true → column_order s t ≡ Less
  less_if s t h = (order_is_lawful.precedes_is s t).0 h

  over_tail : (o : Owned) (os : List Owned) → AreOver x (o ∷ os) → AreOver x os
  over_tail o os h = record {
    live = λ p here. h.live p (Contains-later o os p here);
    apart = λ p q hp hq. h.apart p q (Contains-later o os p hp) (Contains-later o os q hq);
  }

  module _ (os : List Owned) (over : AreOver x os) where
    before_through : (o p q : Owned) → Contains os o → Contains os p → Contains os q → precedes o.edge p.edge ≡ true → precedes p.edge q.edge ≡ true → precedes o.edge q.edge ≡ true
    before_through o p q ho hp hq l m =
        ap is_lt
        (order_is_lawful.through o.edge p.edge q.edge x (over.apart o p ho hp (differ_if o.edge p.edge l)) (over.apart p q hp hq (differ_if p.edge q.edge m)) (over.apart o q ho hq)
        (over.live o ho) (over.live p hp) (over.live q hq) (less_if o.edge p.edge l) (less_if p.edge q.edge m))

    otherwise : (o p : Owned) → Contains os o → Contains os p → o.edge ≢ p.edge → precedes o.edge p.edge ≡ false → precedes p.edge o.edge ≡ true
    otherwise o p ho hp differ not_before = by (column_order o.edge p.edge) refl
      where
        by : (r : Ordering) → column_order o.edge p.edge ≡ r → precedes p.edge o.edge ≡ true
        by Less h = absurd (false≢true (sym not_before ∙ ap is_lt h))
        by Equal h = absurd (order_is_lawful.decided o.edge p.edge x (over.apart o p ho hp differ) (over.live o ho) (over.live p hp) differ h)
        by Greater h = ap is_lt (order_is_lawful.reversed o.edge p.edge ∙ ap ordering_reverse h)

  highest_is : (os : List Owned) → AreOver x os → (o : Owned) → highest os ≡ Some o → IsHighest os o
  highest_is [] over o e = absurd (cc)
  highest_is (p ∷ os) over o e = by (highest os) refl e (highest_is os (over_tail p os over))
    where
      all : List Owned
      all = p ∷ os

      alone : highest os ≡ None → IsHighest (p ∷ os) p
      alone none = record { here = Contains-head p os; last = λ q here differ. of_either q differ (Contains-cases p os q here) }
        where
          empty : (xs : List Owned) → highest xs ≡ None → (q : Owned) → Contains xs q → ⊥
          empty [] e q here = absurd (omega (arith, here.1))
          empty (y ∷ xs) e q here = absurd (cc)

          of_either : (q : Owned) → q.edge ≢ p.edge → (p ≡ q) ⊎ Contains os q → precedes q.edge p.edge ≡ true
          of_either q differ (inl same) = absurd (differ (ap (λ (z : Owned). z.edge) (sym same)))
          of_either q differ (inr later) = absurd (empty os none q later)

      over_p : (q : Owned) → IsHighest os q → precedes p.edge q.edge ≡ true → IsHighest (p ∷ os) q
      over_p q h l = record { here = Contains-later p os q h.here; last = λ r here differ. of_either r differ (Contains-cases p os r here) }
        where
          of_either : (r : Owned) → r.edge ≢ q.edge → (p ≡ r) ⊎ Contains os r → precedes r.edge q.edge ≡ true
          of_either r differ (inl same) = ap (λ (z : Owned). precedes z.edge q.edge) (sym same) ∙ l
          of_either r differ (inr later) = h.last r later differ

      under_p : (q : Owned) → IsHighest os q → precedes p.edge q.edge ≡ false → IsHighest (p ∷ os) p
      under_p q h l = record { here = Contains-head p os; last = λ r here differ. of_either r differ (Contains-cases p os r here) }
        where
          second : Contains (p ∷ os) q
          second = Contains-later p os q h.here

          beneath : q.edge ≢ p.edge → precedes q.edge p.edge ≡ true
          beneath differ = otherwise (p ∷ os) over p q (Contains-head p os) second (λ same. differ (sym same)) l

          through : (r : Owned) → Contains os r → r.edge ≢ p.edge → (r.edge ≡ q.edge → precedes r.edge p.edge ≡ true) → (r.edge ≢ q.edge → precedes r.edge p.edge ≡ true) → precedes r.edge p.edge ≡ true
          through r later differ same other = unless_same r.edge q.edge same other

          of_either : (r : Owned) → r.edge ≢ p.edge → (p ≡ r) ⊎ Contains os r → precedes r.edge p.edge ≡ true
          of_either r differ (inl same) = absurd (differ (ap (λ (z : Owned). z.edge) (sym same)))
          of_either r differ (inr later) =
              through r later differ (λ same. ap (λ s. precedes s p.edge) same ∙ beneath (λ e. differ (same ∙ e)))
              (λ other. unless_same q.edge p.edge (λ same. ap (precedes r.edge) (sym same) ∙ h.last r later other)
              (λ apart. before_through (p ∷ os) over r q p (Contains-later p os r later) second (Contains-head p os) (h.last r later other) (beneath apart)))

      held : (q : Owned) → IsHighest os q → (b : Bool) → precedes p.edge q.edge ≡ b → cond b q p ≡ o → IsHighest (p ∷ os) o
      held q h true l same = subst (IsHighest (p ∷ os)) same (over_p q h l)
      held q h false l same = subst (IsHighest (p ∷ os)) same (under_p q h l)

      by : (r : Option Owned) → highest os ≡ r → Some (higher p r) ≡ Some o → ((q : Owned) → highest os ≡ Some q → IsHighest os q) → IsHighest (p ∷ os) o
      by None f e rest = subst (IsHighest (p ∷ os)) (cc) (alone f)
      by (Some q) f e rest = held q (rest q f) (precedes p.edge q.edge) refl (cc)

-- ---- each edge once

abbrev all_edges : List Contour → List Edge
all_edges cs = flat_map (λ c. contour_edges c.points) cs

one_of : (s : Edge) (ss : List Edge) → Contains ss s → pos 1 ≤ℤ times s ss
one_of s ss here =
    subst (λ z. z ≤ℤ times s ss) (ap (λ o. cond (is_eq o) (pos 1) (pos 0)) (edge_itself s))
    (term_of_total (λ t. cond (is_eq (edge_order t s)) (pos 1) (pos 0)) ss s (λ t. some (is_eq (edge_order t s))) here)
  where
    some : (b : Bool) → pos 0 ≤ℤ cond b (pos 1) (pos 0)
    some true = omega (arith, ints)
    some false = omega (arith, ints)

times_not_negative : (s : Edge) (ss : List Edge) → pos 0 ≤ℤ times s ss
times_not_negative s ss = total_not_negative (λ t. cond (is_eq (edge_order t s)) (pos 1) (pos 0)) ss (λ t. some (is_eq (edge_order t s)))
  where
    some : (b : Bool) → pos 0 ≤ℤ cond b (pos 1) (pos 0)
    some true = omega (arith, ints)
    some false = omega (arith, ints)

module _ (links : List Border) where
  owned_edge : (n : ℕ) (cs : List Contour) (o : Owned) → Contains (owned_from links n cs) o → Contains (all_edges cs) o.edge
  owned_edge n cs o here =
      let h = owned_tells links n cs o here in
      flat_holds (λ c. contour_edges c.points) cs h.contour o.edge (contour_there cs h.place h.contour h.at) h.here

  -- an edge that is passed once has one owner
  one_owner : (n : ℕ) (cs : List Contour) (o p : Owned) → Contains (owned_from links n cs) o → Contains (owned_from links n cs) p → o.edge ≡ p.edge → times p.edge (all_edges cs) ≤ℤ pos 1 → o ≡ p
  one_owner n [] o p ho hp same l = absurd (omega (arith, ho.1))
  one_owner n (c ∷ cs) o p ho hp same l =
      by (Contains-append_cases (map own (contour_edges c.points)) (owned_from links (suc n) cs) o ho) (Contains-append_cases (map own (contour_edges c.points)) (owned_from links (suc n) cs) p hp)
      (λ h k. one_owner (suc n) cs o p h k same (second (times p.edge (all_edges (c ∷ cs))) (times p.edge (contour_edges c.points)) (times p.edge (all_edges cs)) sum (times_not_negative p.edge (contour_edges c.points)) l))
    where
      own : Edge → Owned
      own s = record { edge = s; above = is_above links s; contour = n }

      sum : times p.edge (all_edges (c ∷ cs)) ≡ times p.edge (contour_edges c.points) +ℤ times p.edge (all_edges cs)
      sum = total_append (λ t. cond (is_eq (edge_order t p.edge)) (pos 1) (pos 0)) (contour_edges c.points) (all_edges cs)

      second : (t a b : ℤ) → t ≡ a +ℤ b → pos 0 ≤ℤ a → t ≤ℤ pos 1 → b ≤ℤ pos 1
      second t a b e m k = omega (arith, ints)

      both : (t a b : ℤ) → t ≡ a +ℤ b → pos 1 ≤ℤ a → pos 1 ≤ℤ b → t ≤ℤ pos 1 → ⊥
      both t a b e m k j = omega (arith, ints)

      here : (q : Owned) → Contains (map own (contour_edges c.points)) q → Contains (contour_edges c.points) q.edge × (own q.edge ≡ q)
      here q h = let m = map_tells own (contour_edges c.points) q h in (subst (λ (z : Owned). Contains (contour_edges c.points) z.edge) m.2 m.1, ap (λ (z : Owned). own z.edge) (sym m.2) ∙ m.2)

      apart : (q r : Owned) → q.edge ≡ p.edge → r.edge ≡ p.edge → Contains (map own (contour_edges c.points)) q → Contains (owned_from links (suc n) cs) r → ⊥
      apart q r eq er h k =
          both (times p.edge (all_edges (c ∷ cs))) (times p.edge (contour_edges c.points)) (times p.edge (all_edges cs)) sum
          (one_of p.edge (contour_edges c.points) (subst (Contains (contour_edges c.points)) eq (here q h).0))
          (one_of p.edge (all_edges cs) (subst (Contains (all_edges cs)) er (owned_edge (suc n) cs r k))) l

      by :
          Contains (map own (contour_edges c.points)) o ⊎ Contains (owned_from links (suc n) cs) o → Contains (map own (contour_edges c.points)) p ⊎ Contains (owned_from links (suc n) cs) p →
          (Contains (owned_from links (suc n) cs) o → Contains (owned_from links (suc n) cs) p → o ≡ p) → o ≡ p
      by (inl h) (inl k) rest = sym (here o h).1 ∙ (ap own same ∙ (here p k).1)
      by (inl h) (inr k) rest = absurd (apart o p same refl h k)
      by (inr h) (inl k) rest = absurd (apart p o refl same k h)
      by (inr h) (inr k) rest = rest h k

-- ---- the law

module _ (edges : List Owned) (all : AreApart edges) (above : Bool) (e : Edge) where
  wanted_ones : AreOver e.a.x (filter (is_wanted above e) edges)
  wanted_ones = record {
    live = live;
    apart = λ o p ho hp. all.in_ends o p (filter_tells (is_wanted above e) edges o ho).0 (filter_tells (is_wanted above e) edges p hp).0;
  }
    where
      live : (o : Owned) → Contains (filter (is_wanted above e) edges) o → IsLive e.a.x o.edge
      live o here =
          live_tells e.a.x o.edge
          (and_parts (is_live e.a.x o.edge) (precedes o.edge e) (and_parts (cond above o.above (not o.above)) (is_under e o.edge) (filter_tells (is_wanted above e) edges o here).1).1).0

  last_is : (o : Owned) → way_down edges above e ≡ Some o → IsLastWanted edges above e o
  last_is o found =
      let h = highest_is e.a.x (filter (is_wanted above e) edges) wanted_ones o found in
      let k = filter_tells (is_wanted above e) edges o h.here in
      record { here = k.0; wanted = k.1; last = λ p there t differ. h.last p (filter_holds (is_wanted above e) edges p there t) differ }

  is_last : (o : Owned) → IsLastWanted edges above e o → way_down edges above e ≡ Some o
  is_last o h = by (way_down_holds edges above e o h.here h.wanted)
    where
      side : (b a : Bool) → cond b a (not a) ≡ true → a ≡ b
      side true a f = f
      side false true f = absurd (false≢true f)
      side false false f = refl

      as_wanted : (p : Owned) → is_wanted above e p ≡ true → p.above ≡ above
      as_wanted p t = side above p.above (and_parts (cond above p.above (not p.above)) (is_under e p.edge) t).0

      one : (p : Owned) → IsLastWanted edges above e p → p.edge ≡ o.edge → p ≡ o
      one p k same = all.one p o k.here h.here same (as_wanted p k.wanted ∙ sym (as_wanted o h.wanted))

      both : (p : Owned) → IsLastWanted edges above e p → p.edge ≢ o.edge → ⊥
      both p k differ =
          let forth : precedes p.edge o.edge ≡ true = h.last p k.here k.wanted differ in
          let back : precedes o.edge p.edge ≡ true = k.last o h.here h.wanted (λ same. differ (sym same)) in
          let f = (order_is_lawful.precedes_is p.edge o.edge).0 forth in
          let g = (order_is_lawful.precedes_is o.edge p.edge).0 back in
          let r = order_is_lawful.reversed p.edge o.edge ∙ ap ordering_reverse f in
          cc

      by : ((p : Owned) × (way_down edges above e ≡ Some p)) → way_down edges above e ≡ Some o
      by (p, found) = let k = last_is p found in unless_same p.edge o.edge (λ same. found ∙ ap Some (one p k same)) (λ differ. absurd (both p k differ))

contours_apart :
    (fill : FillRule) (rule : OverlayRule) (es : List (Entry Count)) (cs : List Contour) → IsArrangement es → PassOnce (borders fill rule es) cs →
    AreApart (owned_from (borders fill rule es) zero cs)
contours_apart fill rule es cs arranged passed = record {
  in_ends = λ o p ho hp. any_two fill rule es arranged cs passed o.edge p.edge (there o ho) (there p hp);
  one = λ o p ho hp same side. one_owner (borders fill rule es) zero cs o p ho hp same (edge_once fill rule es arranged cs passed p.edge (there p hp));
}
  where
    there : (o : Owned) → Contains (owned_from (borders fill rule es) zero cs) o → Contains (all_edges cs) o.edge
    there o here = owned_edge (borders fill rule es) zero cs o here

pub way_down_is_last : WayDownIsLast
way_down_is_last = record {
  tells = λ edges above e o all. (last_is edges all above e o, is_last edges all above e o);
  none = λ edges above e. (met_none edges above e, nothing_met edges above e);
  of_contours = contours_apart;
}
  where
    met_none : (edges : List Owned) (above : Bool) (e : Edge) → way_down edges above e ≡ None → (o : Owned) → Contains edges o → is_wanted above e o ≡ true → ⊥
    met_none edges above e none o here t = let p = way_down_holds edges above e o here t in absurd (differ p.0 (sym p.1 ∙ none))
      where
        differ : (p : Owned) → Some p ≡ None → ⊥
        differ p e = absurd (cc)

    nothing_met : (edges : List Owned) (above : Bool) (e : Edge) → ((o : Owned) → Contains edges o → is_wanted above e o ≡ true → ⊥) → way_down edges above e ≡ None
    nothing_met edges above e h = by (way_down edges above e) refl
      where
        by : (r : Option Owned) → way_down edges above e ≡ r → r ≡ None
        by None f = refl
        by (Some o) f = let k = way_down_tells edges above e o f in absurd (h o k.0 k.1)
