-- Where passes at a point don't cross, the winding on the right hand of a contour is the same on both steps of each of its passes.
use Rattle.std.proofs.Common.{◌≡◌, Bool, true, false, cond, ◌&&◌, List, [], ◌∷◌, ◌++◌, filter, flat_map, get_or, ◌⊎◌, inl, inr, Contains, ℤ, pos, negsuc, ◌+ℤ◌, ◌-ℤ◌, ◌*ℤ◌, ◌<ℤ◌, refl, sym, ap, ap₂, ◌∙◌, subst, arith}
use Rattle.std.specs.declared.cmp.Ordering.{Ordering}
use Rattle.std.specs.declared.cmp.Ordering.TheVariants.{Less, Equal, Greater}
use Rattle.std.proofs.lemmas.Bool.{false≢true}
use Rattle.std.proofs.lemmas.Int.{ints}
use Rattle.std.proofs.lemmas.List.Elements.{All-contains, All-contains_itself}
use Rattle.std.proofs.lemmas.List.Sorted.{IsPermutation-sym}
use Rattle.plane_base.specs.Plane.{Point, Edge, turn, is_before, point_order}
use Rattle.plane_base.specs.Counts.{Count, Entry, boolean, one_subject}
use Rattle.plane_base.specs.Segments.{angle_order}
use Rattle.plane_base.specs.Totals.{total}
use Rattle.plane_base.specs.Windings.{winding}
use Rattle.plane_base.proofs.Facts.Lists.Totals.{total_append, total_filter, total_pointwise, total_pointwise_on, total_zero_on, total_sum, total_permutation}
use Rattle.plane_base.proofs.Facts.Maps.Laying.{lay_by}
use Rattle.plane_base.proofs.Facts.Points.Orders.{point_less, point_equal, before_is_less, int_less}
use Rattle.segment_arrangement.specs.EdgeSides.{lower_side}
use Rattle.segment_arrangement.specs.FanLaws.{whole, starts_at}
use Rattle.segment_arrangement.specs.Rings.{ends_at, right_side, left_side, Leads, IsRing, PointsHaveRings, NodeRing}
use Rattle.segment_arrangement.specs.SideLaws.{IsArrangement}
use Rattle.contour_walk.specs.Walks.{Border, same_point, far_end}
use Rattle.contour_walk.specs.WalkLaws.{contour_steps}
use Rattle.contour_walk.proofs.Facts.Binding.Orders.{not_before_itself}
use Rattle.contour_walk.proofs.Facts.Walks.Fans.{pairs_with, After, Before, ToLeft, turns_round}
use Rattle.contour_walk.proofs.Facts.Walks.Rings.{Each, Pairs, Triples, each_weaker, each_from_has, pairs_weaker, has_append_left, has_append_right}
use Rattle.contour_walk.proofs.Facts.Walks.Turns.{Turns, Has}
use Rattle.contour_walk.proofs.Walks.Links.{same_point_is, same_point_itself, filter_has, filter_from, joins_far}
use Rattle.contour_walk.proofs.Walks.Members.{pairs_from_all, all_from_each, has_permutation, has_from_contains, contains_from_has}
use Rattle.polygon_overlay.specs.PassLaws.{Pass, passes}
use Rattle.polygon_overlay.proofs.Nesting.CrossLaws.{AreAside, aside_alike}
use Rattle.polygon_overlay.proofs.Returning.ReturnLaws.{lay_step}
use Rattle.polygon_overlay.proofs.Nesting.SwingLaws.{swing, pass_swing, all_swings, change}
use Rattle.polygon_overlay.proofs.Nesting.SectorLaws.{part, is_between, sector}

-- what a step lays, by a weight of edges
abbrev pub laid_weight : (Edge → ℤ) → Edge → ℤ
laid_weight weight s = total (λ e. e.count.subject *ℤ weight e.edge) (lay_step s)

-- the map counts what the steps of the contours lay
abbrev pub IsLinear : List (Entry Count) → List (List Point) → Type 0
IsLinear es ds = (weight : Edge → ℤ) → total (λ e. e.count.subject *ℤ weight e.edge) es ≡ total (laid_weight weight) (flat_map contour_steps ds)

leads_seen : {A W V : Type 0} (right left : A → W) (f : W → V) (from to : W) (xs : List A) → Leads right left from to xs → Leads (λ a. f (right a)) (λ a. f (left a)) (f from) (f to) xs
leads_seen right left f from to [] h = ap f h
leads_seen right left f from to (x ∷ xs) h = (ap f h.0, leads_seen right left f (left x) to xs h.1)

module _ (es : List (Entry Count)) (arranged : IsArrangement es) where
  directed_of : (e : Entry Count) → Has es e → is_before e.edge.a e.edge.b ≡ true
  directed_of e here = All-contains (λ (e : Entry Count). is_before e.edge.a e.edge.b ≡ true) es e arranged.directed (contains_from_has es e here)

  module _ (v : Point) (starts ends : List (Entry Count)) (ring : IsRing es v starts ends) where
    abbrev far : Entry Count → Point
    far e = far_end v e.edge

    abbrev IsStart : Entry Count → Type 0
    IsStart e = (e.edge.a ≡ v) × (is_before e.edge.a e.edge.b ≡ true) × (far e ≡ e.edge.b)

    abbrev IsEnd : Entry Count → Type 0
    IsEnd e = (e.edge.b ≡ v) × (is_before e.edge.a e.edge.b ≡ true) × (far e ≡ e.edge.a)

    abbrev as_border : Entry Count → Border
    as_border e = record { edge = e.edge; above = true }

    each_start : Each IsStart starts
    each_start = each_from_has IsStart starts (λ e h. by e (filter_from (starts_at v) es e (has_permutation starts (filter (starts_at v) es) e (IsPermutation-sym (filter (starts_at v) es) starts ring.starts_in_order.all) h)))
      where
        by : (e : Entry Count) → Has es e × (starts_at v e ≡ true) → IsStart e
        by e k =
            let at : e.edge.a ≡ v = same_point_is e.edge.a v k.1 in
            (at, directed_of e k.0, (joins_far (as_border e) v e.edge.b (directed_of e k.0) (inl (at, refl))).1)

    each_end : Each IsEnd ends
    each_end = each_from_has IsEnd ends (λ e h. by e (filter_from (ends_at v) es e (has_permutation ends (filter (ends_at v) es) e (IsPermutation-sym (filter (ends_at v) es) ends ring.all_ends) h)))
      where
        by : (e : Entry Count) → Has es e × (ends_at v e ≡ true) → IsEnd e
        by e k =
            let at : e.edge.b ≡ v = same_point_is e.edge.b v k.1 in
            (at, directed_of e k.0, (joins_far (as_border e) v e.edge.a (directed_of e k.0) (inr (at, refl))).1)

    after_start : (e : Entry Count) → IsStart e → After v (far e)
    after_start e (at, directed, is) = by (point_less v (far e) (before_is_less v (far e) (ap (λ (s : Edge). is_before s.a s.b) (λ i. record { a = sym at i; b = is i }) ∙ directed)))
      where
        by : {p : Point} → (v.x <ℤ p.x) ⊎ ((v.x ≡ p.x) × (v.y <ℤ p.y)) → After v p
        by (inl l) = inl (omega (arith, ints))
        by (inr l) = inr (omega (arith, ints, l.0), omega (arith, ints, l.1))

    before_end : (e : Entry Count) → IsEnd e → Before v (far e)
    before_end e (at, directed, is) = by (point_less (far e) v (before_is_less (far e) v (ap (λ (s : Edge). is_before s.a s.b) (λ i. record { a = is i; b = sym at i }) ∙ directed)))
      where
        by : {p : Point} → (p.x <ℤ v.x) ⊎ ((p.x ≡ v.x) × (p.y <ℤ v.y)) → Before v p
        by (inl l) = inl (omega (arith, ints))
        by (inr l) = inr (omega (arith, ints, l.0), omega (arith, ints, l.1))

    starts_rise : Pairs (λ e f. ToLeft v (far e) (far f)) starts
    starts_rise =
        pairs_weaker (λ e f. IsStart e × IsStart f × (angle_order e.edge f.edge ≡ Less)) (λ e f. ToLeft v (far e) (far f))
        (λ e f h. subst (λ z. pos 0 <ℤ z) (moved e f h.0 h.1) (int_less (pos 0) (turn e.edge.a e.edge.b f.edge.b) h.2)) starts
        (pairs_with IsStart (λ e f. angle_order e.edge f.edge ≡ Less) starts each_start (pairs_from_all (λ e f. angle_order e.edge f.edge ≡ Less) starts ring.starts_in_order.rising))
      where
        moved : (e f : Entry Count) → IsStart e → IsStart f → turn e.edge.a e.edge.b f.edge.b ≡ turn v (far e) (far f)
        moved e f h k = λ i. turn (h.0 i) (sym h.2 i) (sym k.2 i)

    ends_rise : Pairs (λ e f. ToLeft v (far e) (far f)) ends
    ends_rise =
        pairs_weaker (λ e f. IsEnd e × IsEnd f × (pos 0 <ℤ turn v e.edge.a f.edge.a)) (λ e f. ToLeft v (far e) (far f))
        (λ e f h. subst (λ z. pos 0 <ℤ z) (moved e f h.0 h.1) h.2) ends
        (pairs_with IsEnd (λ e f. pos 0 <ℤ turn v e.edge.a f.edge.a) ends each_end (pairs_from_all (λ e f. pos 0 <ℤ turn v e.edge.a f.edge.a) ends ring.ends_in_order))
      where
        moved : (e f : Entry Count) → IsEnd e → IsEnd f → turn v e.edge.a f.edge.a ≡ turn v (far e) (far f)
        moved e f h k = λ i. turn v (sym h.2 i) (sym k.2 i)

    -- the edges round the point, counterclockwise
    pub ring_turns : Triples (λ e f g. Turns false v (far e) (far f) (far g)) (starts ++ ends)
    ring_turns =
        turns_round v (λ (e : Entry Count). far e) starts ends (each_weaker IsStart (λ e. After v (far e)) after_start starts each_start)
        (each_weaker IsEnd (λ e. Before v (far e)) before_end ends each_end) starts_rise ends_rise

    in_ring : (e : Entry Count) → Has es e → (e.edge.a ≡ v) ⊎ (e.edge.b ≡ v) → Has (starts ++ ends) e
    in_ring e here (inl at) =
        has_append_left starts ends e (has_permutation (filter (starts_at v) es) starts e ring.starts_in_order.all (filter_has (starts_at v) es e here (same_point_itself e.edge.a v at)))
    in_ring e here (inr at) =
        has_append_right starts ends e (has_permutation (filter (ends_at v) es) ends e ring.all_ends (filter_has (ends_at v) es e here (same_point_itself e.edge.b v at)))

    abbrev right : Entry Count → ℤ
    right e = (right_side es v e).subject

    abbrev left : Entry Count → ℤ
    left e = (left_side es v e).subject

    -- ---- what contours count round the point

    module _ (ds : List (List Point)) (linear : IsLinear es ds) (p q : Point) where
      abbrev weight : Point → ℤ
      weight x = cond (is_between v p q x) (pos 1) (pos 0)

      abbrev changed : Entry Count → ℤ
      changed = part (λ (e : Entry Count). is_between v p q (far e)) (change right left)

      -- an edge by the weights of its ends, seen from v
      abbrev edge_weight : Edge → ℤ
      edge_weight s = cond (same_point s.a v) (weight s.b) (pos 0) -ℤ cond (same_point s.b v) (weight s.a) (pos 0)

      one_edge : (e : Entry Count) → Contains es e → e.count.subject *ℤ edge_weight e.edge ≡ cond (starts_at v e) (changed e) (pos 0) +ℤ cond (ends_at v e) (changed e) (pos 0)
      one_edge e here =
          by (same_point e.edge.a v) (same_point e.edge.b v) e.edge.a e.edge.b (lower_side es e.edge) e.count
          (not_both (same_point e.edge.a v) (same_point e.edge.b v) refl refl)
        where
          not_both : (a b : Bool) → same_point e.edge.a v ≡ a → same_point e.edge.b v ≡ b → a && b ≡ false
          not_both true true f g =
              absurd (false≢true (sym (not_before_itself e.edge.a)
              ∙ (ap (is_before e.edge.a) (same_point_is e.edge.a v f ∙ sym (same_point_is e.edge.b v g)) ∙ directed_of e (has_from_contains es e here))))
          not_both true false f g = refl
          not_both false b f g = refl

          out : (β : Bool) (l n : ℤ) → n *ℤ (cond β (pos 1) (pos 0) -ℤ pos 0) ≡ cond β ((l +ℤ n) -ℤ l) (pos 0) +ℤ pos 0
          out true l n = omega (arith, ints)
          out false l n = omega (arith, ints)

          inward : (α : Bool) (l n : ℤ) → n *ℤ (pos 0 -ℤ cond α (pos 1) (pos 0)) ≡ pos 0 +ℤ cond α (l -ℤ (l +ℤ n)) (pos 0)
          inward true l n = omega (arith, ints)
          inward false l n = omega (arith, ints)

          nowhere : (n : ℤ) → n *ℤ (pos 0 -ℤ pos 0) ≡ pos 0 +ℤ pos 0
          nowhere n = omega (arith, ints)

          by : (a b : Bool) (x y : Point) (lower count : Count) → a && b ≡ false
              → count.subject *ℤ (cond a (weight y) (pos 0) -ℤ cond b (weight x) (pos 0))
              ≡ cond a (cond (is_between v p q (cond a y x)) ((cond a (boolean.join lower count) lower).subject -ℤ (cond a lower (boolean.join lower count)).subject) (pos 0)) (pos 0)
              +ℤ cond b (cond (is_between v p q (cond a y x)) ((cond a (boolean.join lower count) lower).subject -ℤ (cond a lower (boolean.join lower count)).subject) (pos 0)) (pos 0)
          by true true x y lower count h = absurd (false≢true (sym h))
          by true false x y lower count h = out (is_between v p q y) lower.subject count.subject
          by false true x y lower count h = inward (is_between v p q x) lower.subject count.subject
          by false false x y lower count h = nowhere count.subject

      -- a step counts its edge, turned or not
      one_step : (s : Edge) → laid_weight edge_weight s ≡ swing v weight s
      one_step s = by (point_order s.a s.b) refl
        where
          along : (n : ℤ) → (pos 1 *ℤ n) +ℤ pos 0 ≡ n
          along n = omega (arith, ints)

          back : (m n : ℤ) → (negsuc 0 *ℤ (m -ℤ n)) +ℤ pos 0 ≡ n -ℤ m
          back m n = omega (arith, ints)

          none : (n : ℤ) → pos 0 ≡ n -ℤ n
          none n = omega (arith, ints)

          by : (o : Ordering) → point_order s.a s.b ≡ o → total (λ e. e.count.subject *ℤ edge_weight e.edge) (lay_by boolean o s.a s.b one_subject) ≡ swing v weight s
          by Less e = along (edge_weight s)
          by Equal e = none (cond (same_point s.a v) (weight s.a) (pos 0)) ∙ ap (λ z. cond (same_point s.a v) (weight z) (pos 0) -ℤ cond (same_point z v) (weight s.a) (pos 0)) (point_equal s.a s.b e)
          by Greater e = back (cond (same_point s.b v) (weight s.a) (pos 0)) (cond (same_point s.a v) (weight s.b) (pos 0))

      ring_sum : total changed (starts ++ ends) ≡ total (swing v weight) (flat_map contour_steps ds)
      ring_sum =
          total_append changed starts ends
          ∙ (both (total_permutation changed (filter (starts_at v) es) starts ring.starts_in_order.all ∙ total_filter changed (starts_at v) es)
          (total_permutation changed (filter (ends_at v) es) ends ring.all_ends ∙ total_filter changed (ends_at v) es)
          ∙ (sym (total_sum (λ e. cond (starts_at v e) (changed e) (pos 0)) (λ e. cond (ends_at v e) (changed e) (pos 0)) es)
          ∙ (sym (total_pointwise_on (λ e. e.count.subject *ℤ edge_weight e.edge) (λ e. cond (starts_at v e) (changed e) (pos 0) +ℤ cond (ends_at v e) (changed e) (pos 0)) es
          (λ i d l. one_edge (get_or es i d) (All-contains_itself es i d l)))
          ∙ (linear edge_weight ∙ total_pointwise (laid_weight edge_weight) (swing v weight) (flat_map contour_steps ds) one_step))))
        where
          both : {a b c d : ℤ} → a ≡ b → c ≡ d → a +ℤ c ≡ b +ℤ d
          both e f = ap₂ (λ x y. x +ℤ y) e f

      -- each pass counts nothing, where both its points are between p and q or neither is
      passes_balance : Each (λ (one : Pass). one.at ≡ v → is_between v p q one.from ≡ is_between v p q one.to) (flat_map passes ds) → total (pass_swing v weight) (flat_map passes ds) ≡ pos 0
      passes_balance h = total_zero_on (pass_swing v weight) (flat_map passes ds) (all_from_each (λ one. pass_swing v weight one ≡ pos 0) (flat_map passes ds)
          (each_weaker (λ (one : Pass). one.at ≡ v → is_between v p q one.from ≡ is_between v p q one.to) (λ one. pass_swing v weight one ≡ pos 0) nothing (flat_map passes ds) h))
        where
          level : (a b : ℤ) → a ≡ b → b -ℤ a ≡ pos 0
          level a b e = omega (arith, ints)

          nothing : (one : Pass) → (one.at ≡ v → is_between v p q one.from ≡ is_between v p q one.to) → pass_swing v weight one ≡ pos 0
          nothing one same = by (same_point one.at v) refl
            where
              by : (b : Bool) → same_point one.at v ≡ b → cond b (weight one.to) (pos 0) -ℤ cond b (weight one.from) (pos 0) ≡ pos 0
              by true e = level (weight one.from) (weight one.to) (ap (λ b. cond b (pos 1) (pos 0)) (same (same_point_is one.at v e)))
              by false e = refl

-- ---- the hand of a pass

-- an edge of the map at v that leads to a point
pub record IsSpokeTo (es : List (Entry Count)) (v far : Point) (e : Entry Count) : Type 0 where
  pub here : Has es e
  pub at : (e.edge.a ≡ v) ⊎ (e.edge.b ≡ v)
  pub to : far_end v e.edge ≡ far

module _ (rings : PointsHaveRings) (node : NodeRing) (es : List (Entry Count)) (arranged : IsArrangement es) (ds : List (List Point)) (linear : IsLinear es ds) where
  -- What is on the left of who leaves v along the one edge is on the right of who leaves it along the other, where each pass at v that does not go from
  -- the one to the other lies on one side of them, or they on one side of it.
  pub hand_stays :
      (v p q : Point) (e f : Entry Count) → IsSpokeTo es v p e → IsSpokeTo es v q f → (e ≡ f → ⊥)
      → Each (λ (one : Pass). one.at ≡ v → (x : Entry Count) × (y : Entry Count) × IsSpokeTo es v one.from x × IsSpokeTo es v one.to y × AreAside v p q one.from one.to) (flat_map passes ds)
      → (left_side es v e).subject ≡ (right_side es v f).subject
  hand_stays v p q e f one other differ aside = by (rings es v arranged)
    where
      by : (starts : List (Entry Count)) × (ends : List (Entry Count)) × IsRing es v starts ends → (left_side es v e).subject ≡ (right_side es v f).subject
      by (starts, ends, ring) =
          level (left_side es v e).subject (right_side es v f).subject
          (sym (sector (λ (e : Entry Count). far_end v e.edge) (λ e. (right_side es v e).subject) (λ e. (left_side es v e).subject) v e f (winding es (whole v)).subject (starts ++ ends)
          (in_ring es arranged v starts ends ring e one.here one.at) (in_ring es arranged v starts ends ring f other.here other.at) differ
          (ring_turns es arranged v starts ends ring)
          (leads_seen (right_side es v) (left_side es v) (λ w. w.subject) (winding es (whole v)) (winding es (whole v)) (starts ++ ends) (node es starts ends v arranged ring)))
          ∙ (ring_sum es arranged v starts ends ring ds linear (far_end v e.edge) (far_end v f.edge)
          ∙ (sym (all_swings v (weight es arranged v starts ends ring ds linear (far_end v e.edge) (far_end v f.edge)) ds)
          ∙ passes_balance es arranged v starts ends ring ds linear (far_end v e.edge) (far_end v f.edge)
          (each_weaker (λ (one : Pass). one.at ≡ v → (x : Entry Count) × (y : Entry Count) × IsSpokeTo es v one.from x × IsSpokeTo es v one.to y × AreAside v p q one.from one.to)
          (λ (one : Pass). one.at ≡ v → is_between v (far_end v e.edge) (far_end v f.edge) one.from ≡ is_between v (far_end v e.edge) (far_end v f.edge) one.to)
          (λ one told at. clear one (told at)) (flat_map passes ds) aside))))
        where
          level : (a b : ℤ) → b -ℤ a ≡ pos 0 → a ≡ b
          level a b h = omega (arith, ints)

          clear : (one : Pass) → (x : Entry Count) × (y : Entry Count) × IsSpokeTo es v one.from x × IsSpokeTo es v one.to y × AreAside v p q one.from one.to
              → is_between v (far_end v e.edge) (far_end v f.edge) one.from ≡ is_between v (far_end v e.edge) (far_end v f.edge) one.to
          clear pass (x, y, from, to, side) =
              subst (λ z. is_between v (far_end v e.edge) (far_end v f.edge) z ≡ is_between v (far_end v e.edge) (far_end v f.edge) pass.to) from.to
              (subst (λ z. is_between v (far_end v e.edge) (far_end v f.edge) (far_end v x.edge) ≡ is_between v (far_end v e.edge) (far_end v f.edge) z) to.to
              (aside_alike (λ (e : Entry Count). far_end v e.edge) v (starts ++ ends) (ring_turns es arranged v starts ends ring) x y e f
              (in_ring es arranged v starts ends ring x from.here from.at) (in_ring es arranged v starts ends ring y to.here to.at)
              (in_ring es arranged v starts ends ring e one.here one.at) (in_ring es arranged v starts ends ring f other.here other.at) differ
              (subst (λ z. AreAside v (far_end v e.edge) (far_end v f.edge) z (far_end v y.edge)) (sym from.to)
              (subst (λ z. AreAside v (far_end v e.edge) (far_end v f.edge) pass.from z) (sym to.to)
              (subst (λ z. AreAside v z (far_end v f.edge) pass.from pass.to) (sym one.to) (subst (λ z. AreAside v p z pass.from pass.to) (sym other.to) side))))))
