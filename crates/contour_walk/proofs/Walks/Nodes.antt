-- Round each node the steps along the boundary of an arrangement lead out and in by turns.
use Rattle.std.proofs.Common.{◌≡◌, Bool, true, false, not, cond, ◌||◌, List, [], ◌∷◌, ◌++◌, map, filter, ◌⊎◌, inl, inr, pos, ◌<ℤ◌, Less, refl, sym, ap, ◌∙◌, subst, arith}
use Rattle.std.proofs.lemmas.Bool.{false≢true}
use Rattle.std.proofs.lemmas.Int.{ints}
use Rattle.std.proofs.lemmas.List.Sorted.{IsPermutation-sym}
use Rattle.plane_base.specs.Plane.{Point, Edge, turn, edge_order, is_before}
use Rattle.plane_base.specs.Counts.{Count, Entry}
use Rattle.plane_base.specs.Segments.{angle_order}
use Rattle.plane_base.specs.Windings.{winding}
use Rattle.plane_base.specs.Regions.{FillRule, OverlayRule, region}
use Rattle.plane_base.proofs.Facts.Points.Orders.{point_less, before_is_less, less_apart, edge_total, int_less}
use Rattle.segment_arrangement.specs.EdgeSides.{lower_side, upper_side, differ, is_boundary, boundary}
use Rattle.segment_arrangement.specs.SideLaws.{IsArrangement}
use Rattle.segment_arrangement.specs.FanLaws.{whole, starts_at}
use Rattle.segment_arrangement.specs.Rings.{ends_at, right_side, left_side, Leads, IsRing, PointsHaveRings, NodeRing}
use Rattle.contour_walk.specs.Walks.{Border, same_point, touches, far_end, is_same}
use Rattle.contour_walk.specs.WalkLaws.{border_of, borders, AllAreWalked, AnyWalksPass}
use Rattle.contour_walk.proofs.Facts.Walks.Turns.{Apart, Turns, Has}
use Rattle.contour_walk.proofs.Facts.Walks.Rings.{Each, Pairs, Triples, each_weaker, each_from_has, each_has, pairs_weaker, has_append_left, has_append_right}
use Rattle.contour_walk.proofs.Facts.Walks.Rings.{ByTurns, Spoke, spoke, IsSpoke, ApartAt, TurnsAt, IsWheel, Alternates}
use Rattle.contour_walk.proofs.Walks.Members.{each_from_all, pairs_from_all, has_permutation, has_append_cases}
use Rattle.contour_walk.proofs.Walks.Links.{same_point_is, same_point_itself, kept_has, kept_from, filter_has, filter_from, each_filter, pairs_filter, Directed, AreLinks, Joins, joins_far, Along, outward, spoke_of, spoke_is}
use Rattle.contour_walk.proofs.Facts.Walks.Fans.{pairs_with, triples_filter, each_map, pairs_map, triples_map, After, Before, ToLeft, apart_round, turns_round}
use Rattle.contour_walk.proofs.Walks.Paths.{walks_pass_all, any_walks_pass}

-- ---- lists that lead on

module _ {A W : Type 0} (right left : A → W) where
  leads_seen : {V : Type 0} (f : W → V) (from to : W) (xs : List A) → Leads right left from to xs → Leads (λ a. f (right a)) (λ a. f (left a)) (f from) (f to) xs
  leads_seen f from to [] h = ap f h
  leads_seen f from to (x ∷ xs) h = (ap f h.0, leads_seen f (left x) to xs h.1)

  leads_filter : (keep : A → Bool) → ((x : A) → keep x ≡ false → right x ≡ left x) → (from to : W) (xs : List A) → Leads right left from to xs → Leads right left from to (filter keep xs)
  leads_filter keep idle from to [] h = h
  leads_filter keep idle from to (x ∷ xs) h = by (keep x) refl (leads_filter keep idle (left x) to xs h.1)
    where
      by : (b : Bool) → keep x ≡ b → Leads right left (left x) to (filter keep xs) → Leads right left from to (cond b (x ∷ filter keep xs) (filter keep xs))
      by true e k = (h.0, k)
      by false e k = subst (λ z. Leads right left z to (filter keep xs)) (sym (idle x e) ∙ h.0) k

-- ---- the boundary's links

module _ (fill : FillRule) (rule : OverlayRule) (es : List (Entry Count)) (output : Bool) (arranged : IsArrangement es) where
  abbrev bounds : Entry Count → Bool
  bounds e = is_boundary fill rule es e

  abbrev border : Entry Count → Border
  border e = border_of fill rule es e

  pub borders_are_links : AreLinks (borders fill rule es)
  borders_are_links = record {
    directed = each_map border Directed (boundary fill rule es) (each_filter bounds (λ e. is_before e.edge.a e.edge.b ≡ true) es (each_from_all (λ e. is_before e.edge.a e.edge.b ≡ true) es arranged.directed));
    rising =
        pairs_map border (λ l m. edge_order l.edge m.edge ≡ Less) (boundary fill rule es)
        (pairs_filter bounds (λ e f. edge_order e.edge f.edge ≡ Less) es (pairs_from_all (λ e f. edge_order e.edge f.edge ≡ Less) es arranged.rising));
    distinct =
        pairs_map border (λ l m. l.edge ≡ m.edge → ⊥) (boundary fill rule es)
        (pairs_filter bounds (λ e f. e.edge ≡ f.edge → ⊥) es
        (pairs_weaker (λ e f. edge_order e.edge f.edge ≡ Less) (λ e f. e.edge ≡ f.edge → ⊥) (λ e f l. less_apart edge_total e.edge f.edge l) es
        (pairs_from_all (λ e f. edge_order e.edge f.edge ≡ Less) es arranged.rising)));
  }

  abbrev spoke_at : Point → Entry Count → Spoke
  spoke_at v e = spoke (far_end v e.edge) (outward output v (border e))

  module _ (v : Point) (starts ends : List (Entry Count)) (ring : IsRing es v starts ends) where
    abbrev IsStart : Entry Count → Type 0
    IsStart e = (e.edge.a ≡ v) × (is_before e.edge.a e.edge.b ≡ true) × (far_end v e.edge ≡ e.edge.b)

    abbrev IsEnd : Entry Count → Type 0
    IsEnd e = (e.edge.b ≡ v) × (is_before e.edge.a e.edge.b ≡ true) × (far_end v e.edge ≡ e.edge.a)

    directed_of : (e : Entry Count) → Has es e → is_before e.edge.a e.edge.b ≡ true
    directed_of e here = each_has (λ e. is_before e.edge.a e.edge.b ≡ true) es e (each_from_all (λ e. is_before e.edge.a e.edge.b ≡ true) es arranged.directed) here

    start_from : (e : Entry Count) → Has starts e → Has es e × (starts_at v e ≡ true)
    start_from e h = filter_from (starts_at v) es e (has_permutation starts (filter (starts_at v) es) e (IsPermutation-sym (filter (starts_at v) es) starts ring.starts_in_order.all) h)

    end_from : (e : Entry Count) → Has ends e → Has es e × (ends_at v e ≡ true)
    end_from e h = filter_from (ends_at v) es e (has_permutation ends (filter (ends_at v) es) e (IsPermutation-sym (filter (ends_at v) es) ends ring.all_ends) h)

    each_start : Each IsStart starts
    each_start = each_from_has IsStart starts (λ e h. by e (start_from e h))
      where
        by : (e : Entry Count) → Has es e × (starts_at v e ≡ true) → IsStart e
        by e k =
            let at : e.edge.a ≡ v = same_point_is e.edge.a v k.1 in
            (at, directed_of e k.0, (joins_far (border e) v e.edge.b (directed_of e k.0) (inl (at, refl))).1)

    each_end : Each IsEnd ends
    each_end = each_from_has IsEnd ends (λ e h. by e (end_from e h))
      where
        by : (e : Entry Count) → Has es e × (ends_at v e ≡ true) → IsEnd e
        by e k =
            let at : e.edge.b ≡ v = same_point_is e.edge.b v k.1 in
            (at, directed_of e k.0, (joins_far (border e) v e.edge.a (directed_of e k.0) (inr (at, refl))).1)

    -- ---- the order round the node

    after_start : (e : Entry Count) → IsStart e → After v (far_end v e.edge)
    after_start e (at, directed, is) = by (point_less v (far_end v e.edge) (before_is_less v (far_end v e.edge) (ap (λ (s : Edge). is_before s.a s.b) (λ i. record { a = sym at i; b = is i }) ∙ directed)))
      where
        by : {p : Point} → (v.x <ℤ p.x) ⊎ ((v.x ≡ p.x) × (v.y <ℤ p.y)) → After v p
        by (inl l) = inl (omega (arith, ints))
        by (inr l) = inr (omega (arith, ints, l.0), omega (arith, ints, l.1))

    before_end : (e : Entry Count) → IsEnd e → Before v (far_end v e.edge)
    before_end e (at, directed, is) = by (point_less (far_end v e.edge) v (before_is_less (far_end v e.edge) v (ap (λ (s : Edge). is_before s.a s.b) (λ i. record { a = is i; b = sym at i }) ∙ directed)))
      where
        by : {p : Point} → (p.x <ℤ v.x) ⊎ ((p.x ≡ v.x) × (p.y <ℤ v.y)) → Before v p
        by (inl l) = inl (omega (arith, ints))
        by (inr l) = inr (omega (arith, ints, l.0), omega (arith, ints, l.1))

    starts_rise : Pairs (λ e f. ToLeft v (far_end v e.edge) (far_end v f.edge)) starts
    starts_rise =
        pairs_weaker (λ e f. IsStart e × IsStart f × (angle_order e.edge f.edge ≡ Less)) (λ e f. ToLeft v (far_end v e.edge) (far_end v f.edge))
        (λ e f h. subst (λ z. pos 0 <ℤ z) (moved e f h.0 h.1) (int_less (pos 0) (turn e.edge.a e.edge.b f.edge.b) h.2)) starts
        (pairs_with IsStart (λ e f. angle_order e.edge f.edge ≡ Less) starts each_start (pairs_from_all (λ e f. angle_order e.edge f.edge ≡ Less) starts ring.starts_in_order.rising))
      where
        moved : (e f : Entry Count) → IsStart e → IsStart f → turn e.edge.a e.edge.b f.edge.b ≡ turn v (far_end v e.edge) (far_end v f.edge)
        moved e f h k = λ i. turn (h.0 i) (sym h.2 i) (sym k.2 i)

    ends_rise : Pairs (λ e f. ToLeft v (far_end v e.edge) (far_end v f.edge)) ends
    ends_rise =
        pairs_weaker (λ e f. IsEnd e × IsEnd f × (pos 0 <ℤ turn v e.edge.a f.edge.a)) (λ e f. ToLeft v (far_end v e.edge) (far_end v f.edge))
        (λ e f h. subst (λ z. pos 0 <ℤ z) (moved e f h.0 h.1) h.2) ends
        (pairs_with IsEnd (λ e f. pos 0 <ℤ turn v e.edge.a f.edge.a) ends each_end (pairs_from_all (λ e f. pos 0 <ℤ turn v e.edge.a f.edge.a) ends ring.ends_in_order))
      where
        moved : (e f : Entry Count) → IsEnd e → IsEnd f → turn v e.edge.a f.edge.a ≡ turn v (far_end v e.edge) (far_end v f.edge)
        moved e f h k = λ i. turn v (sym h.2 i) (sym k.2 i)

    abbrev spokes : List Spoke
    spokes = map (spoke_at v) (filter bounds (starts ++ ends))

    spokes_apart : Pairs (ApartAt v) spokes
    spokes_apart =
        pairs_map (spoke_at v) (ApartAt v) (filter bounds (starts ++ ends))
        (pairs_filter bounds (λ e f. Apart v (far_end v e.edge) (far_end v f.edge)) (starts ++ ends)
        (apart_round v (λ (e : Entry Count). far_end v e.edge) starts ends (each_weaker IsStart (λ e. After v (far_end v e.edge)) after_start starts each_start) (each_weaker IsEnd (λ e. Before v (far_end v e.edge)) before_end ends each_end) starts_rise ends_rise))

    spokes_turn : Triples (TurnsAt false v) spokes
    spokes_turn =
        triples_map (spoke_at v) (TurnsAt false v) (filter bounds (starts ++ ends))
        (triples_filter bounds (λ e f g. Turns false v (far_end v e.edge) (far_end v f.edge) (far_end v g.edge)) (pairs_filter bounds) (starts ++ ends)
        (turns_round v (λ (e : Entry Count). far_end v e.edge) starts ends (each_weaker IsStart (λ e. After v (far_end v e.edge)) after_start starts each_start) (each_weaker IsEnd (λ e. Before v (far_end v e.edge)) before_end ends each_end) starts_rise ends_rise))

    -- ---- which links they are

    in_ring : (e : Entry Count) → Has es e → (e.edge.a ≡ v) ⊎ (e.edge.b ≡ v) → Has (starts ++ ends) e
    in_ring e here (inl at) =
        has_append_left starts ends e (has_permutation (filter (starts_at v) es) starts e ring.starts_in_order.all (filter_has (starts_at v) es e here (same_point_itself e.edge.a v at)))
    in_ring e here (inr at) =
        has_append_right starts ends e (has_permutation (filter (ends_at v) es) ends e ring.all_ends (filter_has (ends_at v) es e here (same_point_itself e.edge.b v at)))

    from_ring : (e : Entry Count) → Has (starts ++ ends) e → Has es e × (touches v e.edge ≡ true)
    from_ring e h = by (has_append_cases starts ends e h)
      where
        second : (b c : Bool) → c ≡ true → b || c ≡ true
        second true c f = refl
        second false c f = f

        by : Has starts e ⊎ Has ends e → Has es e × (touches v e.edge ≡ true)
        by (inl k) = let f = start_from e k in (f.0, ap (λ b. b || same_point e.edge.b v) f.1)
        by (inr k) = let f = end_from e k in (f.0, second (same_point e.edge.a v) (same_point e.edge.b v) f.1)

    spokes_sound : Each (IsSpoke (Along output (borders fill rule es)) (Along output (borders fill rule es)) v) spokes
    spokes_sound = each_from_has (IsSpoke (Along output (borders fill rule es)) (Along output (borders fill rule es)) v) spokes (λ s h. by s (kept_from (spoke_at v) bounds (starts ++ ends) s h))
      where
        by : (s : Spoke) → (e : Entry Count) × Has (starts ++ ends) e × (bounds e ≡ true) × (spoke_at v e ≡ s) → IsSpoke (Along output (borders fill rule es)) (Along output (borders fill rule es)) v s
        by s (e, here, bounding, is) =
            let k = from_ring e here in
            subst (IsSpoke (Along output (borders fill rule es)) (Along output (borders fill rule es)) v) is
            (spoke_of output (borders fill rule es) (border e) v (kept_has border bounds es e k.0 bounding) k.1)

    spokes_complete : (s : Spoke) → IsSpoke (Along output (borders fill rule es)) (Along output (borders fill rule es)) v s → Has spokes s
    spokes_complete s is = by (spoke_is output (borders fill rule es) borders_are_links v s.far s.out is)
      where
        at : (l : Border) → Joins l v s.far → (l.edge.a ≡ v) ⊎ (l.edge.b ≡ v)
        at l (inl h) = inl h.0
        at l (inr h) = inr h.0

        listed : (l : Border) → Directed l → Joins l v s.far → outward output v l ≡ s.out → (e : Entry Count) × Has es e × (bounds e ≡ true) × (border e ≡ l) → Has spokes s
        listed l directed joins out (e, here, bounding, is) =
            let j : Joins (border e) v s.far = subst (λ m. Joins m v s.far) (sym is) joins in
            let far : far_end v e.edge ≡ s.far = (joins_far (border e) v s.far (subst Directed (sym is) directed) j).1 in
            let o : outward output v (border e) ≡ s.out = ap (outward output v) is ∙ out in
            subst (Has spokes) (λ i. record { far = far i; out = o i }) (kept_has (spoke_at v) bounds (starts ++ ends) e (in_ring e here (at (border e) j)) bounding)

        by : (l : Border) × Has (borders fill rule es) l × Joins l v s.far × (outward output v l ≡ s.out) → Has spokes s
        by (l, here, joins, out) =
            listed l (each_has Directed (borders fill rule es) l borders_are_links.directed here) joins out (kept_from border bounds es l here)

    -- ---- by turns

    -- the region lies on the hand of the output
    abbrev on_hand : Bool → Bool
    on_hand b = cond output (not b) b

    hand_turned : (b : Bool) → on_hand (not b) ≡ not (on_hand b)
    hand_turned b = by output
      where
        by : (o : Bool) → cond o (not (not b)) (not b) ≡ not (cond o (not b) b)
        by true = refl
        by false = refl

    outward_is : (e : Entry Count) → bounds e ≡ true → outward output v (border e) ≡ on_hand (region fill rule (left_side es v e))
    outward_is e bounding = by (starts_at v e) (region fill rule (upper_side es e)) (region fill rule (lower_side es e.edge)) output refl refl bounding
      where
        left_is : (s u l : Bool) → region fill rule (upper_side es e) ≡ u → region fill rule (lower_side es e.edge) ≡ l → region fill rule (cond s (upper_side es e) (lower_side es e.edge)) ≡ cond s u l
        left_is true u l f g = f
        left_is false u l f g = g

        values : (s u l o : Bool) → differ l u ≡ true → cond s (not (is_same u o)) (is_same u o) ≡ cond o (not (cond s u l)) (cond s u l)
        values s true true o h = absurd (false≢true h)
        values s false false o h = absurd (false≢true h)
        values true true false true h = refl
        values true true false false h = refl
        values true false true true h = refl
        values true false true false h = refl
        values false true false true h = refl
        values false true false false h = refl
        values false false true true h = refl
        values false false true false h = refl

        by : (s u l o : Bool) → region fill rule (upper_side es e) ≡ u → region fill rule (lower_side es e.edge) ≡ l → differ (region fill rule (lower_side es e.edge)) (region fill rule (upper_side es e)) ≡ true
            → cond s (not (is_same (region fill rule (upper_side es e)) o)) (is_same (region fill rule (upper_side es e)) o) ≡ cond o (not (region fill rule (cond s (upper_side es e) (lower_side es e.edge)))) (region fill rule (cond s (upper_side es e) (lower_side es e.edge)))
        by s u l o f g h =
            ap (λ z. cond s (not (is_same z o)) (is_same z o)) f
            ∙ (values s u l o (sym (λ i. differ (g i) (f i)) ∙ h) ∙ sym (ap (λ z. cond o (not z) z) (left_is s u l f g)))

    sides_differ : (e : Entry Count) → bounds e ≡ true → region fill rule (left_side es v e) ≡ not (region fill rule (right_side es v e))
    sides_differ e bounding = by (starts_at v e) (apart (region fill rule (lower_side es e.edge)) (region fill rule (upper_side es e)) bounding)
      where
        apart : (l u : Bool) → differ l u ≡ true → (u ≡ not l) × (l ≡ not u)
        apart true true h = absurd (false≢true h)
        apart true false h = (refl, refl)
        apart false true h = (refl, refl)
        apart false false h = absurd (false≢true h)

        by : (s : Bool) → (region fill rule (upper_side es e) ≡ not (region fill rule (lower_side es e.edge))) × (region fill rule (lower_side es e.edge) ≡ not (region fill rule (upper_side es e)))
            → region fill rule (cond s (upper_side es e) (lower_side es e.edge)) ≡ not (region fill rule (cond s (lower_side es e.edge) (upper_side es e)))
        by true h = h.0
        by false h = h.1

    sides_agree : (e : Entry Count) → bounds e ≡ false → region fill rule (right_side es v e) ≡ region fill rule (left_side es v e)
    sides_agree e inner = by (starts_at v e) (same (region fill rule (lower_side es e.edge)) (region fill rule (upper_side es e)) inner)
      where
        same : (l u : Bool) → differ l u ≡ false → l ≡ u
        same true true h = refl
        same true false h = absurd (false≢true (sym h))
        same false true h = absurd (false≢true (sym h))
        same false false h = refl

        by : (s : Bool) → region fill rule (lower_side es e.edge) ≡ region fill rule (upper_side es e)
            → region fill rule (cond s (lower_side es e.edge) (upper_side es e)) ≡ region fill rule (cond s (upper_side es e) (lower_side es e.edge))
        by true h = h
        by false h = sym h

    spokes_lead : (from to : Bool) (xs : List (Entry Count)) → Each (λ e. bounds e ≡ true) xs
        → Leads (λ e. region fill rule (right_side es v e)) (λ e. region fill rule (left_side es v e)) from to xs → ByTurns (λ s. s.out) (on_hand (not from)) (on_hand (not to)) (map (spoke_at v) xs)
    spokes_lead from to [] each h = ap (λ b. on_hand (not b)) h
    spokes_lead from to (x ∷ xs) each h = (
      outward_is x each.0 ∙ ap on_hand (sides_differ x each.0 ∙ ap not h.0),
      subst (λ b. ByTurns (λ s. s.out) b (on_hand (not to)) (map (spoke_at v) xs)) (hand_turned (region fill rule (left_side es v x)) ∙ ap not (sym (outward_is x each.0)))
          (spokes_lead (region fill rule (left_side es v x)) to xs each.1 h.1),
    )

    wheel : NodeRing → IsWheel false (Along output (borders fill rule es)) (Along output (borders fill rule es)) v spokes
    wheel rings = record {
      sound = spokes_sound;
      complete = spokes_complete;
      apart = spokes_apart;
      order = spokes_turn;
      start = on_hand (not (region fill rule (winding es (whole v))));
      by_turns =
          spokes_lead (region fill rule (winding es (whole v))) (region fill rule (winding es (whole v))) (filter bounds (starts ++ ends))
          (each_from_has (λ e. bounds e ≡ true) (filter bounds (starts ++ ends)) (λ e h. (filter_from bounds (starts ++ ends) e h).1))
          (leads_filter (λ e. region fill rule (right_side es v e)) (λ e. region fill rule (left_side es v e)) bounds sides_agree (region fill rule (winding es (whole v))) (region fill rule (winding es (whole v))) (starts ++ ends)
          (leads_seen (right_side es v) (left_side es v) (region fill rule) (winding es (whole v)) (winding es (whole v)) (starts ++ ends) (rings es starts ends v arranged ring)));
    }

  pub borders_alternate : PointsHaveRings → NodeRing → Alternates false (Along output (borders fill rule es)) (Along output (borders fill rule es))
  borders_alternate points rings v = by (points es v arranged)
    where
      by : (starts : List (Entry Count)) × (ends : List (Entry Count)) × IsRing es v starts ends → (spokes : List Spoke) × IsWheel false (Along output (borders fill rule es)) (Along output (borders fill rule es)) v spokes
      by (starts, ends, ring) = (map (spoke_at v) (filter bounds (starts ++ ends)), wheel v starts ends ring rings)

pub all_are_walked : PointsHaveRings → NodeRing → AllAreWalked
all_are_walked points rings fill rule es output arranged =
    walks_pass_all output (borders fill rule es) (borders_are_links fill rule es output arranged) (borders_alternate fill rule es output arranged points rings)

pub walks_of_any_turns_pass : PointsHaveRings → NodeRing → AnyWalksPass
walks_of_any_turns_pass points rings fill rule es output contours arranged walked =
    any_walks_pass output (borders fill rule es) contours walked (borders_are_links fill rule es output arranged) (borders_alternate fill rule es output arranged points rings)
