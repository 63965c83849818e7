-- From segment to segment of a sweep: what the collection of live segments holds.
use Rattle.std.proofs.Common.{◌≡◌, ◌≢◌, ℕ, ◌+◌, ◌≤◌, ◌<◌, ◌⊎◌, inl, inr, ℤ, ◌≤ℤ◌, ◌<ℤ◌, int_lt, true, false, cond, List, [], ◌∷◌, ◌++◌, length, take, drop, get_or, Bool, filter, All, Contains, Option, Some, refl, sym, ap, ap₂, subst, ◌∙◌, arith}
use Rattle.std.specs.Ordering.{int_cmp, is_lt, is_gt, is_some_and}
use Rattle.std.specs.declared.cmp.Ordering.{Ordering}
use Rattle.std.specs.declared.cmp.Ordering.TheVariants.{Less, Equal, Greater}
use Rattle.std.proofs.lemmas.Bool.{false≢true}
use Rattle.std.proofs.lemmas.Int.{ints}
use Rattle.std.proofs.lemmas.List.{take_more, drop_more, append-nil}
use Rattle.std.proofs.lemmas.List.Elements.{All-contains, All-contains_itself, All-tail, All-weaker, Contains-append_left, Contains-append_right, Contains-push_cases, filter_passes, All-filter, filter-append}
use Rattle.std.proofs.lemmas.Option.{none-some}
use Rattle.i_tree.specs.LiveList.{LiveList, nothing_kept, is_live, live_at, live_with, IsAmong, IsLawful, IsNewKey, IsNotBefore, IsAdvanced, IsInserted}
use Rattle.i_tree.specs.EntryLaws.{TimeKeepsTheLive, LiveInsertionAddsOne}
use Rattle.plane_base.specs.Plane.{Point, Edge, edge_order, point_order}
use Rattle.plane_base.specs.Counts.{Count, Entry}
use Rattle.plane_base.specs.ColumnLaws.{IsLive}
use Rattle.plane_base.specs.Segments.{column_order, order_against}
use Rattle.plane_base.specs.Windings.{winding}
use Rattle.plane_base.proofs.Facts.Columns.Order.{order_is_lawful}
use Rattle.plane_base.proofs.Facts.Points.Orders.{edge_total, less_apart, point_less_x, int_less, int_equal}
use Rattle.segment_arrangement.specs.EdgeSides.{upper_side}
use Rattle.segment_arrangement.specs.FanLaws.{whole, IsLiveList}
use Rattle.segment_arrangement.specs.SideLaws.{IsArrangement}
use Rattle.segment_arrangement.specs.SweepViews.{HoldsUppers, reaching, IsPlaceAt, IsSwept, AreStartsAt}
use Rattle.segment_arrangement.proofs.Facts.LiveLists.{live_edges_are_ordered, Contains-filter}
use Rattle.segment_arrangement.proofs.Sweeps.Seams.{All-from, early_is_in, at_place, at_later_place, not_before, sorted, is_early}

-- ---- the edges that reach beyond a column

pub reaches : (x : ℤ) (es : List (Entry Count)) (e : Entry Count) → Contains (reaching x es) e → Contains es e × (int_lt x e.edge.b.x ≡ true)
reaches x es e c = (
  All-contains (Contains es) (reaching x es) e (All-filter (λ e. int_lt x e.edge.b.x) (Contains es) es (All-contains_itself es)) c,
  All-contains (λ e. int_lt x e.edge.b.x ≡ true) (reaching x es) e (filter_passes (λ e. int_lt x e.edge.b.x) es) c,
)

-- the starts of strictly sorted edges don't go back
pub start_not_after : (s t : Edge) → edge_order s t ≡ Less → s.a.x ≤ℤ t.a.x
start_not_after s t e = by (not_before s t e)
  where
    by : (point_order s.a t.a ≡ Less) ⊎ (s.a ≡ t.a) → s.a.x ≤ℤ t.a.x
    by (inl l) = point_less_x s.a t.a l
    by (inr same) = let level = ap (λ p. p.x) same in omega (arith, ints, level)

-- what the tests of numbers say of their values
module _ {E : Type 0} (value : E → ℤ) (cmp : E → E → Ordering) (ordered : (a b : E) → cmp a b ≡ int_cmp (value a) (value b)) (partial : E → E → Option Ordering) (agrees : (a b : E) → partial a b ≡ Some (cmp a b)) (a b : E) where
  lesser : (o : Ordering) → int_cmp (value a) (value b) ≡ o → is_some_and is_lt (partial a b) ≡ is_lt o
  lesser o e = ap (is_some_and is_lt) (agrees a b) ∙ ap is_lt (ordered a b ∙ e)

  pub less_if : is_some_and is_lt (partial a b) ≡ true → value a <ℤ value b
  less_if h = by (int_cmp (value a) (value b)) refl
    where
      by : (o : Ordering) → int_cmp (value a) (value b) ≡ o → value a <ℤ value b
      by Less e = int_less (value a) (value b) e
      by Equal e = absurd (false≢true (sym (lesser Equal e) ∙ h))
      by Greater e = absurd (false≢true (sym (lesser Greater e) ∙ h))

  pub not_less_if : is_some_and is_lt (partial a b) ≡ false → value b ≤ℤ value a
  not_less_if h = by (int_cmp (value a) (value b)) refl
    where
      by : (o : Ordering) → int_cmp (value a) (value b) ≡ o → value b ≤ℤ value a
      by Less e = absurd (false≢true (sym h ∙ lesser Less e))
      by Equal e = grind (arith, ints, e)
      by Greater e = grind (arith, ints, e)

-- at a point at which edges start, those before them that reach beyond it are its live list
pub live_list : (es : List (Entry Count)) (v : Point) (from to : ℕ) → from ≤ to → AreStartsAt es v from to → IsLiveList es v (reaching v.x (take from es))
live_list es v from to order starts = record {
  sound = All-from (λ e. Contains es e × IsLive v.x e.edge × (point_order e.edge.a v ≡ Less)) (reaching v.x (take from es)) (λ e c.
      let r = reaches v.x (take from es) e c in
      let before = All-contains (λ f. point_order f.edge.a v ≡ Less) (take from es) e starts.before r.0 in
      let left : e.edge.a.x ≤ℤ v.x = point_less_x e.edge.a v before in
      let right : v.x <ℤ e.edge.b.x = omega (arith, ints, r.1) in
      (early_is_in from es e r.0, (left, right), before));
  complete = λ e here live before.
      let right : int_lt v.x e.edge.b.x ≡ true = grind (arith, ints, live.1) in
      Contains-filter (λ f. int_lt v.x f.edge.b.x) (take from es) e (is_early es v from to order starts e here before) right;
}

-- ---- keys

module _ {K E : Type 0} (value : E → ℤ) (cmp : E → E → Ordering) (ordered : (a b : E) → cmp a b ≡ int_cmp (value a) (value b)) (expires : K → E) (edge : K → Edge) (ends : (k : K) → value (expires k) ≡ (edge k).b.x) (es : List (Entry Count)) where
  not_less : (s t : E) → value t ≤ℤ value s → cmp s t ≢ Less
  not_less s t l e = let m = int_less (value s) (value t) (sym (ordered s t) ∙ e) in absurd (omega (arith, ints, l, m))

  not_after : (s t : E) → cmp s t ≢ Less → value t ≤ℤ value s
  not_after s t h = by (int_cmp (value s) (value t)) refl
    where
      by : (o : Ordering) → int_cmp (value s) (value t) ≡ o → value t ≤ℤ value s
      by Less e = absurd (h (ordered s t ∙ e))
      by Equal e = grind (arith, ints, e)
      by Greater e = grind (arith, ints, e)

  -- before the first edge nothing is kept
  pub nothing_swept : (kept : LiveList K E Count) → kept ≡ nothing_kept → IsSwept value cmp expires edge es 0 kept
  nothing_swept kept is = subst (IsSwept value cmp expires edge es 0) (sym is) (record {
    in_time = λ time never. absurd (none-some time never);
    few = omega arith;
    stored = omega arith;
    holds = λ time from. record { sound = λ k c there. absurd (omega (arith, there.1)); complete = λ e there. absurd (omega (arith, there.1)) };
  })

  -- no time was after the start of the next edge
  pub time_goes_on : (n : ℕ) (kept : LiveList K E Count) (time : E) (d : Entry Count) → IsSwept value cmp expires edge es n kept → n < length es → value time ≡ (get_or es n d).edge.a.x → IsNotBefore cmp time kept
  time_goes_on n kept time d swept within now latest is =
      not_less time latest (let l = All-contains (λ e. value latest ≤ℤ e.edge.a.x) (drop n es) (get_or es n d) (swept.in_time latest is) (at_later_place es n n d (omega arith) within) in omega (arith, ints, l, now))

  -- what a query tells at the start of the next edge
  pub told_of :
      (P : List (Entry Count) → Type 0) (from to : ℕ) (v : Point) (d : Entry Count) → from ≤ to → from < length es → IsArrangement es → AreStartsAt es v from to → (kept : LiveList K E Count) (time : E)
      → IsSwept value cmp expires edge es from kept → value time ≡ v.x → (get_or es from d).edge.a ≡ v
      → ((fs list : List (Entry Count)) (e : Entry Count) → IsArrangement fs → IsLiveList fs v list → HoldsUppers edge fs list (live_at cmp expires time kept.entries) → Contains fs e → e.edge.a ≡ v → P fs)
      → P es
  told_of P from to v d order within arranged starts kept time swept now first tells =
      tells es (reaching v.x (take from es)) (get_or es from d) arranged (live_list es v from to order starts)
      (subst (λ x. HoldsUppers edge es (reaching x (take from es)) (live_at cmp expires time kept.entries)) now (swept.holds time (λ latest is.
      let l = All-contains (λ e. value latest ≤ℤ e.edge.a.x) (drop from es) (get_or es from d) (swept.in_time latest is) (at_later_place es from from d (omega arith) within) in
      let level = ap (λ p. p.x) first in
      omega (arith, ints, l, level, now)))) (at_place es from d within) first

  pub told :
      (from to : ℕ) (v : Point) (d : Entry Count) → from ≤ to → from < length es → IsArrangement es → AreStartsAt es v from to → (kept : LiveList K E Count) (time : E)
      → IsSwept value cmp expires edge es from kept → value time ≡ v.x → (get_or es from d).edge.a ≡ v → (answer : Count)
      → ((fs list : List (Entry Count)) (e : Entry Count) → IsArrangement fs → IsLiveList fs v list → HoldsUppers edge fs list (live_at cmp expires time kept.entries) → Contains fs e → e.edge.a ≡ v → answer ≡ winding fs (whole v))
      → answer ≡ winding es (whole v)
  told from to v d order within arranged starts kept time swept now first answer tells = told_of (λ fs. answer ≡ winding fs (whole v)) from to v d order within arranged starts kept time swept now first tells

  -- a query at the start of the next edge
  pub advanced :
      (n : ℕ) (old new : LiveList K E Count) (time : E) → IsSwept value cmp expires edge es n old → IsNotBefore cmp time old → All (λ e. value time ≤ℤ e.edge.a.x) (drop n es)
      → IsAdvanced cmp expires time old new → IsSwept value cmp expires edge es n new
  advanced n old new time swept in_time coming is = record {
    in_time = λ t same. let e : time ≡ t = cc (is.latest_time) in subst (λ t. All (λ e. value t ≤ℤ e.edge.a.x) (drop n es)) e coming;
    few = omega (arith, is.insertions, swept.few);
    stored = omega (arith, is.stored, swept.stored);
    holds = λ t after.
        let on : value time ≤ℤ value t = after time is.latest_time in
        rw (is.later t (not_less t time on)) (swept.holds t (λ s same. let l = not_after time s (in_time s same) in omega (arith, ints, l, on)));
  }

  -- ---- liveness

  live_reaches : (k : K) (t : E) → is_live cmp expires t k ≡ true → int_lt (value t) (edge k).b.x ≡ true
  live_reaches k t h = ap (int_lt (value t)) (sym (ends k)) ∙ by (int_cmp (value (expires k)) (value t)) refl (ap is_gt (sym (ordered (expires k) t)) ∙ h)
    where
      by : (o : Ordering) → int_cmp (value (expires k)) (value t) ≡ o → is_gt (int_cmp (value (expires k)) (value t)) ≡ true → int_lt (value t) (value (expires k)) ≡ true
      by Less e g = absurd (false≢true (ap is_gt (sym e) ∙ g))
      by Equal e g = absurd (false≢true (ap is_gt (sym e) ∙ g))
      by Greater e g = grind (arith, ints, e)

  reaches_live : (k : K) (t : E) → int_lt (value t) (edge k).b.x ≡ true → is_live cmp expires t k ≡ true
  reaches_live k t h = ap is_gt (ordered (expires k) t) ∙ by (int_cmp (value (expires k)) (value t)) refl
    where
      beyond : int_lt (value t) (value (expires k)) ≡ true
      beyond = ap (int_lt (value t)) (ends k) ∙ h

      by : (o : Ordering) → int_cmp (value (expires k)) (value t) ≡ o → is_gt (int_cmp (value (expires k)) (value t)) ≡ true
      by Less e = let l = int_less (value (expires k)) (value t) e in absurd (omega (arith, ints, l, beyond))
      by Equal e = let l = int_equal (value (expires k)) (value t) e in absurd (omega (arith, ints, l, beyond))
      by Greater e = ap is_gt e

  -- ---- one segment more

  module _ (n : ℕ) (d : Entry Count) (within : n < length es) (kept : LiveList K E Count) (swept : IsSwept value cmp expires edge es n kept) (time : E) (now : kept.latest_time ≡ Some time) (start : value time ≡ (get_or es n d).edge.a.x) where
    abbrev f : Entry Count
    f = get_or es n d

    one_more : take (n + 1) es ≡ take n es ++ f ∷ []
    one_more = take_more es n d within

    from_now : (t : E) → value time ≤ℤ value t → HoldsUppers edge es (reaching (value t) (take n es)) (live_at cmp expires t kept.entries)
    from_now t on = swept.holds t (λ s same. let e : time ≡ s = cc (now) in subst (λ s. value s ≤ℤ value t) e on)

    coming : All (λ e. value time ≤ℤ e.edge.a.x) (drop (n + 1) es)
    coming = All-tail (λ e. value time ≤ℤ e.edge.a.x) f (drop (n + 1) es) (subst (All (λ e. value time ≤ℤ e.edge.a.x)) (drop_more es n d within) (swept.in_time time now))

    -- a vertical one never lives
    pub passed_over : f.edge.b.x ≤ℤ value time → IsSwept value cmp expires edge es (n + 1) kept
    passed_over vertical = record {
      in_time = λ t same. let e : time ≡ t = cc (now) in subst (λ t. All (λ e. value t ≤ℤ e.edge.a.x) (drop (n + 1) es)) e coming;
      few = omega (arith, swept.few);
      stored = omega (arith, swept.stored);
      holds = λ t after.
          let on : value time ≤ℤ value t = after time now in
          let over : int_lt (value t) f.edge.b.x ≡ false = grind (arith, ints, on, vertical) in
          subst (λ l. HoldsUppers edge es l (live_at cmp expires t kept.entries)) (sym (same_reaching t over)) (from_now t on);
    }
      where
        same_reaching : (t : E) → int_lt (value t) f.edge.b.x ≡ false → reaching (value t) (take (n + 1) es) ≡ reaching (value t) (take n es)
        same_reaching t over =
            ap (reaching (value t)) one_more
            ∙ (filter-append (λ e. int_lt (value t) e.edge.b.x) (take n es) (f ∷ [])
            ∙ (ap (λ b. reaching (value t) (take n es) ++ cond b (f ∷ []) []) over ∙ append-nil (reaching (value t) (take n es))))

    module _ (arranged : IsArrangement es) (beyond : f.edge.a.x <ℤ f.edge.b.x) (key : K) (is_key : edge key ≡ f.edge) where
      live_now : IsLive (value time) f.edge
      live_now = (omega (arith, ints, start), omega (arith, ints, start, beyond))

      of_entry : (k : K) (c : Count) → Contains (live_at cmp expires time kept.entries) (k, c) → (e : Entry Count) × Contains es e × (edge k ≡ e.edge) × IsLive (value time) e.edge × (edge_order e.edge f.edge ≡ Less)
      of_entry k c there =
          let s = (from_now time (omega (arith, ints))).sound k c there in
          let r = reaches (value time) (take n es) s.0 s.1 in
          let below = sorted es arranged.rising n s.0 f r.0 (at_later_place es n n d (omega arith) within) in
          let left = start_not_after s.0.edge f.edge below in
          (s.0, early_is_in n es s.0 r.0, s.2, (omega (arith, ints, left, start), omega (arith, ints, r.1)), below)

      of_key : (k : K) → IsAmong key (live_at cmp expires time kept.entries) k → (e : Entry Count) × Contains es e × (edge k ≡ e.edge) × IsLive (value time) e.edge
      of_key k (inl same) = (f, at_place es n d within, ap edge same ∙ is_key, live_now)
      of_key k (inr there) = let s = of_entry k there.0 there.1 in (s.0, s.1, s.2, s.3)

      pub lawful : IsLawful (λ j k. column_order (edge j) (edge k)) key (live_at cmp expires time kept.entries)
      lawful = record {
        reversed = λ j k _ _. order_is_lawful.reversed (edge k) (edge j);
        through = λ i j k a b c l m.
            let s = of_key i a in
            let t = of_key j b in
            let u = of_key k c in
            ap₂ column_order s.2 u.2
            ∙ live_edges_are_ordered.through es s.0 t.0 u.0 (value time) arranged s.1 t.1 u.1 s.3 t.3 u.3 (sym (ap₂ column_order s.2 t.2) ∙ l) (sym (ap₂ column_order t.2 u.2) ∙ m);
      }

      pub new_key : IsNewKey (λ j k. column_order (edge j) (edge k)) key (live_at cmp expires time kept.entries)
      new_key = All-from (λ e. column_order (edge e.0) (edge key) ≢ Equal) (live_at cmp expires time kept.entries) (λ e c level.
          let s = of_entry e.0 e.1 c in
          live_edges_are_ordered.decided es s.0 f (value time) arranged s.1 (at_place es n d within) s.3 live_now (less_apart edge_total s.0.edge f.edge s.4) (sym (ap₂ column_order s.2 is_key) ∙ level))

    module _ (keeps : TimeKeepsTheLive K E Count) (adds : LiveInsertionAddsOne K E Count) (order : K → K → Ordering) (key : K) (is_key : edge key ≡ f.edge) (c : Count) (is_upper : c ≡ upper_side es f) (new : LiveList K E Count) (is : IsInserted cmp expires order (key, c) time kept new) where
      grows : (t : E) (e : Entry Count) → Contains (reaching (value t) (take n es)) e → Contains (reaching (value t) (take (n + 1) es)) e
      grows t e there =
          let r = reaches (value t) (take n es) e there in
          Contains-filter (λ g. int_lt (value t) g.edge.b.x) (take (n + 1) es) e (subst (λ l. Contains l e) (sym one_more) (Contains-append_left (take n es) (f ∷ []) e r.0)) r.1

      itself : (t : E) → int_lt (value t) f.edge.b.x ≡ true → Contains (reaching (value t) (take (n + 1) es)) f
      itself t far = Contains-filter (λ g. int_lt (value t) g.edge.b.x) (take (n + 1) es) f (subst (λ l. Contains l f) (sym one_more) (Contains-append_right (take n es) (f ∷ []) f (0, omega arith, refl))) far

      with_key : (t : E) → value time ≤ℤ value t → HoldsUppers edge es (reaching (value t) (take (n + 1) es)) (live_with cmp expires order (key, c) t kept.entries)
      with_key t on = record {
        sound = λ k a there. let m = (adds cmp expires order (key, c) t kept.entries (k, a)).0 there in of_source (k, a) m.0 m.1;
        complete = λ e there. let r = reaches (value t) (take (n + 1) es) e there in of_place e r.1 (Contains-push_cases (take n es) f e (subst (λ l. Contains l e) one_more r.0));
      }
        where
          of_source :
              (h : K × Count) → (h ≡ (key, c)) ⊎ Contains kept.entries h → is_live cmp expires t h.0 ≡ true
              → (e : Entry Count) × Contains (reaching (value t) (take (n + 1) es)) e × (edge h.0 ≡ e.edge) × (h.1 ≡ upper_side es e)
          of_source h (inl same) live =
              let here = ap (λ p. edge p.0) same ∙ is_key in
              (f, itself t (ap (λ s. int_lt (value t) s.b.x) (sym here) ∙ live_reaches h.0 t live), here, ap (λ p. p.1) same ∙ is_upper)
          of_source h (inr old) live =
              let s = (from_now t on).sound h.0 h.1 ((keeps cmp expires t kept.entries h).1 (old, live)) in
              (s.0, grows t s.0 s.1, s.2, s.3)

          of_place : (e : Entry Count) → int_lt (value t) e.edge.b.x ≡ true → Contains (take n es) e ⊎ (f ≡ e) → (k : K) × Contains (live_with cmp expires order (key, c) t kept.entries) (k, upper_side es e) × (edge k ≡ e.edge)
          of_place e far (inl here) =
              let s = (from_now t on).complete e (Contains-filter (λ g. int_lt (value t) g.edge.b.x) (take n es) e here far) in
              let m = (keeps cmp expires t kept.entries (s.0, upper_side es e)).0 s.1 in
              (s.0, (adds cmp expires order (key, c) t kept.entries (s.0, upper_side es e)).1 (inr m.0, m.1), s.2)
          of_place e far (inr same) =
              let here = is_key ∙ ap (λ g. g.edge) same in (
                key,
                (adds cmp expires order (key, c) t kept.entries (key, upper_side es e)).1
                    (inl (ap (λ a. (key, a)) (ap (upper_side es) (sym same) ∙ sym is_upper)), reaches_live key t (ap (λ s. int_lt (value t) s.b.x) here ∙ far)),
                here,
              )

      pub inserted : IsSwept value cmp expires edge es (n + 1) new
      inserted = record {
        in_time = λ t same. let e : time ≡ t = cc (is.latest_time) in subst (λ t. All (λ e. value t ≤ℤ e.edge.a.x) (drop (n + 1) es)) e coming;
        few = omega (arith, is.insertions, swept.few);
        stored = omega (arith, is.stored, swept.stored);
        holds = λ t after. let on : value time ≤ℤ value t = after time is.latest_time in rw (is.later t (not_less t time on)) (with_key t on);
      }

-- ---- the place of a new segment

-- what stands before the place of a start is below a segment that starts there, and what stands after it is above
module _ {K : Type 0} (edge : K → Edge) (v : Point) (before after : List (K × Count)) (place : IsPlaceAt edge v before after) (key : K) (start : (edge key).a ≡ v) where
  order_at : (k : K) (o : Ordering) → point_order (edge k).a v ≡ Less → order_against (edge k) v ≡ o → column_order (edge k) (edge key) ≡ o
  order_at k o early is =
      let first : point_order (edge k).a (edge key).a ≡ Less = subst (λ p. point_order (edge k).a p ≡ Less) (sym start) early in
      rw (column_order, first) (ap (order_against (edge k)) start ∙ is)

  pub all_below : All (λ e. column_order (edge e.0) (edge key) ≡ Less) before
  all_below = All-weaker (λ k. (point_order (edge k.0).a v ≡ Less) × (order_against (edge k.0) v ≡ Less)) (λ e. column_order (edge e.0) (edge key) ≡ Less) (λ k h. order_at k.0 Less h.0 h.1) before place.below

  pub all_above : All (λ e. column_order (edge e.0) (edge key) ≡ Greater) after
  all_above = All-weaker (λ k. (point_order (edge k.0).a v ≡ Less) × (order_against (edge k.0) v ≡ Greater)) (λ e. column_order (edge e.0) (edge key) ≡ Greater) (λ k h. order_at k.0 Greater h.0 h.1) after place.above

-- as long as it lives, what stands there stays
pub place_stays : {K : Type 0} (edge : K → Edge) (v : Point) (before after before_next after_next : List (K × Count)) (live : K × Count → Bool) → IsPlaceAt edge v before after → before_next ≡ filter live before → after_next ≡ filter live after → IsPlaceAt edge v before_next after_next
place_stays edge v before after before_next after_next live place b a = record {
  below = rw b (All-filter live (λ k. (point_order (edge k.0).a v ≡ Less) × (order_against (edge k.0) v ≡ Less)) before place.below);
  above = rw a (All-filter live (λ k. (point_order (edge k.0).a v ≡ Less) × (order_against (edge k.0) v ≡ Greater)) after place.above);
}
