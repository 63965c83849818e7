-- What the rows tell of a point at which edges start, and how they are kept from edge to edge.
use Rattle.std.proofs.Common.{◌≡◌, ◌≢◌, ℕ, ◌+◌, ◌-◌, ◌<◌, ◌≤◌, ◌⊎◌, inl, inr, ℤ, ◌≤ℤ◌, ◌<ℤ◌, true, false, Option, Some, None, List, [], ◌∷◌, ◌++◌, length, map, take, get_or, set, AllPairs, Contains, refl, sym, ap, subst, ◌∙◌, arith}
use Rattle.std.specs.Cmp.{int_cmp_is}
use Rattle.std.specs.Ordering.{int_cmp, int_eq, is_lt}
use Rattle.std.specs.declared.cmp.Ordering.TheVariants.{Less, Equal}
use Rattle.std.proofs.lemmas.Bool.{false≢true, cases_lt}
use Rattle.std.proofs.lemmas.Bool.Decides.{Decides-int_eq}
use Rattle.std.proofs.lemmas.Int.{ints, by_lt_z}
use Rattle.std.proofs.lemmas.List.{take_more, length-map, get_or-map, length-set, get_or-set_same, get_or-set_other}
use Rattle.std.proofs.lemmas.List.Elements.{All-contains, Contains-append_left, Contains-append_right, Contains-push_cases}
use Rattle.plane_base.specs.Plane.{Point, Edge, point_order}
use Rattle.plane_base.specs.Counts.{Count, Entry}
use Rattle.plane_base.specs.ColumnLaws.{IsLive}
use Rattle.plane_base.specs.Segments.{order_against, precedes}
use Rattle.plane_base.specs.Windings.{winding}
use Rattle.plane_base.proofs.Facts.Crossings.Tests.{one_true}
use Rattle.plane_base.proofs.Facts.Points.Orders.{edge_total, less_apart, point_less_x, int_less, int_cmp_less}
use Rattle.segment_split.specs.LineLaws.{is_rectilinear, AllRectilinear}
use Rattle.segment_split.specs.Passes.{edges_of}
use Rattle.segment_arrangement.specs.Columns.{no_count}
use Rattle.segment_arrangement.specs.EdgeSides.{upper_side}
use Rattle.segment_arrangement.specs.FanLaws.{whole, IsLiveList}
use Rattle.segment_arrangement.specs.HorizontalRows.{RunsAt, IsLastEnd, HoldsLast, IsHeight, AreHeights, HoldEnds, IsPlaceOf, is_live_row, IsLiveBelow}
use Rattle.segment_arrangement.specs.SideLaws.{IsArrangement}
use Rattle.segment_arrangement.specs.SweepViews.{reaching, AreStartsAt}
use Rattle.segment_arrangement.specs.declared.rectilinear_sides.HorizontalEnd.{HorizontalEnd}
use Rattle.segment_arrangement.proofs.Facts.Angles.{live_list_tells}
use Rattle.segment_arrangement.proofs.Facts.ColumnPlaces.{lt_holds, lt_tells}
use Rattle.segment_arrangement.proofs.Facts.ConstantSides.{Contains-map}
use Rattle.segment_arrangement.proofs.Facts.LiveLists.{live_edges_are_ordered}
use Rattle.segment_arrangement.proofs.RectilinearSides.Order.{IsHorizontalWay, horizontal_against, horizontals_by_height}
use Rattle.segment_arrangement.proofs.Sweeps.Seams.{early_is_in, at_place, at_later_place, is_early, sorted}
use Rattle.segment_arrangement.proofs.Sweeps.Steps.{live_list, start_not_after}

-- ---- horizontal edges of a map

-- one that isn't vertical is horizontal
module _ (es : List (Entry Count)) (all : AllRectilinear (edges_of es)) where
  pub wide_is_horizontal : (e : Entry Count) → Contains es e → e.edge.a.x <ℤ e.edge.b.x → IsHorizontalWay e.edge
  wide_is_horizontal e here wide =
      record {
        level = by (one_true (int_eq e.edge.a.y e.edge.b.y) (int_eq e.edge.a.x e.edge.b.x) (All-contains (λ s. is_rectilinear s ≡ true) (edges_of es) e.edge all (Contains-map (λ e. e.edge) es e here)));
        wide = wide;
      }
    where
      by : (int_eq e.edge.a.y e.edge.b.y ≡ true) ⊎ (int_eq e.edge.a.x e.edge.b.x ≡ true) → e.edge.a.y ≡ e.edge.b.y
      by (inl h) = (Decides-int_eq e.edge.a.y e.edge.b.y).0 h
      by (inr h) = let same = (Decides-int_eq e.edge.a.x e.edge.b.x).0 h in absurd (omega (arith, ints, wide, same))

  -- two of one height don't reach over one column
  pub never_beside : IsArrangement es → (e f : Entry Count) (x : ℤ) → Contains es e → Contains es f → IsLive x e.edge → IsLive x f.edge → e.edge ≢ f.edge → e.edge.a.y ≢ f.edge.a.y
  never_beside arranged e f x here there live other differ same =
      live_edges_are_ordered.decided es e f x arranged here there live other differ
      (horizontals_by_height e.edge f.edge (wide_is_horizontal e here (wide e.edge live)) (wide_is_horizontal f there (wide f.edge other)) ∙ level)
    where
      wide : (s : Edge) → IsLive x s → s.a.x <ℤ s.b.x
      wide s h = omega (arith, ints, h.0, h.1)

      level : int_cmp e.edge.a.y f.edge.a.y ≡ Equal
      level = sym (int_cmp_is e.edge.a.y f.edge.a.y Equal same)

-- ---- places of heights

module _ {I : Type 0} (value : I → ℤ) (heights : List I) (rising : AllPairs (λ y z. value y <ℤ value z) heights) where
  pub only_place : (y : ℤ) (place : ℕ) → IsPlaceOf value heights y place → (at : IsHeight value heights y) → I → at.place ≡ place
  only_place y place is at d = by (cases_lt at.place place) (cases_lt place at.place)
    where
      by : (at.place < place) ⊎ (place ≤ at.place) → (place < at.place) ⊎ (at.place ≤ place) → at.place ≡ place
      by (inl l) _ = let lower = is.below at.place d l in let same = at.is d in absurd (omega (arith, ints, lower, same))
      by (inr g) (inl l) =
          let m : place < length heights = omega (arith, l, at.within) in
          let up = is.others place d (omega arith) m in
          let more = rising place at.place d l at.within in
          let same = at.is d in
          absurd (omega (arith, ints, up, more, same))
      by (inr g) (inr h) = omega (arith, g, h)

  pub other_height : (i j : ℕ) (d : I) → i < length heights → j < length heights → value (get_or heights i d) ≡ value (get_or heights j d) → i ≡ j
  other_height i j d l m same = by (cases_lt i j) (cases_lt j i)
    where
      by : (i < j) ⊎ (j ≤ i) → (j < i) ⊎ (i ≤ j) → i ≡ j
      by (inl n) _ = let up = rising i j d n m in absurd (omega (arith, ints, up, same))
      by (inr g) (inl n) = let up = rising j i d n l in absurd (omega (arith, ints, up, same))
      by (inr g) (inr h) = omega (arith, g, h)

-- the heights beside a place tell whether it is that of a height
pub place_between :
    {I : Type 0} (value : I → ℤ) (y : ℤ) (heights : List I) (place : ℕ) → AllPairs (λ y z. value y <ℤ value z) heights → place ≤ length heights → ((d : I) → 0 < place → value (get_or heights (place - 1) d) <ℤ y)
    → ((d : I) → place < length heights → y ≤ℤ value (get_or heights place d)) → IsPlaceOf value heights y place
place_between {I} value y heights place rising within before at = record {
  within = within;
  below = λ i d l. by_below i d l (cases_lt i (place - 1));
  others = λ i d g l. by_others i d g l (cases_lt place i);
}
  where
    by_below : (i : ℕ) (d : I) → i < place → (i < place - 1) ⊎ (place - 1 ≤ i) → value (get_or heights i d) <ℤ y
    by_below i d l (inl m) = let up = rising i (place - 1) d m (omega (arith, l, within)) in let low = before d (omega (arith, l)) in omega (arith, ints, up, low)
    by_below i d l (inr g) = let same : place - 1 ≡ i = omega (arith, l, g) in subst (λ k. value (get_or heights k d) <ℤ y) same (before d (omega (arith, l)))

    by_others : (i : ℕ) (d : I) → place ≤ i → i < length heights → (place < i) ⊎ (i ≤ place) → y ≤ℤ value (get_or heights i d)
    by_others i d g l (inl m) = let up = rising place i d m l in let high = at d (omega (arith, m, l)) in omega (arith, ints, up, high)
    by_others i d g l (inr h) = let same : place ≡ i = omega (arith, g, h) in subst (λ k. y ≤ℤ value (get_or heights k d)) same (at d (omega (arith, same, l)))

-- ---- what lies below a point at which edges start

module _ {I : Type 0} (value : I → ℤ) (es : List (Entry Count)) (arranged : IsArrangement es) (all : AllRectilinear (edges_of es)) (v : Point) (from to : ℕ) (order : from ≤ to) (starts : AreStartsAt es v from to) (heights : List I) (are : AreHeights value es heights) (ends : List (Option (HorizontalEnd I))) (hold : HoldEnds value es from heights ends) (before : ℕ) (place : IsPlaceOf value heights v.y before) (d : I) where
  abbrev list : List (Entry Count)
  list = reaching v.x (take from es)

  live : IsLiveList es v list
  live = live_list es v from to order starts

  listed : (e : Entry Count) → Contains list e → Contains es e × IsLive v.x e.edge × (point_order e.edge.a v ≡ Less)
  listed e here = All-contains (λ e. Contains es e × IsLive v.x e.edge × (point_order e.edge.a v ≡ Less)) list e live.sound here

  -- an edge that lies below the point has a row below it that reaches beyond its column
  record RowOf (f : Entry Count) : Type 0 where
    r : ℕ
    below : r < before
    height : value (get_or heights r d) ≡ f.edge.a.y
    reaches : is_live_row value v.x (get_or ends r None) ≡ true

  row_of : (f : Entry Count) → Contains list f → order_against f.edge v ≡ Less → RowOf f
  row_of f here l =
      let s = listed f here in
      let wide : f.edge.a.x <ℤ f.edge.b.x = omega (arith, ints, s.1.0, s.1.1) in
      let under = int_less f.edge.a.y v.y (sym (horizontal_against f.edge (wide_is_horizontal es all f s.0 wide) v) ∙ l) in
      let at = are.all f s.0 wide in
      record {
        r = at.place;
        below = lower at under (cases_lt at.place before);
        height = at.is d;
        reaches = by (get_or ends at.place None) (record { height = sym (at.is d); wide = wide }) (is_early es v from to order starts f s.0 s.2) s.1 (hold.each at.place d None at.within);
      }
    where
      lower : (at : IsHeight value heights f.edge.a.y) → f.edge.a.y <ℤ v.y → (at.place < before) ⊎ (before ≤ at.place) → at.place < before
      lower at under (inl n) = n
      lower at under (inr n) = let up = place.others at.place d n at.within in let same = at.is d in absurd (omega (arith, ints, up, same, under))

      by : {y : ℤ} (row : Option (HorizontalEnd I)) → RunsAt y f.edge → Contains (take from es) f → IsLive v.x f.edge → HoldsLast value es (take from es) y row → is_live_row value v.x row ≡ true
      by None runs early live h = absurd (h f early runs)
      by (Some end) runs early live h =
          let far = h.last f early runs in
          let same = h.x in
          lt_holds v.x (value end.x) (omega (arith, ints, far, same, live.1))

  pub found_below : (r : ℕ) (end : HorizontalEnd I) → IsLiveBelow value v.x ends before r → get_or ends r None ≡ Some end → end.top ≡ winding es (whole v)
  found_below r end h is = at (subst (HoldsLast value es (take from es) (value (get_or heights r d))) is (hold.each r d None (omega (arith, h.below, place.within))))
    where
      beyond : v.x <ℤ value end.x
      beyond = lt_tells v.x (value end.x) (ap (is_live_row value v.x) (sym is) ∙ h.live None)

      at : IsLastEnd value es (take from es) (value (get_or heights r d)) end → end.top ≡ winding es (whole v)
      at last = last.top ∙ sym (live_list_tells.of_last es list v e arranged live (record { here = there; below = under; last = above }))
        where
          e : Entry Count
          e = last.of

          here : Contains es e
          here = early_is_in from es e last.here

          early : point_order e.edge.a v ≡ Less
          early = All-contains (λ e. point_order e.edge.a v ≡ Less) (take from es) e starts.before last.here

          over : IsLive v.x e.edge
          over = let same = last.x in (point_less_x e.edge.a v early, omega (arith, ints, beyond, same))

          there : Contains list e
          there = live.complete e here over early

          level : IsHorizontalWay e.edge
          level = wide_is_horizontal es all e here last.runs.wide

          under : order_against e.edge v ≡ Less
          under =
              let lower = place.below r d h.below in
              let same = last.runs.height in
              horizontal_against e.edge level v ∙ int_cmp_less e.edge.a.y v.y (omega (arith, ints, lower, same))

          above : (f : Entry Count) → Contains list f → order_against f.edge v ≡ Less → e.edge ≢ f.edge → precedes f.edge e.edge ≡ true
          above f in_list l differ = by (row_of f in_list l) (listed f in_list)
            where
              by : RowOf f → Contains es f × IsLive v.x f.edge × (point_order f.edge.a v ≡ Less) → precedes f.edge e.edge ≡ true
              by row s = side (cases_lt r row.r) (cases_lt row.r r)
                where
                  f_horizontal : IsHorizontalWay f.edge
                  f_horizontal = wide_is_horizontal es all f s.0 (omega (arith, ints, s.1.0, s.1.1))

                  side : (r < row.r) ⊎ (row.r ≤ r) → (row.r < r) ⊎ (r ≤ row.r) → precedes f.edge e.edge ≡ true
                  side (inl n) _ = absurd (false≢true (sym (h.others row.r None n row.below) ∙ row.reaches))
                  side (inr g) (inl n) =
                      let up = are.rising row.r r d n (omega (arith, h.below, place.within)) in
                      let one = row.height in
                      let two = last.runs.height in
                      ap is_lt (horizontals_by_height f.edge e.edge f_horizontal level ∙ int_cmp_less f.edge.a.y e.edge.a.y (omega (arith, ints, up, one, two)))
                  side (inr g) (inr n) =
                      let same : row.r ≡ r = omega (arith, g, n) in
                      absurd (never_beside es all arranged e f v.x here s.0 over s.1 differ (last.runs.height ∙ (ap (λ k. value (get_or heights k d)) (sym same) ∙ row.height)))

  pub row_tells : (r : ℕ) (row : Option (HorizontalEnd I)) → IsLiveBelow value v.x ends before r → get_or ends r None ≡ row → (top : Count) → ((end : HorizontalEnd I) → row ≡ Some end → top ≡ end.top) → top ≡ winding es (whole v)
  row_tells r None h is top tops = absurd (false≢true (ap (is_live_row value v.x) (sym is) ∙ h.live None))
  row_tells r (Some end) h is top tops = tops end refl ∙ found_below r end h is

  pub nothing_below : ((i : ℕ) (row : Option (HorizontalEnd I)) → i < before → is_live_row value v.x (get_or ends i row) ≡ false) → no_count ≡ winding es (whole v)
  nothing_below none = sym (live_list_tells.of_none es list v live (λ f here l. let row = row_of f here l in false≢true (sym (none row.r None row.below) ∙ row.reaches)))

-- ---- one edge more

module _ {I : Type 0} (value : I → ℤ) (es : List (Entry Count)) (arranged : IsArrangement es) (all : AllRectilinear (edges_of es)) (n : ℕ) (d : Entry Count) (within : n < length es) where
  abbrev f : Entry Count
  f = get_or es n d

  one_more : take (n + 1) es ≡ take n es ++ f ∷ []
  one_more = take_more es n d within

  grown : (e : Entry Count) → Contains (take (n + 1) es) e → Contains (take n es) e ⊎ (f ≡ e)
  grown e c = Contains-push_cases (take n es) f e (subst (λ l. Contains l e) one_more c)

  old_in : (e : Entry Count) → Contains (take n es) e → Contains (take (n + 1) es) e
  old_in e c = subst (λ l. Contains l e) (sym one_more) (Contains-append_left (take n es) (f ∷ []) e c)

  new_in : Contains (take (n + 1) es) f
  new_in = subst (λ l. Contains l f) (sym one_more) (Contains-append_right (take n es) (f ∷ []) f (0, omega arith, refl))

  -- a row in which the edge doesn't run
  same_row : (y : ℤ) (row : Option (HorizontalEnd I)) → (RunsAt y f.edge → ⊥) → HoldsLast value es (take n es) y row → HoldsLast value es (take (n + 1) es) y row
  same_row y None apart h = λ e c runs. by e runs (grown e c)
    where
      by : (e : Entry Count) → RunsAt y e.edge → Contains (take n es) e ⊎ (f ≡ e) → ⊥
      by e runs (inl old) = h e old runs
      by e runs (inr same) = apart (subst (λ g. RunsAt y g.edge) (sym same) runs)
  same_row y (Some end) apart h = record {
    of = h.of;
    here = old_in h.of h.here;
    runs = h.runs;
    x = h.x;
    top = h.top;
    last = λ e c runs. by e runs (grown e c);
  }
    where
      by : (e : Entry Count) → RunsAt y e.edge → Contains (take n es) e ⊎ (f ≡ e) → e.edge.b.x ≤ℤ h.of.edge.b.x
      by e runs (inl old) = h.last e old runs
      by e runs (inr same) = absurd (apart (subst (λ g. RunsAt y g.edge) (sym same) runs))

  -- the row in which it runs
  new_row : (end : HorizontalEnd I) → value end.x ≡ f.edge.b.x → end.top ≡ upper_side es f → f.edge.a.x <ℤ f.edge.b.x → IsLastEnd value es (take (n + 1) es) f.edge.a.y end
  new_row end x top wide = record {
    of = f;
    here = new_in;
    runs = record { height = refl; wide = wide };
    x = x;
    top = top;
    last = λ e c runs. by e runs (grown e c);
  }
    where
      ended : (e : Entry Count) → RunsAt f.edge.a.y e.edge → Contains (take n es) e → (f.edge.a.x <ℤ e.edge.b.x) ⊎ (e.edge.b.x ≤ℤ f.edge.a.x) → e.edge.b.x ≤ℤ f.edge.b.x
      ended e runs old (inr l) = omega (arith, ints, l, wide)
      ended e runs old (inl l) =
          let below = sorted es arranged.rising n e f old (at_later_place es n n d (omega arith) within) in
          let left = start_not_after e.edge f.edge below in
          absurd
          (never_beside es all arranged e f f.edge.a.x (early_is_in n es e old) (at_place es n d within) (left, l) (omega (arith, ints), wide) (less_apart edge_total e.edge f.edge below)
          runs.height)

      by : (e : Entry Count) → RunsAt f.edge.a.y e.edge → Contains (take n es) e ⊎ (f ≡ e) → e.edge.b.x ≤ℤ f.edge.b.x
      by e runs (inl old) = ended e runs old (by_lt_z f.edge.a.x e.edge.b.x inl inr)
      by e runs (inr same) = let level = ap (λ g. g.edge.b.x) same in omega (arith, ints, level)

  module _ (heights : List I) (ends : List (Option (HorizontalEnd I))) (hold : HoldEnds value es n heights ends) where
    -- a vertical one is in no row
    pub passed_over : f.edge.b.x ≤ℤ f.edge.a.x → HoldEnds value es (n + 1) heights ends
    passed_over vertical = record {
      one_each = hold.one_each;
      each = λ r y none l. same_row (value (get_or heights r y)) (get_or ends r none) (λ runs. let wide = runs.wide in omega (arith, ints, vertical, wide)) (hold.each r y none l);
    }

    module _ (are : AreHeights value es heights) (wide : f.edge.a.x <ℤ f.edge.b.x) (place : ℕ) (is : IsPlaceOf value heights f.edge.a.y place) where
      pub has_row : I → place < length heights
      has_row y = let at = are.all f (at_place es n d within) wide in let same = only_place value heights are.rising f.edge.a.y place is at y in subst (λ k. k < length heights) same at.within

      own_height : (y : I) → value (get_or heights place y) ≡ f.edge.a.y
      own_height y = let at = are.all f (at_place es n d within) wide in let same = only_place value heights are.rising f.edge.a.y place is at y in ap (λ k. value (get_or heights k y)) (sym same) ∙ at.is y

      pub kept : (end : HorizontalEnd I) → value end.x ≡ f.edge.b.x → end.top ≡ upper_side es f → HoldEnds value es (n + 1) heights (set ends place (Some end))
      kept end x top = record {
        one_each = length-set ends place (Some end) ∙ hold.one_each;
        each = λ r y none l. by r y none l (cases_lt r place) (cases_lt place r);
      }
        where
          other : (r : ℕ) (y : I) (none : Option (HorizontalEnd I)) → r < length heights → r ≢ place → HoldsLast value es (take (n + 1) es) (value (get_or heights r y)) (get_or (set ends place (Some end)) r none)
          other r y none l differ =
              rw (get_or-set_other ends place r (Some end) none differ)
              (same_row (value (get_or heights r y)) (get_or ends r none) (λ runs. differ (other_height value heights are.rising r place y l (has_row y) (sym runs.height ∙ sym (own_height y)))) (hold.each r y none l))

          by : (r : ℕ) (y : I) (none : Option (HorizontalEnd I)) → r < length heights → (r < place) ⊎ (place ≤ r) → (place < r) ⊎ (r ≤ place) → HoldsLast value es (take (n + 1) es) (value (get_or heights r y)) (get_or (set ends place (Some end)) r none)
          by r y none l (inl m) _ = other r y none l (λ same. omega (arith, m, same))
          by r y none l (inr g) (inl m) = other r y none l (λ same. omega (arith, m, same))
          by r y none l (inr g) (inr h) =
              let same : place ≡ r = omega (arith, g, h) in
              subst (λ k. HoldsLast value es (take (n + 1) es) (value (get_or heights k y)) (get_or (set ends place (Some end)) k none)) same
              (rw (get_or-set_same ends place (Some end) none (omega (arith, has_row y, hold.one_each)), own_height y) (new_row end x top wide))

-- ---- seen by segments

module _ {I X : Type 0} (value : I → ℤ) (entry : X → Entry Count) (segments : List X) (arranged : IsArrangement (map entry segments)) (all : AllRectilinear (edges_of (map entry segments))) (n : ℕ) (s : X) (within : n < length segments) (heights : List I) (ends : List (Option (HorizontalEnd I))) (hold : HoldEnds value (map entry segments) n heights ends) where
  here : n < length (map entry segments)
  here = rw length-map within

  same : get_or (map entry segments) n (entry s) ≡ entry (get_or segments n s)
  same = get_or-map entry segments n s (entry s) within

  -- a vertical one is in no row
  pub passes : (entry (get_or segments n s)).edge.b.x ≤ℤ (entry (get_or segments n s)).edge.a.x → HoldEnds value (map entry segments) (n + 1) heights ends
  passes vertical = passed_over value (map entry segments) arranged all n (entry s) here heights ends hold (subst (λ e. e.edge.b.x ≤ℤ e.edge.a.x) (sym same) vertical)

  module _ (are : AreHeights value (map entry segments) heights) (wide : (entry (get_or segments n s)).edge.a.x <ℤ (entry (get_or segments n s)).edge.b.x) (place : ℕ) (is : IsPlaceOf value heights (entry (get_or segments n s)).edge.a.y place) where
    wide_there : (get_or (map entry segments) n (entry s)).edge.a.x <ℤ (get_or (map entry segments) n (entry s)).edge.b.x
    wide_there = subst (λ e. e.edge.a.x <ℤ e.edge.b.x) (sym same) wide

    is_there : IsPlaceOf value heights (get_or (map entry segments) n (entry s)).edge.a.y place
    is_there = subst (λ e. IsPlaceOf value heights e.edge.a.y place) (sym same) is

    pub has : I → place < length ends
    has y = let l = has_row value (map entry segments) arranged all n (entry s) here heights ends hold are wide_there place is_there y in omega (arith, l, hold.one_each)

    pub keeps : (end : HorizontalEnd I) → value end.x ≡ (entry (get_or segments n s)).edge.b.x → end.top ≡ upper_side (map entry segments) (entry (get_or segments n s)) → HoldEnds value (map entry segments) (n + 1) heights (set ends place (Some end))
    keeps end x top = kept value (map entry segments) arranged all n (entry s) here heights ends hold are wide_there place is_there end (x ∙ ap (λ e. e.edge.b.x) (sym same)) (top ∙ ap (upper_side (map entry segments)) (sym same))
