-- The edges of a map at the places from one to another, where these are the ones that start at one point.
use Rattle.std.proofs.Common.{◌≡◌, ◌≢◌, ℕ, zero, suc, ◌+◌, ◌-◌, ◌<◌, ◌≤◌, ◌⊎◌, inl, inr, ◌≤ℤ◌, List, [], ◌∷◌, ◌++◌, length, take, drop, get_or, filter, true, false, cond, All, AllPairs, Contains, refl, sym, ap, ap₂, subst, ◌∙◌, arith}
use Rattle.std.specs.declared.cmp.Ordering.TheVariants.{Less, Equal}
use Rattle.std.specs.Ordering.{is_eq}
use Rattle.std.proofs.Math.Seq.{drop-nil, take-add}
use Rattle.std.proofs.lemmas.Int.{ints}
use Rattle.std.proofs.lemmas.List.{take-append-drop, get_or-take, get_or-drop, get_or_default, length-take, length-drop, append-nil}
use Rattle.std.proofs.lemmas.List.Elements.{All-head, All-tail, All-weaker, All-contains, All-contains_itself, Contains-append_left, Contains-append_right, Contains-append_cases, filter-append}
use Rattle.plane_base.specs.Plane.{Point, Edge, edge_order, point_order}
use Rattle.plane_base.specs.Counts.{Count, Entry}
use Rattle.plane_base.proofs.Facts.Points.Orders.{point_total, point_equal, point_itself, point_less_x, less_then, less_apart, greater_from_less}
use Rattle.segment_arrangement.specs.FanLaws.{starts_at}
use Rattle.segment_arrangement.specs.SweepViews.{AreStartsAt}

-- ---- the first elements of a list, and the later ones

pub drop_drop : {X : Type 0} (n m : ℕ) (xs : List X) → drop m (drop n xs) ≡ drop (n + m) xs
drop_drop zero m xs = let e : 0 + m ≡ m = omega arith in rw e refl
drop_drop (suc n) m [] = drop-nil m ∙ sym (drop-nil (suc n + m))
drop_drop (suc n) m (x ∷ xs) = let e : suc n + m ≡ suc (n + m) = omega arith in rw e (drop_drop n m xs)

pub All-from : {X : Type 0} (P : X → Type 0) (xs : List X) → ((x : X) → Contains xs x → P x) → All P xs
All-from P xs h = All-weaker (Contains xs) P h xs (All-contains_itself xs)

module _ {X : Type 0} (n : ℕ) (xs : List X) where
  pub early_is_in : (x : X) → Contains (take n xs) x → Contains xs x
  early_is_in x c = subst (λ l. Contains l x) (take-append-drop n xs) (Contains-append_left (take n xs) (drop n xs) x c)

  pub late_is_in : (x : X) → Contains (drop n xs) x → Contains xs x
  late_is_in x c = subst (λ l. Contains l x) (take-append-drop n xs) (Contains-append_right (take n xs) (drop n xs) x c)

  pub early_or_late : (x : X) → Contains xs x → Contains (take n xs) x ⊎ Contains (drop n xs) x
  early_or_late x c = Contains-append_cases (take n xs) (drop n xs) x (subst (λ l. Contains l x) (sym (take-append-drop n xs)) c)

pub at_place : {X : Type 0} (xs : List X) (i : ℕ) (d : X) → i < length xs → Contains xs (get_or xs i d)
at_place xs i d l = (i, l, get_or_default xs i (get_or xs i d) d l)

pub at_later_place : {X : Type 0} (xs : List X) (n i : ℕ) (d : X) → n ≤ i → i < length xs → Contains (drop n xs) (get_or xs i d)
at_later_place xs n i d h l =
    let e : n + (i - n) ≡ i = omega (arith, h) in
    let m : i - n < length (drop n xs) = omega (arith, h, l, length-drop n xs) in
    subst (Contains (drop n xs)) (get_or-drop n xs (i - n) d ∙ ap (λ k. get_or xs k d) e) (at_place (drop n xs) (i - n) d m)

-- ---- strictly sorted edges

pub not_before : (s t : Edge) → edge_order s t ≡ Less → (point_order s.a t.a ≡ Less) ⊎ (s.a ≡ t.a)
not_before s t e = by (less_then (point_order s.a t.a) (point_order s.b t.b) e)
  where
    by : (point_order s.a t.a ≡ Less) ⊎ ((point_order s.a t.a ≡ Equal) × (point_order s.b t.b ≡ Less)) → (point_order s.a t.a ≡ Less) ⊎ (s.a ≡ t.a)
    by (inl l) = inl l
    by (inr h) = inr (point_equal s.a t.a h.0)

module _ (es : List (Entry Count)) (rising : AllPairs (λ e f. edge_order e.edge f.edge ≡ Less) es) where
  pub sorted : (n : ℕ) (e f : Entry Count) → Contains (take n es) e → Contains (drop n es) f → edge_order e.edge f.edge ≡ Less
  sorted n e f here there =
      let i : here.0 < n = omega (arith, here.1, length-take n es) in
      let j : n + there.0 < length es = omega (arith, there.1, length-drop n es) in
      let k : here.0 < n + there.0 = omega (arith, i) in
      ap₂ (λ x y. edge_order x.edge y.edge)
      (sym (sym (get_or-take n es here.0 e i) ∙ here.2))
      (sym (get_or_default es (n + there.0) e f j ∙ (sym (get_or-drop n es there.0 f) ∙ there.2)))
      ∙ rising here.0 (n + there.0) e k j

-- ---- seams: all edges before a place start before all edges from it on

abbrev pub IsSeam : List (Entry Count) → ℕ → Type 0
IsSeam es n = (e f : Entry Count) → Contains (take n es) e → Contains (drop n es) f → point_order e.edge.a f.edge.a ≡ Less

pub first_seam : (es : List (Entry Count)) → IsSeam es 0
first_seam es e f here there = absurd (omega (arith, here.1))

module _ (es : List (Entry Count)) (v : Point) (from to : ℕ) (order : from ≤ to) where
  span : from + (to - from) ≡ to
  span = omega (arith, order)

  early : take to es ≡ take from es ++ take (to - from) (drop from es)
  early = ap (λ n. take n es) (sym span) ∙ take-add from (to - from) es

  late : drop (to - from) (drop from es) ≡ drop to es
  late = drop_drop from (to - from) es ∙ ap (λ n. drop n es) span

  module _ (starts : AreStartsAt es v from to) where
    pub next_seam : IsSeam es to
    next_seam e f here there = by (Contains-append_cases (take from es) (take (to - from) (drop from es)) e (subst (λ l. Contains l e) early here))
      where
        after : point_order v f.edge.a ≡ Less
        after = All-contains (λ g. point_order v g.edge.a ≡ Less) (drop to es) f starts.after there

        by : Contains (take from es) e ⊎ Contains (take (to - from) (drop from es)) e → point_order e.edge.a f.edge.a ≡ Less
        by (inl c) = point_total.trans e.edge.a v f.edge.a (All-contains (λ g. point_order g.edge.a v ≡ Less) (take from es) e starts.before c) after
        by (inr c) = ap (λ p. point_order p f.edge.a) (All-contains (λ g. g.edge.a ≡ v) (take (to - from) (drop from es)) e starts.here c) ∙ after

    -- what starts before the point is among the first edges
    pub is_early : (e : Entry Count) → Contains es e → point_order e.edge.a v ≡ Less → Contains (take from es) e
    is_early e here before = by (early_or_late from es e here)
      where
        deep : Contains (take (to - from) (drop from es)) e ⊎ Contains (drop (to - from) (drop from es)) e → Contains (take from es) e
        deep (inl c) = absurd (less_apart point_total e.edge.a v before (All-contains (λ g. g.edge.a ≡ v) (take (to - from) (drop from es)) e starts.here c))
        deep (inr c) =
            absurd
            (less_apart point_total e.edge.a e.edge.a (point_total.trans e.edge.a v e.edge.a before (All-contains (λ g. point_order v g.edge.a ≡ Less) (drop to es) e starts.after (subst (λ l. Contains l e) late c))) refl)

        by : Contains (take from es) e ⊎ Contains (drop from es) e → Contains (take from es) e
        by (inl c) = c
        by (inr c) = deep (early_or_late (to - from) (drop from es) e c)

    -- from the first place on no edge starts at a lesser x
    pub not_left : (e : Entry Count) → Contains (drop from es) e → v.x ≤ℤ e.edge.a.x
    not_left e c = by (early_or_late (to - from) (drop from es) e c)
      where
        by : Contains (take (to - from) (drop from es)) e ⊎ Contains (drop (to - from) (drop from es)) e → v.x ≤ℤ e.edge.a.x
        by (inl here) = let level = ap (λ p. p.x) (All-contains (λ g. g.edge.a ≡ v) (take (to - from) (drop from es)) e starts.here here) in omega (arith, ints, level)
        by (inr there) = point_less_x v e.edge.a (All-contains (λ g. point_order v g.edge.a ≡ Less) (drop to es) e starts.after (subst (λ l. Contains l e) late there))

    -- the edges at these places are all that start at the point
    pub all_starts : filter (starts_at v) es ≡ take (to - from) (drop from es)
    all_starts =
        ap (filter (starts_at v)) (sym (take-append-drop from es) ∙ ap (λ l. take from es ++ l) (sym (take-append-drop (to - from) (drop from es))))
        ∙ (filter-append (starts_at v) (take from es) (take (to - from) (drop from es) ++ drop (to - from) (drop from es))
        ∙ (ap₂ ◌++◌ (none_pass (take from es) (All-weaker (λ e. point_order e.edge.a v ≡ Less) (λ e. starts_at v e ≡ false) (λ e h. ap is_eq h) (take from es) starts.before))
        (filter-append (starts_at v) (take (to - from) (drop from es)) (drop (to - from) (drop from es))
        ∙ (ap₂ ◌++◌ (all_pass (take (to - from) (drop from es)) (All-weaker (λ e. e.edge.a ≡ v) (λ e. starts_at v e ≡ true) (λ e h. ap (λ p. is_eq (point_order p v)) h ∙ ap is_eq (point_itself v)) (take (to - from) (drop from es)) starts.here))
        (ap (filter (starts_at v)) late ∙ none_pass (drop to es) (All-weaker (λ e. point_order v e.edge.a ≡ Less) (λ e. starts_at v e ≡ false) (λ e h. ap is_eq (greater_from_less point_total v e.edge.a h)) (drop to es) starts.after))
        ∙ append-nil (take (to - from) (drop from es))))))
      where
        none_pass : (xs : List (Entry Count)) → All (λ e. starts_at v e ≡ false) xs → filter (starts_at v) xs ≡ []
        none_pass [] h = refl
        none_pass (x ∷ xs) h = ap (λ b. cond b (x ∷ filter (starts_at v) xs) (filter (starts_at v) xs)) (All-head (λ e. starts_at v e ≡ false) x xs h) ∙ none_pass xs (All-tail (λ e. starts_at v e ≡ false) x xs h)

        all_pass : (xs : List (Entry Count)) → All (λ e. starts_at v e ≡ true) xs → filter (starts_at v) xs ≡ xs
        all_pass [] h = refl
        all_pass (x ∷ xs) h = ap (λ b. cond b (x ∷ filter (starts_at v) xs) (filter (starts_at v) xs)) (All-head (λ e. starts_at v e ≡ true) x xs h) ∙ ap (λ l. x ∷ l) (all_pass xs (All-tail (λ e. starts_at v e ≡ true) x xs h))

-- From a seam on, the edges with one start up to the first with another.
module _ (es : List (Entry Count)) (rising : AllPairs (λ e f. edge_order e.edge f.edge ≡ Less) es) (from to : ℕ) (d : Entry Count) (some : from < to) (within : to ≤ length es) (seam : IsSeam es from) (together : (i : ℕ) → from ≤ i → i < to → (get_or es i d).edge.a ≡ (get_or es from d).edge.a) (ended : to < length es → (get_or es to d).edge.a ≢ (get_or es from d).edge.a) where
  abbrev v : Point
  v = (get_or es from d).edge.a

  inside : from < length es
  inside = omega (arith, some, within)

  order : from ≤ to
  order = omega (arith, some)

  beyond : (f : Entry Count) → Contains (drop to es) f → point_order v f.edge.a ≡ Less
  beyond f there = by_start (not_before first.edge last.edge (sorted es rising to first last first_early (at_later_place es to to d (omega arith) more)))
    where
      more : to < length es
      more = omega (arith, there.1, length-drop to es)

      first : Entry Count
      first = get_or es from d

      last : Entry Count
      last = get_or es to d

      first_early : Contains (take to es) first
      first_early = (from, omega (arith, some, within, length-take to es), get_or-take to es from first some ∙ get_or_default es from first d inside)

      onward : point_order v last.edge.a ≡ Less → (there.0 ≡ 0) ⊎ (0 < there.0) → point_order v f.edge.a ≡ Less
      onward l (inl zero_th) = ap (λ g. point_order v g.edge.a) (sym same) ∙ l
        where
          same : last ≡ f
          same = get_or_default es to d f more ∙ (ap (λ n. get_or es n f) (omega (arith, zero_th)) ∙ (sym (get_or-drop to es there.0 f) ∙ there.2))
      onward l (inr later) = on (not_before last.edge f.edge rises)
        where
          at : to + there.0 < length es
          at = omega (arith, there.1, length-drop to es)

          rises : edge_order last.edge f.edge ≡ Less
          rises = ap (λ g. edge_order last.edge g.edge) (sym (get_or_default es (to + there.0) d f at ∙ (sym (get_or-drop to es there.0 f) ∙ there.2))) ∙ rising to (to + there.0) d (omega (arith, later)) at

          on : (point_order last.edge.a f.edge.a ≡ Less) ⊎ (last.edge.a ≡ f.edge.a) → point_order v f.edge.a ≡ Less
          on (inl m) = point_total.trans v last.edge.a f.edge.a l m
          on (inr same) = ap (point_order v) (sym same) ∙ l

      zero_or_more : (n : ℕ) → (n ≡ 0) ⊎ (0 < n)
      zero_or_more zero = inl refl
      zero_or_more (suc n) = inr (omega arith)

      by_start : (point_order v last.edge.a ≡ Less) ⊎ (v ≡ last.edge.a) → point_order v f.edge.a ≡ Less
      by_start (inl l) = onward l (zero_or_more there.0)
      by_start (inr same) = absurd (ended more (sym same))

  pub fan_starts : AreStartsAt es (get_or es from d).edge.a from to
  fan_starts = record {
    before = All-from (λ e. point_order e.edge.a v ≡ Less) (take from es) (λ e here. seam e (get_or es from d) here (at_later_place es from from d (omega arith) inside));
    here = λ i e l.
        let m : i < to - from = omega (arith, l, length-take (to - from) (drop from es)) in
        let n : from + i < to = omega (arith, m) in
        ap (λ g. g.edge.a) (get_or-take (to - from) (drop from es) i e m ∙ (get_or-drop from es i e ∙ get_or_default es (from + i) e d (omega (arith, n, within)))) ∙ together (from + i) (omega arith) n;
    after = All-from (λ e. point_order v e.edge.a ≡ Less) (drop to es) beyond;
  }
