-- Contours that run along parted edges, whichever of the points on their lines are taken out, cross at whole points alone.
use Rattle.std.proofs.Common.{◌≡◌, ◌≢◌, ◌⊎◌, inl, inr, Bool, true, false, ◌&&◌, List, [], ◌∷◌, ◌++◌, All, ℤ, pos, ◌+ℤ◌, ◌-ℤ◌, ◌*ℤ◌, neg_ℤ, refl, sym, ap, ◌∙◌, subst, arith}
use Rattle.std.specs.declared.cmp.Ordering.{Ordering}
use Rattle.std.specs.declared.cmp.Ordering.TheVariants.{Less, Equal, Greater}
use Rattle.std.specs.Ordering.{int_eq, is_le, is_lt}
use Rattle.std.proofs.lemmas.Int.{ints}
use Rattle.std.proofs.lemmas.Bool.{false≢true, and_parts, and_from}
use Rattle.std.proofs.lemmas.Bool.Decides.{Decides-int_eq}
use Rattle.std.proofs.lemmas.List.Elements.{All-nil, All-cons, All-head, All-tail, All-append}
use Rattle.std.proofs.lemmas.List.{append-nil}
use Rattle.plane_base.specs.Plane.{Point, Edge, RationalPoint, IsRational, scaled, numerators, turn, side, is_before, point_order, lies_on}
use Rattle.plane_base.specs.Cycles.{SameCycle}
use Rattle.plane_base.specs.ColumnLaws.{IsEndOf}
use Rattle.plane_base.specs.Crossing.{is_whole, crossing}
use Rattle.plane_base.specs.Segments.{parted}
use Rattle.plane_base.specs.Thinning.{TakesOut, Reaches, same, step, IsThinned, bare, empty}
use Rattle.plane_base.specs.WholeLaws.{MeetsWhole, IsSamePlace}
use Rattle.plane_base.proofs.Facts.Columns.Parted.{order_scaled, parted_meet_in_ends}
use Rattle.plane_base.proofs.Facts.Crossings.Pieces.{le_then_less, one_meeting}
use Rattle.plane_base.proofs.Facts.Crossings.Place.{crossing_is_common}
use Rattle.plane_base.proofs.Facts.Crossings.Whole.{whole_is_point}
use Rattle.plane_base.proofs.Facts.Numbers.Polynomials.{var, minus, plus, times, by_ring}
use Rattle.plane_base.proofs.Facts.Numbers.Products.{zero_product}
use Rattle.plane_base.proofs.Facts.Points.Orders.{point_total, point_itself, before_is_less, less_from_greater}
use Rattle.plane_base.proofs.Facts.Points.Turns.{coordinates, place, a_turn, a_side, whole, turn_cyclic, turn_swap, side_of_whole}
use Rattle.contour_walk.specs.Walks.{same_edge}
use Rattle.contour_walk.specs.WalkLaws.{steps_to, contour_steps}
use Rattle.contour_walk.proofs.Straight.Laws.{line_goes_on}
use Rattle.contour_walk.proofs.Walks.Links.{same_edge_is, same_edge_itself}
use Rattle.contour_walk.proofs.Walks.Steps.{same_or_not}

-- ---- on the way from u to v, whichever comes first

-- p is r, or before it
abbrev pub NotAfter : Point → Point → Type 0
NotAfter p r = is_le (point_order p r) ≡ true

either_first : (p r : Point) → NotAfter p r ⊎ NotAfter r p
either_first p r = by (point_order p r) refl
  where
    by : (o : Ordering) → point_order p r ≡ o → NotAfter p r ⊎ NotAfter r p
    by Less e = inl (ap is_le e)
    by Equal e = inl (ap is_le e)
    by Greater e = inr (ap is_le (less_from_greater point_total p r e))

abbrev pub Among : RationalPoint → Point → Point → Type 0
Among p u v = NotAfter (scaled p.q u) (numerators p) × NotAfter (numerators p) (scaled p.q v)

pub record Lies (u v : Point) (p : RationalPoint) : Type 0 where
  pub flat : side u v p ≡ pos 0
  pub inside : Among p u v ⊎ Among p v u

side_back : (u v : Point) (p : RationalPoint) → side v u p ≡ neg_ℤ (side u v p)
side_back u v p = turned _ _ (sum u v p)
  where
    turned : (x y : ℤ) → x +ℤ y ≡ pos 0 → x ≡ neg_ℤ y
    turned x y e = omega (arith, ints)

    sum : (u v : Point) (p : RationalPoint) → side v u p +ℤ side u v p ≡ pos 0
    sum u v p =
        by_ring (coordinates (u ∷ v ∷ []) (p.x ∷ p.y ∷ pos p.q ∷ []))
        (plus (a_side (place 1) (place 0) (place 2) (var 6)) (a_side (place 0) (place 1) (place 2) (var 6)))
        (minus (var 0) (var 0)) refl
        ∙ none u.x
      where
        none : (x : ℤ) → x -ℤ x ≡ pos 0
        none x = omega (arith, ints)

zero_back : (x y : ℤ) → x ≡ neg_ℤ y → y ≡ pos 0 → x ≡ pos 0
zero_back x y e f = omega (arith, ints)

pub lies_back : (u v : Point) (p : RationalPoint) → Lies u v p → Lies v u p
lies_back u v p h = record { flat = zero_back (side v u p) (side u v p) (side_back u v p) h.flat; inside = other h.inside }
  where
    other : Among p u v ⊎ Among p v u → Among p v u ⊎ Among p u v
    other (inl k) = inr k
    other (inr k) = inl k

-- where v lies on the line through u and w, what lies on that line lies on the one through u and v
module _ (u v w : Point) (p : RationalPoint) where
  by_widths : (w.x -ℤ u.x) *ℤ side u v p ≡ ((v.x -ℤ u.x) *ℤ side u w p) +ℤ ((p.x -ℤ (pos p.q *ℤ u.x)) *ℤ turn u v w)
  by_widths =
      by_ring (coordinates (u ∷ v ∷ w ∷ []) (p.x ∷ p.y ∷ pos p.q ∷ []))
      (times (minus (var 4) (var 0)) (a_side (place 0) (place 1) (place 3) (var 8)))
      (plus (times (minus (var 2) (var 0)) (a_side (place 0) (place 2) (place 3) (var 8))) (times (minus (var 6) (times (var 8) (var 0))) (a_turn (place 0) (place 1) (place 2))))
      refl

  by_heights : (w.y -ℤ u.y) *ℤ side u v p ≡ ((v.y -ℤ u.y) *ℤ side u w p) +ℤ ((p.y -ℤ (pos p.q *ℤ u.y)) *ℤ turn u v w)
  by_heights =
      by_ring (coordinates (u ∷ v ∷ w ∷ []) (p.x ∷ p.y ∷ pos p.q ∷ []))
      (times (minus (var 5) (var 1)) (a_side (place 0) (place 1) (place 3) (var 8)))
      (plus (times (minus (var 3) (var 1)) (a_side (place 0) (place 2) (place 3) (var 8))) (times (minus (var 7) (times (var 8) (var 1))) (a_turn (place 0) (place 1) (place 2))))
      refl

  stays_flat : u ≢ w → turn u v w ≡ pos 0 → side u w p ≡ pos 0 → side u v p ≡ pos 0
  stays_flat differ line flat =
      by (zero_product (w.x -ℤ u.x) (side u v p) (by_widths ∙ none (v.x -ℤ u.x) (p.x -ℤ (pos p.q *ℤ u.x)) (side u w p) (turn u v w) flat line))
      (zero_product (w.y -ℤ u.y) (side u v p) (by_heights ∙ none (v.y -ℤ u.y) (p.y -ℤ (pos p.q *ℤ u.y)) (side u w p) (turn u v w) flat line))
    where
      none : (k m s t : ℤ) → s ≡ pos 0 → t ≡ pos 0 → (k *ℤ s) +ℤ (m *ℤ t) ≡ pos 0
      none k m s t e f = rw (e, f) (omega (arith, ints))

      level : (x y : ℤ) → y -ℤ x ≡ pos 0 → x ≡ y
      level x y h = omega (arith, ints)

      by : (w.x -ℤ u.x ≡ pos 0) ⊎ (side u v p ≡ pos 0) → (w.y -ℤ u.y ≡ pos 0) ⊎ (side u v p ≡ pos 0) → side u v p ≡ pos 0
      by (inr z) h = z
      by (inl x) (inr z) = z
      by (inl x) (inl y) = absurd (differ (λ i. record { x = level u.x w.x x i; y = level u.y w.y y i }))

-- ---- what lies on an edge

apart_ends : (u v : Point) → is_before u v ≡ true → u ≢ v
apart_ends u v h e = false≢true (sym (ap is_lt (point_itself u)) ∙ (ap (is_before u) e ∙ h))

lies : (s : Edge) (p : RationalPoint) → lies_on s p ≡ true → Lies s.a s.b p
lies s p on =
    let h = and_parts (int_eq (side s.a s.b p) (pos 0) && is_le (point_order (scaled p.q s.a) (numerators p))) (is_le (point_order (numerators p) (scaled p.q s.b))) on in
    let k = and_parts (int_eq (side s.a s.b p) (pos 0)) (is_le (point_order (scaled p.q s.a) (numerators p))) h.0 in
    record { flat = (Decides-int_eq (side s.a s.b p) (pos 0)).0 k.0; inside = inl (k.1, h.1) }

on_edge : (s : Edge) (p : RationalPoint) → IsRational p → is_before s.a s.b ≡ true → Lies s.a s.b p → lies_on s p ≡ true
on_edge s p some forth h = by h.inside
  where
    by : Among p s.a s.b ⊎ Among p s.b s.a → lies_on s p ≡ true
    by (inl k) =
        and_from (int_eq (side s.a s.b p) (pos 0) && is_le (point_order (scaled p.q s.a) (numerators p))) (is_le (point_order (numerators p) (scaled p.q s.b)))
        (and_from (int_eq (side s.a s.b p) (pos 0)) (is_le (point_order (scaled p.q s.a) (numerators p))) ((Decides-int_eq (side s.a s.b p) (pos 0)).1 h.flat) k.0) k.1
    by (inr k) =
        let rises : point_order (scaled p.q s.a) (scaled p.q s.b) ≡ Less = order_scaled p.q s.a s.b some ∙ before_is_less s.a s.b forth in
        let less : point_order (scaled p.q s.b) (scaled p.q s.b) ≡ Less =
        le_then_less (scaled p.q s.b) (numerators p) (scaled p.q s.b) k.0 (le_then_less (numerators p) (scaled p.q s.a) (scaled p.q s.b) k.1 rises) in
        let level = point_itself (scaled p.q s.b) in
        absurd (cc)

-- an edge whose ends are one place has no length
no_length : (s : Edge) → is_before s.a s.b ≡ true → IsSamePlace (whole s.a) (whole s.b) → ⊥
no_length s forth h = apart_ends s.a s.b forth (λ i. record { x = level s.a.x s.b.x h.x i; y = level s.a.y s.b.y h.y i })
  where
    level : (x y : ℤ) → x *ℤ pos 1 ≡ y *ℤ pos 1 → x ≡ y
    level x y e = omega (arith, ints)

zero_swapped : (a b c : Point) → turn a b c ≡ pos 0 → turn b a c ≡ pos 0
zero_swapped a b c e = zero_back (turn b a c) (turn a b c) (turn_swap b a c) e

-- what lies on the way from u to w lies on that from u to v or on that from v to w, wherever v is on the line
lies_in_part : (u v w : Point) (p : RationalPoint) → u ≢ w → turn u v w ≡ pos 0 → Lies u w p → Lies u v p ⊎ Lies v w p
lies_in_part u v w p differ line h = by h.inside (either_first (numerators p) (scaled p.q v))
  where
    first_flat : side u v p ≡ pos 0
    first_flat = stays_flat u v w p differ line h.flat

    second_flat : side v w p ≡ pos 0
    second_flat =
        zero_back (side v w p) (side w v p) (side_back w v p)
        (stays_flat w v u p (λ e. differ (sym e)) (turn_cyclic w v u ∙ zero_swapped u v w line) (zero_back (side w u p) (side u w p) (side_back u w p) h.flat))

    by : Among p u w ⊎ Among p w u → NotAfter (numerators p) (scaled p.q v) ⊎ NotAfter (scaled p.q v) (numerators p) → Lies u v p ⊎ Lies v w p
    by (inl k) (inl l) = inl (record { flat = first_flat; inside = inl (k.0, l) })
    by (inl k) (inr l) = inr (record { flat = second_flat; inside = inl (l, k.1) })
    by (inr k) (inl l) = inr (record { flat = second_flat; inside = inr (k.0, l) })
    by (inr k) (inr l) = inl (record { flat = first_flat; inside = inr (l, k.1) })

-- ---- runs: each place on them lies on an edge that runs along

module _ (E : Edge → Type 0) where
  pub record IsAlong (u v : Point) (p : RationalPoint) : Type 0 where
    pub edge : Edge
    pub one : E edge
    pub on : Lies edge.a edge.b p
    pub first : turn u v edge.a ≡ pos 0
    pub second : turn u v edge.b ≡ pos 0

  abbrev pub IsRun : Point → Point → Type 0
  IsRun u v = u ≢ v → (p : RationalPoint) → Lies u v p → IsAlong u v p

  pub run_back : (u v : Point) → IsRun u v → IsRun v u
  run_back u v h differ p lies =
      let k = h (λ e. differ (sym e)) p (lies_back v u p lies) in
      record { edge = k.edge; one = k.one; on = k.on; first = zero_swapped u v k.edge.a k.first; second = zero_swapped u v k.edge.b k.second }

  -- two runs on one line
  module _ (u v w : Point) (line : turn u v w ≡ pos 0) (h : IsRun u v) (k : IsRun v w) where
    joined_run : IsRun u w
    joined_run differ p lies = by (same_or_not u v) (same_or_not v w) (lies_in_part u v w p differ line lies)
      where
        -- what lies on the line through u and v
        from_first : (e : Point) → u ≢ v → turn u v e ≡ pos 0 → turn u w e ≡ pos 0
        from_first e apart flat = zero_swapped w u e (line_goes_on w v u e (λ same. apart (sym same)) (turn_cyclic w v u ∙ zero_swapped u v w line) (zero_swapped u v e flat))

        from_second : (e : Point) → v ≢ w → turn v w e ≡ pos 0 → turn u w e ≡ pos 0
        from_second e apart flat = line_goes_on u v w e apart line flat

        by : (u ≡ v) ⊎ (u ≡ v → ⊥) → (v ≡ w) ⊎ (v ≡ w → ⊥) → Lies u v p ⊎ Lies v w p → IsAlong u w p
        by (inl e) other parts = subst (λ z. IsRun z w) (sym e) k differ p lies
        by (inr apart) (inl e) parts = subst (IsRun u) e h differ p lies
        by (inr apart) (inr other) (inl part) =
            let a = h apart p part in
            record { edge = a.edge; one = a.one; on = a.on; first = from_first a.edge.a apart a.first; second = from_first a.edge.b apart a.second }
        by (inr apart) (inr other) (inr part) =
            let a = k other p part in
            record { edge = a.edge; one = a.one; on = a.on; first = from_second a.edge.a other a.first; second = from_second a.edge.b other a.second }

  -- ---- contours of runs

  abbrev pub AreRuns : List Edge → Type 0
  AreRuns ss = All (λ s. IsRun s.a s.b) ss

  parts_of : (ss ts : List Edge) → AreRuns (ss ++ ts) → AreRuns ss × AreRuns ts
  parts_of [] ts h = (All-nil (λ (s : Edge). IsRun s.a s.b), h)
  parts_of (s ∷ ss) ts h =
      let more = parts_of ss ts (All-tail (λ (s : Edge). IsRun s.a s.b) s (ss ++ ts) h) in
      (All-cons (λ (s : Edge). IsRun s.a s.b) s ss (All-head (λ (s : Edge). IsRun s.a s.b) s (ss ++ ts) h) more.0, more.1)

  steps_append : (f x y : Point) (xs ys : List Point) → steps_to f (x ∷ xs ++ y ∷ ys) ≡ steps_to y (x ∷ xs) ++ steps_to f (y ∷ ys)
  steps_append f x y [] ys = refl
  steps_append f x y (z ∷ xs) ys = ap (λ ss. record { a = x; b = z } ∷ ss) (steps_append f z y xs ys)

  turned_round : (front rest : List Point) → AreRuns (contour_steps (front ++ rest)) → AreRuns (contour_steps (rest ++ front))
  turned_round [] rest h = subst (λ c. AreRuns (contour_steps c)) (sym (append-nil rest)) h
  turned_round (x ∷ xs) [] h = subst (λ c. AreRuns (contour_steps c)) (append-nil (x ∷ xs)) h
  turned_round (x ∷ xs) (y ∷ ys) h =
      let P : Edge → Type 0 = λ s. IsRun s.a s.b in
      let all = subst AreRuns (steps_append x x y xs ys) h in
      subst AreRuns (sym (steps_append y y x ys xs))
      (let both = parts_of (steps_to y (x ∷ xs)) (steps_to x (y ∷ ys)) all in All-append P (steps_to x (y ∷ ys)) (steps_to y (x ∷ xs)) both.1 both.0)

  same_cycle_runs : (c d : List Point) → SameCycle c d → AreRuns (contour_steps c) → AreRuns (contour_steps d)
  same_cycle_runs c d h runs =
      subst (λ z. AreRuns (contour_steps z)) (sym h.second) (turned_round h.front h.back (subst (λ z. AreRuns (contour_steps z)) h.first runs))

  cycle_back : (c d : List Point) → SameCycle c d → SameCycle d c
  cycle_back c d h = record { front = h.back; back = h.front; first = h.second; second = h.first }

  taken_out_runs : (c d : List Point) → TakesOut c d → AreRuns (contour_steps c) → AreRuns (contour_steps d)
  taken_out_runs c d t runs =
      let P : Edge → Type 0 = λ s. IsRun s.a s.b in
      let step_in : Edge = record { a = t.before; b = t.p } in
      let step_out : Edge = record { a = t.p; b = t.after } in
      let more = steps_to t.before (t.after ∷ t.others) in
      let all : AreRuns (step_in ∷ step_out ∷ more) = same_cycle_runs c (t.before ∷ t.p ∷ t.after ∷ t.others) t.was runs in
      same_cycle_runs (t.before ∷ t.after ∷ t.others) d (cycle_back d (t.before ∷ t.after ∷ t.others) t.is)
      (All-cons P (record { a = t.before; b = t.after }) more
      (joined_run t.before t.p t.after t.straight (All-head P step_in (step_out ∷ more) all) (All-head P step_out more (All-tail P step_in (step_out ∷ more) all)))
      (All-tail P step_out more (All-tail P step_in (step_out ∷ more) all)))

  reached_runs : (c d : List Point) → Reaches c d → AreRuns (contour_steps c) → AreRuns (contour_steps d)
  reached_runs c d (same h) runs = same_cycle_runs c d h runs
  reached_runs c d (step {d = e} t more) runs = reached_runs e d more (taken_out_runs c e t runs)

  -- a thinned contour of runs
  pub thinned_runs : (c d : List Point) → IsThinned c d → AreRuns (contour_steps c) → AreRuns (contour_steps d)
  thinned_runs c d (bare more long none) runs = reached_runs c d more runs
  thinned_runs c d (empty more short) runs = All-nil (λ (s : Edge). IsRun s.a s.b)

  -- ---- runs along parted edges

  module _ (directed : (s : Edge) → E s → is_before s.a s.b ≡ true) (apart : (s t : Edge) → E s → E t → s ≢ t → parted s t ≡ true) where
    edge_or_not : (s t : Edge) → (s ≡ t) ⊎ (s ≢ t)
    edge_or_not s t = by (same_edge s t) refl
      where
        by : (b : Bool) → same_edge s t ≡ b → (s ≡ t) ⊎ (s ≢ t)
        by true e = inl (same_edge_is s t e)
        by false e = inr (λ f. false≢true (sym e ∙ same_edge_itself s t f))

    -- they cross at whole points alone
    pub runs_meet_whole : (s t : Edge) → is_before s.a s.b ≡ true → is_before t.a t.b ≡ true → IsRun s.a s.b → IsRun t.a t.b → MeetsWhole s t
    runs_meet_whole s t forth other_forth h k crosses =
        met (h (apart_ends s.a s.b forth) p (lies s p (crossing_is_common.on_first s t forth crosses))) (k (apart_ends t.a t.b other_forth) p (lies t p (crossing_is_common.on_second s t other_forth crosses)))
      where
        p : RationalPoint
        p = crossing s t

        some : IsRational p
        some = crossing_is_common.is_rational s t crosses

        met : IsAlong s.a s.b p → IsAlong t.a t.b p → is_whole p ≡ true
        met a b = by (edge_or_not a.edge b.edge)
          where
            at_end : IsEndOf p a.edge → is_whole p ≡ true
            at_end (inl e) = (whole_is_point.point p some).1 (a.edge.a, sym e)
            at_end (inr e) = (whole_is_point.point p some).1 (a.edge.b, sym e)

            -- one edge along both lines would have no length
            one_edge : a.edge ≡ b.edge → ⊥
            one_edge e =
                no_length a.edge (directed a.edge a.one)
                (one_meeting s t (whole a.edge.a) (whole a.edge.b) crosses
                (side_of_whole s.a s.b a.edge.a ∙ a.first) (side_of_whole t.a t.b a.edge.a ∙ (ap (λ (g : Edge). turn t.a t.b g.a) e ∙ b.first))
                (side_of_whole s.a s.b a.edge.b ∙ a.second) (side_of_whole t.a t.b a.edge.b ∙ (ap (λ (g : Edge). turn t.a t.b g.b) e ∙ b.second)))

            by : (a.edge ≡ b.edge) ⊎ (a.edge ≢ b.edge) → is_whole p ≡ true
            by (inl e) = absurd (one_edge e)
            by (inr differ) =
                at_end (parted_meet_in_ends.in_ends a.edge b.edge p some differ (apart a.edge b.edge a.one b.one differ)
                (on_edge a.edge p some (directed a.edge a.one) a.on) (on_edge b.edge p some (directed b.edge b.one) b.on)).0
