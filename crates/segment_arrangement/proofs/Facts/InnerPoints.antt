-- The winding at the inner points of an edge.
use Rattle.std.proofs.Common.{◌≡◌, ◌≢◌, Bool, true, false, ◌&&◌, List, [], ◌∷◌, ℤ, pos, ◌+ℤ◌, ◌-ℤ◌, ◌*ℤ◌, ◌≤ℤ◌, ◌<ℤ◌, ◌⊎◌, inl, inr, int_lt, int_le, get_or, refl, sym, ap, ◌∙◌, arith}
use Rattle.std.specs.declared.cmp.Ordering.{Ordering}
use Rattle.std.specs.declared.cmp.Ordering.TheVariants.{Less, Equal, Greater}
use Rattle.std.specs.Ordering.{is_lt, is_le, int_eq}
use Rattle.std.proofs.lemmas.Int.{ints, by_lt_z}
use Rattle.std.proofs.lemmas.Bool.{false≢true, and_parts}
use Rattle.std.proofs.lemmas.Bool.Decides.{Decides-int_eq}
use Rattle.std.proofs.Math.IntN.{zero-*ℤ, *ℤ-zero}
use Rattle.plane_base.specs.Plane.{Point, Edge, RationalPoint, IsRational, scaled, numerators, turn, side, spans, is_below, is_before, lies_on, point_order}
use Rattle.plane_base.specs.Counts.{Count, Entry}
use Rattle.plane_base.specs.Windings.{winding}
use Rattle.plane_base.specs.Segments.{parted, column_order, precedes}
use Rattle.plane_base.specs.ColumnLaws.{IsLive, IsEndOf}
use Rattle.plane_base.proofs.Facts.Numbers.Products.{product_positive, product_negative, product_not_negative, factor_positive, factor_negative}
use Rattle.plane_base.proofs.Facts.Numbers.Polynomials.{var, const, plus, minus, times, by_ring}
use Rattle.plane_base.proofs.Facts.Points.Turns.{coordinates, place, a_turn, a_side}
use Rattle.plane_base.proofs.Facts.Points.Orders.{point_itself, point_less, point_less_x, point_less_by_x, point_less_by_y, before_is_less}
use Rattle.plane_base.proofs.Facts.Crossings.Parted.{parted_tells, parted_swapped}
use Rattle.plane_base.proofs.Facts.Columns.Parted.{IsBetween, where_on, side_from_end, parted_meet_in_ends}
use Rattle.plane_base.proofs.Facts.Columns.Order.{inside_from, before_of_order, order_is_lawful}
use Rattle.plane_base.proofs.Facts.Columns.Levels.{on_line, unless_same}
use Rattle.plane_base.proofs.Facts.Columns.Sides.{sides_keep_order}
use Rattle.segment_arrangement.specs.Columns.{is_live, sum_of, below}
use Rattle.segment_arrangement.specs.EdgeSides.{middle}
use Rattle.segment_arrangement.specs.SideLaws.{IsPartedFrom, IsInner}
use Rattle.segment_arrangement.proofs.Facts.ColumnPlaces.{same_tests, lt_holds, lt_fails, lt_tells, le_holds, le_tells, live_tells, IsColumn, whole_column, spans_live, column_over}
use Rattle.segment_arrangement.proofs.Facts.EndsAlong.{precedes_itself, ends_on_one_side}
use Rattle.segment_arrangement.proofs.Facts.AlongKey.{sums_agree}

-- ---- strictly between the ends

pub inner_between : (s : Edge) (p : RationalPoint) → IsInner s p → IsBetween p s
inner_between s p h = by (where_on p s h.on)
  where
    by : IsEndOf p s ⊎ IsBetween p s → IsBetween p s
    by (inl (inl e)) = absurd (h.not_first e)
    by (inl (inr e)) = absurd (h.not_second e)
    by (inr k) = k

pub middle_between : (s : Edge) → is_before s.a s.b ≡ true → IsBetween (middle s) s
middle_between s directed = record { flat = flat; after = after (point_less s.a s.b (before_is_less s.a s.b directed)); before = before (point_less s.a s.b (before_is_less s.a s.b directed)) }
  where
    flat : side s.a s.b (middle s) ≡ pos 0
    flat =
        by_ring (coordinates (s.a ∷ s.b ∷ []) [])
        (a_side (place 0) (place 1) (record { x = plus (var 0) (var 2); y = plus (var 1) (var 3) }) (const (pos 2)))
        (const (pos 0))
        refl

    after : (s.a.x <ℤ s.b.x) ⊎ ((s.a.x ≡ s.b.x) × (s.a.y <ℤ s.b.y)) → point_order (scaled 2 s.a) (numerators (middle s)) ≡ Less
    after (inl h) = point_less_by_x (scaled 2 s.a) (numerators (middle s)) (omega (arith, ints))
    after (inr h) = point_less_by_y (scaled 2 s.a) (numerators (middle s)) (omega (arith, ints)) (omega (arith, ints))

    before : (s.a.x <ℤ s.b.x) ⊎ ((s.a.x ≡ s.b.x) × (s.a.y <ℤ s.b.y)) → point_order (numerators (middle s)) (scaled 2 s.b) ≡ Less
    before (inl h) = point_less_by_x (numerators (middle s)) (scaled 2 s.b) (omega (arith, ints))
    before (inr h) = point_less_by_y (numerators (middle s)) (scaled 2 s.b) (omega (arith, ints)) (omega (arith, ints))

lies_between : (s : Edge) (p : RationalPoint) → IsBetween p s → lies_on s p ≡ true
lies_between s p h =
    let e : int_eq (side s.a s.b p) (pos 0) ≡ true = (Decides-int_eq (side s.a s.b p) (pos 0)).1 h.flat in
    let f : is_le (point_order (scaled p.q s.a) (numerators p)) ≡ true = ap is_le h.after in
    let g : is_le (point_order (numerators p) (scaled p.q s.b)) ≡ true = ap is_le h.before in
    rw (e, f, g) refl

not_an_end : (s : Edge) (p : RationalPoint) → IsBetween p s → IsEndOf p s → ⊥
not_an_end s p h (inl e) = let f : point_order (numerators p) (numerators p) ≡ Less = ap (λ z. point_order z (numerators p)) e ∙ h.after in clash (sym (point_itself (numerators p)) ∙ f)
  where
    clash : Equal ≡ Less → ⊥
    clash e = absurd (cc)
not_an_end s p h (inr e) = let f : point_order (numerators p) (numerators p) ≡ Less = ap (λ z. point_order (numerators p) z) e ∙ h.before in clash (sym (point_itself (numerators p)) ∙ f)
  where
    clash : Equal ≡ Less → ⊥
    clash e = absurd (cc)

and_agree : (b c d : Bool) → (b ≡ true → c ≡ d) → b && c ≡ b && d
and_agree true c d h = h refl
and_agree false c d h = refl

-- ---- an edge that isn't vertical

module _ (s : Edge) (p : RationalPoint) (some : IsRational p) (between : IsBetween p s) where
  -- it spans the columns of its inner points
  pub spans_inner : s.a.x <ℤ s.b.x → spans s.a s.b p ≡ true
  spans_inner wide =
      let e : int_le (pos p.q *ℤ s.a.x) p.x ≡ true = le_holds (pos p.q *ℤ s.a.x) p.x (point_less_x (scaled p.q s.a) (numerators p) between.after) in
      let f : int_lt p.x (pos p.q *ℤ s.b.x) ≡ true = lt_holds p.x (pos p.q *ℤ s.b.x) (by (point_less (numerators p) (scaled p.q s.b) between.before)) in
      rw (e, f) refl
    where
      none : (x y : ℤ) → x ≡ y → x -ℤ y ≡ pos 0
      none x y e = omega (arith, ints)

      apart : (w d h z : ℤ) → (w *ℤ d) -ℤ (h *ℤ z) ≡ pos 0 → pos 0 <ℤ w → d <ℤ pos 0 → z ≡ pos 0 → ⊥
      apart w d h z e more l f = clash (w *ℤ d) (h *ℤ z) e (product_negative w d more l) (ap (λ y. h *ℤ y) f ∙ *ℤ-zero h)
        where
          clash : (x y : ℤ) → x -ℤ y ≡ pos 0 → x <ℤ pos 0 → y ≡ pos 0 → ⊥
          clash x y e l f = absurd (omega (arith, ints))

      fall : (x y : ℤ) → x <ℤ y → (x -ℤ y) <ℤ pos 0
      fall x y l = omega (arith, ints)

      by : (p.x <ℤ (pos p.q *ℤ s.b.x)) ⊎ ((p.x ≡ pos p.q *ℤ s.b.x) × (p.y <ℤ (pos p.q *ℤ s.b.y))) → p.x <ℤ (pos p.q *ℤ s.b.x)
      by (inl l) = l
      by (inr l) = absurd (apart (s.b.x -ℤ s.a.x) (p.y -ℤ (pos p.q *ℤ s.b.y)) (s.b.y -ℤ s.a.y) (p.x -ℤ (pos p.q *ℤ s.b.x)) (sym (side_from_end s p) ∙ between.flat) (omega (arith, ints)) (fall _ _ l.1) (none _ _ l.0))

  module _ (x : ℤ) (column : IsColumn x p) (live : IsLive x s) (t : Edge) (parts : s ≢ t → parted s t ≡ true) where
    -- which edges are below is told by the order
    below_inner : is_below t.a t.b p ≡ is_live x t && precedes t s
    below_inner = ap (λ b. b && int_lt (pos 0) (side t.a t.b p)) (spans_live x p some column t) ∙ and_agree (is_live x t) (int_lt (pos 0) (side t.a t.b p)) (precedes t s) (λ e. over (live_tells x t e) e)
      where
        over : IsLive x t → is_live x t ≡ true → int_lt (pos 0) (side t.a t.b p) ≡ precedes t s
        over h e = unless_same s t same other
          where
            same : s ≡ t → int_lt (pos 0) (side t.a t.b p) ≡ precedes t s
            same f = ap (λ z. int_lt (pos 0) (side z.a z.b p)) (sym f) ∙ (ap (λ z. int_lt (pos 0) z) between.flat ∙ (sym (precedes_itself s) ∙ ap (λ z. precedes z s) f))

            other : s ≢ t → int_lt (pos 0) (side t.a t.b p) ≡ precedes t s
            other differ = by (column_order t s) refl
              where
                s_t : parted s t ≡ true
                s_t = parts differ

                spanned : spans t.a t.b p ≡ true
                spanned = spans_live x p some column t ∙ e

                off : side t.a t.b p ≢ pos 0
                off flat =
                    let k = and_parts (int_le (pos p.q *ℤ t.a.x) p.x) (int_lt p.x (pos p.q *ℤ t.b.x)) spanned in
                    let on : lies_on t p ≡ true = on_line t p flat (omega (arith, ints, h.0, h.1)) (le_tells (pos p.q *ℤ t.a.x) p.x k.0) (weak _ _ (lt_tells p.x (pos p.q *ℤ t.b.x) k.1)) in
                    not_an_end s p between (parted_meet_in_ends.in_ends s t p some differ s_t (lies_between s p between) on).0
                  where
                    weak : (y z : ℤ) → y <ℤ z → y ≤ℤ z
                    weak y z l = omega (arith, ints)

                level : (z : ℤ) → z ≡ pos 0 → pos 0 ≤ℤ z
                level z f = omega (arith, ints)

                more : (z : ℤ) → pos 0 ≤ℤ z → z ≢ pos 0 → pos 0 <ℤ z
                more z l f = by_lt_z (pos 0) z (λ m. m) (λ m. absurd (f (omega (arith, ints))))

                clash : (z : ℤ) → z ≡ pos 0 → pos 0 <ℤ z → ⊥
                clash z f l = absurd (omega (arith, ints))

                by : (o : Ordering) → column_order t s ≡ o → int_lt (pos 0) (side t.a t.b p) ≡ is_lt o
                by Less f =
                    lt_holds (pos 0) (side t.a t.b p)
                    (more _ (sides_keep_order.not_below t s x p some (parted_swapped s t s_t) h live (column_over x p column) f (level _ between.flat)) off)
                by Equal f = absurd (order_is_lawful.decided t s x (parted_swapped s t s_t) h live (λ k. differ (sym k)) f)
                by Greater f =
                    lt_fails (pos 0) (side t.a t.b p)
                    (by_lt_z (pos 0) (side t.a t.b p)
                    (λ m. absurd (clash _ between.flat (sides_keep_order.above s t x p some s_t live h (column_over x p column) (order_is_lawful.reversed t s ∙ rw f refl) m)))
                    (λ m. m))

  -- the winding there is what passes below at the column
  pub winding_inner : (x : ℤ) → IsColumn x p → s.a.x <ℤ s.b.x → (es : List (Entry Count)) → IsPartedFrom s es → IsLive x s × (winding es p ≡ below es s x)
  winding_inner x column wide es others =
      let live : IsLive x s = live_tells x s (sym (spans_live x p some column s) ∙ spans_inner wide) in
      (live, sums_agree (λ t. is_below t.a t.b p) (λ t. is_live x t && precedes t s) es (λ i d l. below_inner x column live (get_or es i d).edge (others i d l)))

-- ---- a vertical edge

side_by_turn : (a b v : Point) (p : RationalPoint) → side a b p ≡ (pos p.q *ℤ turn a b v) +ℤ (((b.x -ℤ a.x) *ℤ (p.y -ℤ (pos p.q *ℤ v.y))) -ℤ ((b.y -ℤ a.y) *ℤ (p.x -ℤ (pos p.q *ℤ v.x))))
side_by_turn a b v p =
    by_ring (coordinates (a ∷ b ∷ v ∷ []) (p.x ∷ p.y ∷ pos p.q ∷ []))
    (a_side (place 0) (place 1) (place 3) (var 8))
    (plus (times (var 8) (a_turn (place 0) (place 1) (place 2))) (minus (times (minus (var 2) (var 0)) (minus (var 7) (times (var 8) (var 5)))) (times (minus (var 3) (var 1)) (minus (var 6) (times (var 8) (var 4))))))
    refl

-- the edges over the column of v that pass below it or through it
abbrev pub reaching : List (Entry Count) → Point → Count
reaching es v = sum_of (λ t. is_live v.x t && int_le (pos 0) (turn t.a t.b v)) es

module _ (s : Edge) (p : RationalPoint) (some : IsRational p) (between : IsBetween p s) (directed : is_before s.a s.b ≡ true) (vertical : s.a.x ≡ s.b.x) where
  record IsOnColumn : Type 0 where
    here : pos p.q *ℤ s.a.x ≡ p.x
    end_here : p.x ≡ pos p.q *ℤ s.b.x
    over : (pos p.q *ℤ s.a.y) <ℤ p.y
    under : p.y <ℤ (pos p.q *ℤ s.b.y)

  on_column : IsOnColumn
  on_column = by (point_less (scaled p.q s.a) (numerators p) between.after) (point_less (numerators p) (scaled p.q s.b) between.before)
    where
      same : pos p.q *ℤ s.a.x ≡ pos p.q *ℤ s.b.x
      same = ap (λ z. pos p.q *ℤ z) vertical

      clash : (y z w : ℤ) {A : Type 0} → y ≡ w → y <ℤ z → z ≤ℤ w → A
      clash y z w e l m = absurd (omega (arith, ints))

      clash_up : (y z w : ℤ) {A : Type 0} → y ≡ w → y ≡ z → z <ℤ w → A
      clash_up y z w e l m = absurd (omega (arith, ints))

      weak : (y z : ℤ) → y <ℤ z → y ≤ℤ z
      weak y z l = omega (arith, ints)

      level : (y z : ℤ) → y ≡ z → y ≤ℤ z
      level y z e = omega (arith, ints)

      by : ((pos p.q *ℤ s.a.x) <ℤ p.x) ⊎ ((pos p.q *ℤ s.a.x ≡ p.x) × ((pos p.q *ℤ s.a.y) <ℤ p.y)) → (p.x <ℤ (pos p.q *ℤ s.b.x)) ⊎ ((p.x ≡ pos p.q *ℤ s.b.x) × (p.y <ℤ (pos p.q *ℤ s.b.y))) → IsOnColumn
      by (inl h) (inl k) = clash _ _ _ same h (weak _ _ k)
      by (inl h) (inr k) = clash _ _ _ same h (level _ _ k.0)
      by (inr h) (inl k) = clash_up _ _ _ same h.0 k
      by (inr h) (inr k) = record { here = h.0; end_here = k.0; over = h.1; under = k.1 }

  module _ (t : Edge) (parts : s ≢ t → parted s t ≡ true) (h : IsLive s.a.x t) where
    differ : s ≢ t
    differ e = let f = ap (λ z. z.a.x) e in let g = ap (λ z. z.b.x) e in absurd (omega (arith, ints, h.0, h.1))

    wide : pos 0 <ℤ (t.b.x -ℤ t.a.x)
    wide = omega (arith, ints, h.0, h.1)

    gap : (y z : ℤ) → y <ℤ z → pos 0 <ℤ (z -ℤ y)
    gap y z l = omega (arith, ints)

    none : (y z : ℤ) → y ≡ z → z -ℤ y ≡ pos 0
    none y z e = omega (arith, ints)

    -- above the lower end
    raised : (pos p.q *ℤ turn t.a t.b s.a) <ℤ side t.a t.b p
    raised =
        more _ _ _ _ (side_by_turn t.a t.b s.a p) (product_positive (t.b.x -ℤ t.a.x) (p.y -ℤ (pos p.q *ℤ s.a.y)) wide (gap _ _ on_column.over))
        (ap (λ z. (t.b.y -ℤ t.a.y) *ℤ z) (none _ _ on_column.here) ∙ *ℤ-zero (t.b.y -ℤ t.a.y))
      where
        more : (y z m n : ℤ) → z ≡ y +ℤ (m -ℤ n) → pos 0 <ℤ m → n ≡ pos 0 → y <ℤ z
        more y z m n e l f = omega (arith, ints)

    -- below the upper end
    lowered : side t.a t.b p <ℤ (pos p.q *ℤ turn t.a t.b s.b)
    lowered =
        less _ _ _ _ (side_by_turn t.a t.b s.b p) (product_negative (t.b.x -ℤ t.a.x) (p.y -ℤ (pos p.q *ℤ s.b.y)) wide (fall _ _ on_column.under))
        (ap (λ z. (t.b.y -ℤ t.a.y) *ℤ z) (none _ _ (sym on_column.end_here)) ∙ *ℤ-zero (t.b.y -ℤ t.a.y))
      where
        fall : (y z : ℤ) → y <ℤ z → (y -ℤ z) <ℤ pos 0
        fall y z l = omega (arith, ints)

        less : (y z m n : ℤ) → z ≡ y +ℤ (m -ℤ n) → m <ℤ pos 0 → n ≡ pos 0 → z <ℤ y
        less y z m n e l f = omega (arith, ints)

    -- it doesn't pass between the two ends
    pub not_between : pos 0 <ℤ turn t.a t.b s.b → turn t.a t.b s.a <ℤ pos 0 → ⊥
    not_between high low = by_lt_z t.a.x s.a.x through started
      where
        t_s : parted t s ≡ true
        t_s = parted_swapped s t (parts differ)

        through : t.a.x <ℤ s.a.x → ⊥
        through l =
            let e : int_lt (turn t.a t.b s.b) (pos 0) ≡ true = sym (ends_on_one_side s t t_s directed l (omega (arith, ints, h.1, vertical))) ∙ lt_holds (turn t.a t.b s.a) (pos 0) low in
            clash _ high (lt_tells (turn t.a t.b s.b) (pos 0) e)
          where
            clash : (y : ℤ) → pos 0 <ℤ y → y <ℤ pos 0 → ⊥
            clash y l m = absurd (omega (arith, ints))

        started : s.a.x ≤ℤ t.a.x → ⊥
        started l =
            let level : s.a.x ≡ t.a.x = omega (arith, ints, h.0) in
            let flat : turn s.a s.b t.a ≡ pos 0 = no_turn _ _ _ _ (none _ _ vertical) (none _ _ level) in
            let low_y : s.a.y <ℤ t.a.y = falls _ _ _ _ _ wide (none _ _ (sym level)) low in
            let high_y : t.a.y <ℤ s.b.y = rises _ _ _ _ _ wide (none _ _ (sym level ∙ vertical)) high in
            false≢true (sym (parted_tells t s t_s).own_first
            ∙ inside_from t.a s flat (before_of_order s.a t.a (point_less_by_y s.a t.a level low_y)) (before_of_order t.a s.b (point_less_by_y t.a s.b (sym level ∙ vertical) high_y)))
          where
            no_turn : (w m n d : ℤ) → w ≡ pos 0 → d ≡ pos 0 → (w *ℤ m) -ℤ (n *ℤ d) ≡ pos 0
            no_turn w m n d e f = rw (e, f, zero-*ℤ m, *ℤ-zero n) refl

            falls : (w y z n d : ℤ) → pos 0 <ℤ w → d ≡ pos 0 → ((w *ℤ (y -ℤ z)) -ℤ (n *ℤ d)) <ℤ pos 0 → y <ℤ z
            falls w y z n d more e l = under (factor_negative w (y -ℤ z) more (rest (w *ℤ (y -ℤ z)) (n *ℤ d) (ap (λ m. n *ℤ m) e ∙ *ℤ-zero n) l))
              where
                rest : (i j : ℤ) → j ≡ pos 0 → (i -ℤ j) <ℤ pos 0 → i <ℤ pos 0
                rest i j e l = omega (arith, ints)

                under : (y -ℤ z) <ℤ pos 0 → y <ℤ z
                under l = omega (arith, ints)

            rises : (w y z n d : ℤ) → pos 0 <ℤ w → d ≡ pos 0 → pos 0 <ℤ ((w *ℤ (y -ℤ z)) -ℤ (n *ℤ d)) → z <ℤ y
            rises w y z n d more e l = over (factor_positive w (y -ℤ z) more (rest (w *ℤ (y -ℤ z)) (n *ℤ d) (ap (λ m. n *ℤ m) e ∙ *ℤ-zero n) l))
              where
                rest : (i j : ℤ) → j ≡ pos 0 → pos 0 <ℤ (i -ℤ j) → pos 0 <ℤ i
                rest i j e l = omega (arith, ints)

                over : pos 0 <ℤ (y -ℤ z) → z <ℤ y
                over l = omega (arith, ints)

    below_vertical : int_lt (pos 0) (side t.a t.b p) ≡ int_le (pos 0) (turn t.a t.b s.a)
    below_vertical = same_tests (int_lt (pos 0) (side t.a t.b p)) (int_le (pos 0) (turn t.a t.b s.a)) forth back
      where
        forth : int_lt (pos 0) (side t.a t.b p) ≡ true → int_le (pos 0) (turn t.a t.b s.a) ≡ true
        forth e =
            le_holds (pos 0) (turn t.a t.b s.a)
            (by_lt_z (turn t.a t.b s.a) (pos 0)
            (λ l. absurd (not_between (factor_positive (pos p.q) (turn t.a t.b s.b) (omega (arith, ints, some)) (chain _ _ _ (lt_tells (pos 0) (side t.a t.b p) e) lowered)) l))
            (λ l. l))
          where
            chain : (x y z : ℤ) → x <ℤ y → y <ℤ z → x <ℤ z
            chain x y z l m = omega (arith, ints)

        back : int_le (pos 0) (turn t.a t.b s.a) ≡ true → int_lt (pos 0) (side t.a t.b p) ≡ true
        back e = lt_holds (pos 0) (side t.a t.b p) (chain _ _ _ (product_not_negative (pos p.q) (turn t.a t.b s.a) (omega (arith, ints)) (le_tells (pos 0) (turn t.a t.b s.a) e)) raised)
          where
            chain : (x y z : ℤ) → x ≤ℤ y → y <ℤ z → x <ℤ z
            chain x y z l m = omega (arith, ints)

  -- the winding there is that of the edges that pass below or start at its lower end
  pub winding_vertical : (es : List (Entry Count)) → IsPartedFrom s es → winding es p ≡ reaching es s.a
  winding_vertical es others = sums_agree (λ t. is_below t.a t.b p) (λ t. is_live s.a.x t && int_le (pos 0) (turn t.a t.b s.a)) es (λ i d l. each (get_or es i d).edge (others i d l))
    where
      each : (t : Edge) → (s ≢ t → parted s t ≡ true) → is_below t.a t.b p ≡ is_live s.a.x t && int_le (pos 0) (turn t.a t.b s.a)
      each t parts =
          ap (λ b. b && int_lt (pos 0) (side t.a t.b p)) (spans_live s.a.x p some (whole_column p s.a.x some on_column.here) t)
          ∙ and_agree (is_live s.a.x t) (int_lt (pos 0) (side t.a t.b p)) (int_le (pos 0) (turn t.a t.b s.a)) (λ e. below_vertical t parts (live_tells s.a.x t e))
