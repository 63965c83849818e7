-- The sides of the edges that start at one point.
use Rattle.std.proofs.Common.{◌≡◌, ◌≢◌, Bool, true, false, cond, ◌&&◌, List, All, Contains, ◌⊎◌, inl, inr, ℤ, pos, ◌+ℤ◌, ◌-ℤ◌, ◌*ℤ◌, ◌≤ℤ◌, ◌<ℤ◌, int_lt, int_le, get_or, refl, sym, ap, ap₂, ◌∙◌, arith}
use Rattle.std.specs.declared.cmp.Ordering.{Ordering}
use Rattle.std.specs.declared.cmp.Ordering.TheVariants.{Less, Equal, Greater}
use Rattle.std.specs.Ordering.{is_lt, is_eq, int_cmp, MatchOrdering}
use Rattle.std.specs.Cmp.{int_ranks}
use Rattle.std.proofs.lemmas.Int.{ints}
use Rattle.std.proofs.lemmas.Bool.{false≢true, and_right, cases_Bool}
use Rattle.std.proofs.lemmas.List.Elements.{All-contains_itself}
use Rattle.std.proofs.Math.IntN.{zero-*ℤ, *ℤ-zero}
use Rattle.plane_base.specs.Plane.{Point, Edge, turn, is_before, is_below, point_order}
use Rattle.plane_base.specs.Counts.{Count, Entry, boolean}
use Rattle.plane_base.specs.Windings.{winding}
use Rattle.plane_base.specs.Segments.{parted, strictly_inside, angle_order, precedes}
use Rattle.plane_base.specs.ColumnLaws.{IsLive}
use Rattle.plane_base.specs.Totals.{total}
use Rattle.plane_base.proofs.Facts.Numbers.Products.{product_positive, product_negative, product_not_negative}
use Rattle.plane_base.proofs.Facts.Points.Turns.{side_of_whole, turn_there_and_back}
use Rattle.plane_base.proofs.Facts.Points.Orders.{point_total, point_equal, point_less, point_less_by_x, before_is_less, less_from_greater}
use Rattle.plane_base.proofs.Facts.Crossings.Parted.{parted_tells}
use Rattle.plane_base.proofs.Facts.Columns.Order.{inside_from, before_of_order}
use Rattle.plane_base.proofs.Facts.Lists.Totals.{total_pointwise_on, total_sum}
use Rattle.segment_arrangement.specs.Columns.{is_live, sum_of}
use Rattle.segment_arrangement.specs.EdgeSides.{lower_side}
use Rattle.segment_arrangement.specs.SideLaws.{IsArrangement}
use Rattle.segment_arrangement.specs.FanLaws.{whole}
use Rattle.segment_arrangement.proofs.Facts.ColumnPlaces.{lt_holds, lt_fails, le_holds, le_fails, live_tells, live_holds, IsColumn, spans_live}
use Rattle.segment_arrangement.proofs.Facts.EndsAlong.{is_lt_cmp, precedes_by_start, precedes_by_other_start, precedes_by_angle}
use Rattle.segment_arrangement.proofs.Facts.AlongKey.{same_count, sums_agree}
use Rattle.segment_arrangement.proofs.Facts.InnerPoints.{reaching}
use Rattle.segment_arrangement.proofs.Facts.LastBelow.{under}
use Rattle.segment_arrangement.proofs.Facts.ConstantSides.{parted_from_others, directed_entry, lower_is_below, lower_vertical}

-- ---- the column of a whole point

whole_is_on_column : (v : Point) → IsColumn v.x (whole v)
whole_is_on_column v = record { from = omega (arith, ints); to = omega (arith, ints) }

-- what lies below the point, as a query sees it
pub below_whole : (v : Point) (t : Edge) → is_below t.a t.b (whole v) ≡ is_live v.x t && int_lt (pos 0) (turn t.a t.b v)
below_whole v t = ap₂ (λ b z. b && int_lt (pos 0) z) (spans_live v.x (whole v) (omega arith) (whole_is_on_column v) t) (side_of_whole t.a t.b v)

-- ---- edges that start beside v

abbrev pub in_fan : Point → Edge → Edge → Bool
in_fan v s t = is_eq (point_order t.a v) && is_lt (angle_order t s)

-- the test is true where one of the two others is, and never both
pub data Parts (test one other : Bool) : Type 0 where
  first : other ≡ false → test ≡ one → Parts test one other
  second : one ≡ false → test ≡ other → Parts test one other

pub none : (y z : ℤ) → y ≡ z → z -ℤ y ≡ pos 0
none y z e = omega (arith, ints)

-- straight above or below the start of an edge
pub turn_over : (t : Edge) (v : Point) → pos 0 <ℤ (t.b.x -ℤ t.a.x) → t.a.x ≡ v.x → t.a.y <ℤ v.y → pos 0 <ℤ turn t.a t.b v
turn_over t v wide level over =
    by ((t.b.x -ℤ t.a.x) *ℤ (v.y -ℤ t.a.y)) ((t.b.y -ℤ t.a.y) *ℤ (v.x -ℤ t.a.x)) (product_positive (t.b.x -ℤ t.a.x) (v.y -ℤ t.a.y) wide (omega (arith, ints))) (ap (λ z. (t.b.y -ℤ t.a.y) *ℤ z) (none t.a.x v.x level) ∙ *ℤ-zero (t.b.y -ℤ t.a.y))
  where
    by : (m n : ℤ) → pos 0 <ℤ m → n ≡ pos 0 → pos 0 <ℤ (m -ℤ n)
    by m n l e = omega (arith, ints)

pub turn_under : (t : Edge) (v : Point) → pos 0 <ℤ (t.b.x -ℤ t.a.x) → t.a.x ≡ v.x → v.y <ℤ t.a.y → turn t.a t.b v <ℤ pos 0
turn_under t v wide level over =
    by ((t.b.x -ℤ t.a.x) *ℤ (v.y -ℤ t.a.y)) ((t.b.y -ℤ t.a.y) *ℤ (v.x -ℤ t.a.x)) (product_negative (t.b.x -ℤ t.a.x) (v.y -ℤ t.a.y) wide (omega (arith, ints))) (ap (λ z. (t.b.y -ℤ t.a.y) *ℤ z) (none t.a.x v.x level) ∙ *ℤ-zero (t.b.y -ℤ t.a.y))
  where
    by : (m n : ℤ) → m <ℤ pos 0 → n ≡ pos 0 → (m -ℤ n) <ℤ pos 0
    by m n l e = omega (arith, ints)

-- a vertical edge has nothing of a fan above it
pub turn_vertical : (t : Edge) (p : Point) → t.a.x ≡ t.b.x → t.a.y <ℤ t.b.y → t.a.x ≤ℤ p.x → turn t.a t.b p ≤ℤ pos 0
turn_vertical t p level rises right =
    by ((t.b.x -ℤ t.a.x) *ℤ (p.y -ℤ t.a.y)) ((t.b.y -ℤ t.a.y) *ℤ (p.x -ℤ t.a.x)) (ap (λ z. z *ℤ (p.y -ℤ t.a.y)) (none t.a.x t.b.x level) ∙ zero-*ℤ (p.y -ℤ t.a.y)) (product_not_negative (t.b.y -ℤ t.a.y) (p.x -ℤ t.a.x) (omega (arith, ints)) (omega (arith, ints)))
  where
    by : (m n : ℤ) → m ≡ pos 0 → pos 0 ≤ℤ n → (m -ℤ n) ≤ℤ pos 0
    by m n e l = omega (arith, ints)

pub angle_is : (t s : Edge) → is_lt (angle_order t s) ≡ int_lt (pos 0) (turn t.a t.b s.b)
angle_is t s = is_lt_cmp (pos 0) (turn t.a t.b s.b)

-- one that starts at v and doesn't reach over its column is vertical
pub vertical_if_ended : (t : Edge) (v : Point) → t.a ≡ v → is_before t.a t.b ≡ true → is_live v.x t ≡ false → (t.a.x ≡ t.b.x) × (t.a.y <ℤ t.b.y)
vertical_if_ended t v here directed ended = by (point_less t.a t.b (before_is_less t.a t.b directed))
  where
    by : (t.a.x <ℤ t.b.x) ⊎ ((t.a.x ≡ t.b.x) × (t.a.y <ℤ t.b.y)) → (t.a.x ≡ t.b.x) × (t.a.y <ℤ t.b.y)
    by (inl wide) = let e : t.a.x ≡ v.x = ap (λ p. p.x) here in absurd (false≢true (sym ended ∙ live_holds v.x t (omega (arith, ints), omega (arith, ints))))
    by (inr h) = h

pub wide_live : (x : ℤ) (t : Edge) → IsLive x t → pos 0 <ℤ (t.b.x -ℤ t.a.x)
wide_live x t h = omega (arith, ints, h.0, h.1)

pub not_equal : (o : Ordering) → o ≢ Equal → is_eq o ≡ false
not_equal Less h = refl
not_equal Equal h = absurd (h refl)
not_equal Greater h = refl

pub and_first : (b c : Bool) → b ≡ false → b && c ≡ false
and_first b c e = ap (λ d. d && c) e

-- a live edge that starts after v starts straight above it
pub starts_above : (t : Edge) (v : Point) → IsLive v.x t → point_order t.a v ≡ Greater → (t.a.x ≡ v.x) × (v.y <ℤ t.a.y)
starts_above t v h e = by (point_less v t.a (less_from_greater point_total t.a v e))
  where
    by : (v.x <ℤ t.a.x) ⊎ ((v.x ≡ t.a.x) × (v.y <ℤ t.a.y)) → (t.a.x ≡ v.x) × (v.y <ℤ t.a.y)
    by (inl l) = absurd (clash v.x t.a.x l h.0)
      where
        clash : (x y : ℤ) → x <ℤ y → y ≤ℤ x → ⊥
        clash x y l m = absurd (omega (arith, ints))
    by (inr k) = (sym k.0, k.1)

-- ---- one edge of the fan, and any other edge

module _ (s t : Edge) (v : Point) (start : s.a ≡ v) (directed : is_before t.a t.b ≡ true) where
  at_v : point_order t.a v ≡ Equal → t.a ≡ v
  at_v e = point_equal t.a v e

  off_start : (o : Ordering) → point_order t.a v ≡ o → o ≢ Equal → in_fan v s t ≡ false
  off_start o e h = and_first (is_eq (point_order t.a v)) (is_lt (angle_order t s)) (ap is_eq e ∙ not_equal o h)

  on_start : point_order t.a v ≡ Equal → in_fan v s t ≡ int_lt (pos 0) (turn t.a t.b s.b)
  on_start e = ap (λ o. is_eq o && is_lt (angle_order t s)) e ∙ angle_is t s

  horizontal_at_start : point_order t.a v ≡ Equal → turn t.a t.b v ≡ pos 0
  horizontal_at_start e = ap (λ p. turn t.a t.b p) (sym (at_v e)) ∙ turn_there_and_back t.a t.b

  not_below_start : point_order t.a v ≡ Equal → is_live v.x t && int_lt (pos 0) (turn t.a t.b v) ≡ false
  not_below_start e = and_right (is_live v.x t) (int_lt (pos 0) (turn t.a t.b v)) (ap (λ z. int_lt (pos 0) z) (horizontal_at_start e))

  -- an edge that isn't vertical
  parts_wide : s.a.x <ℤ s.b.x → Parts (under v.x s t) (is_live v.x t && int_lt (pos 0) (turn t.a t.b v)) (in_fan v s t)
  parts_wide wide = by (point_order t.a v) refl
    where
      same_start : point_order t.a v ≡ point_order t.a s.a
      same_start = ap (λ p. point_order t.a p) (sym start)

      by : (o : Ordering) → point_order t.a v ≡ o → Parts (under v.x s t) (is_live v.x t && int_lt (pos 0) (turn t.a t.b v)) (in_fan v s t)
      by Less e =
          first (off_start Less e (λ f. absurd (cc)))
          (ap (λ b. is_live v.x t && b) (precedes_by_other_start t s (sym same_start ∙ e) ∙ ap (λ p. int_lt (pos 0) (turn t.a t.b p)) start))
      by Equal e = second (not_below_start e) (live_or_not (cases_Bool (is_live v.x t)) ∙ sym (on_start e))
        where
          live_or_not : (is_live v.x t ≡ true) ⊎ (is_live v.x t ≡ false) → under v.x s t ≡ int_lt (pos 0) (turn t.a t.b s.b)
          live_or_not (inl l) = ap (λ b. b && precedes t s) l ∙ precedes_by_angle t s (at_v e ∙ sym start)
          live_or_not (inr l) =
              let h = vertical_if_ended t v (at_v e) directed l in
              and_first (is_live v.x t) (precedes t s) l
              ∙ sym (lt_fails (pos 0) (turn t.a t.b s.b) (turn_vertical t s.b h.0 h.1 (right (ap (λ p. p.x) (at_v e)) (ap (λ p. p.x) start))))
            where
              right : t.a.x ≡ v.x → s.a.x ≡ v.x → t.a.x ≤ℤ s.b.x
              right f g = omega (arith, ints)
      by Greater e = first (off_start Greater e (λ f. absurd (cc))) (live_or_not (cases_Bool (is_live v.x t)))
        where
          live_or_not : (is_live v.x t ≡ true) ⊎ (is_live v.x t ≡ false) → under v.x s t ≡ is_live v.x t && int_lt (pos 0) (turn t.a t.b v)
          live_or_not (inr l) = and_first (is_live v.x t) (precedes t s) l ∙ sym (and_first (is_live v.x t) (int_lt (pos 0) (turn t.a t.b v)) l)
          live_or_not (inl l) =
              let live = live_tells v.x t l in
              let h = starts_above t v live e in
              ap (λ b. is_live v.x t && b)
              (precedes_by_start t s (ap (λ p. point_order p t.a) start ∙ less_from_greater point_total t.a v e)
              ∙ (lt_fails (turn s.a s.b t.a) (pos 0) (weak _ (turn_over s t.a (omega (arith, ints)) (ap (λ p. p.x) start ∙ sym h.0) (lifted (ap (λ p. p.y) start) h.1)))
              ∙ sym (lt_fails (pos 0) (turn t.a t.b v) (weak_under _ (turn_under t v (wide_live v.x t live) h.0 h.1)))))
            where
              weak : (z : ℤ) → pos 0 <ℤ z → pos 0 ≤ℤ z
              weak z l = omega (arith, ints)

              weak_under : (z : ℤ) → z <ℤ pos 0 → z ≤ℤ pos 0
              weak_under z l = omega (arith, ints)

              lifted : s.a.y ≡ v.y → v.y <ℤ t.a.y → s.a.y <ℤ t.a.y
              lifted f l = omega (arith, ints)

  -- a vertical edge
  module _ (vertical : s.a.x ≡ s.b.x) (rises : s.a.y <ℤ s.b.y) (parts : s ≢ t → parted s t ≡ true) where
    x_of_start : s.a.x ≡ v.x
    x_of_start = ap (λ p. p.x) start

    y_of_start : s.a.y ≡ v.y
    y_of_start = ap (λ p. p.y) start

    ended : is_live v.x t ≡ false → (o : Ordering) → point_order t.a v ≡ o → in_fan v s t ≡ false
    ended l Less e = off_start Less e (λ f. absurd (cc))
    ended l Equal e =
        let h = vertical_if_ended t v (at_v e) directed l in
        on_start e ∙ lt_fails (pos 0) (turn t.a t.b s.b) (turn_vertical t s.b h.0 h.1 (right (ap (λ p. p.x) (at_v e)) x_of_start))
      where
        right : t.a.x ≡ v.x → s.a.x ≡ v.x → t.a.x ≤ℤ s.b.x
        right f g = omega (arith, ints)
    ended l Greater e = off_start Greater e (λ f. absurd (cc))

    module _ (l : is_live v.x t ≡ true) where
      live : IsLive v.x t
      live = live_tells v.x t l

      differ : s ≢ t
      differ e = let f : s.a.x ≡ t.a.x = ap (λ z. z.a.x) e in let g : s.b.x ≡ t.b.x = ap (λ z. z.b.x) e in absurd (clash f g vertical live.0 live.1)
        where
          clash : s.a.x ≡ t.a.x → s.b.x ≡ t.b.x → s.a.x ≡ s.b.x → t.a.x ≤ℤ v.x → v.x <ℤ t.b.x → ⊥
          clash f g h m n = absurd (omega (arith, ints, x_of_start))

      -- level with v only where it starts there
      starts_here : turn t.a t.b v ≡ pos 0 → (o : Ordering) → point_order t.a v ≡ o → o ≡ Equal
      starts_here flat Less e =
          absurd (false≢true (sym (parted_tells s t (parts differ)).own_first
          ∙ ap (λ p. strictly_inside p t) start
          ∙ inside_from v t flat (before_of_order t.a v e) (before_of_order v t.b (point_less_by_x v t.b live.1))))
      starts_here flat Equal e = refl
      starts_here flat Greater e = let h = starts_above t v live e in absurd (clash _ flat (turn_under t v (wide_live v.x t live) h.0 h.1))
        where
          clash : (z : ℤ) → z ≡ pos 0 → z <ℤ pos 0 → ⊥
          clash z e l = absurd (omega (arith, ints))

      not_in_fan : turn t.a t.b v ≢ pos 0 → (o : Ordering) → point_order t.a v ≡ o → in_fan v s t ≡ false
      not_in_fan off Less e = off_start Less e (λ f. absurd (cc))
      not_in_fan off Equal e = absurd (off (horizontal_at_start e))
      not_in_fan off Greater e = off_start Greater e (λ f. absurd (cc))

      below_the_end : point_order t.a v ≡ Equal → in_fan v s t ≡ true
      below_the_end e =
          on_start e
          ∙ lt_holds (pos 0) (turn t.a t.b s.b)
          (turn_over t s.b (wide_live v.x t live) (ap (λ p. p.x) (at_v e) ∙ (sym x_of_start ∙ vertical)) (lifted (ap (λ p. p.y) (at_v e)) y_of_start))
        where
          lifted : t.a.y ≡ v.y → s.a.y ≡ v.y → t.a.y <ℤ s.b.y
          lifted f g = omega (arith, ints)

      by_turn : (o : Ordering) → MatchOrdering o (turn t.a t.b v <ℤ pos 0) (turn t.a t.b v ≡ pos 0) (pos 0 <ℤ turn t.a t.b v) → Parts (is_live v.x t && int_le (pos 0) (turn t.a t.b v)) (is_live v.x t && int_lt (pos 0) (turn t.a t.b v)) (in_fan v s t)
      by_turn Less h =
          first (not_in_fan (λ e. absurd (clash _ h e)) (point_order t.a v) refl)
          (ap (λ b. is_live v.x t && b) (le_fails (pos 0) (turn t.a t.b v) h ∙ sym (lt_fails (pos 0) (turn t.a t.b v) (weak _ h))))
        where
          clash : (z : ℤ) → z <ℤ pos 0 → z ≡ pos 0 → ⊥
          clash z l e = absurd (omega (arith, ints))

          weak : (z : ℤ) → z <ℤ pos 0 → z ≤ℤ pos 0
          weak z l = omega (arith, ints)
      by_turn Equal h =
          let e : point_order t.a v ≡ Equal = starts_here h (point_order t.a v) refl in
          second (not_below_start e) (ap₂ (λ b z. b && int_le (pos 0) z) l h ∙ sym (below_the_end e))
      by_turn Greater h =
          first (not_in_fan (λ e. absurd (clash _ h e)) (point_order t.a v) refl)
          (ap (λ b. is_live v.x t && b) (le_holds (pos 0) (turn t.a t.b v) (weak _ h) ∙ sym (lt_holds (pos 0) (turn t.a t.b v) h)))
        where
          clash : (z : ℤ) → pos 0 <ℤ z → z ≡ pos 0 → ⊥
          clash z l e = absurd (omega (arith, ints))

          weak : (z : ℤ) → pos 0 <ℤ z → pos 0 ≤ℤ z
          weak z l = omega (arith, ints)

    live_or_not : (is_live v.x t ≡ true) ⊎ (is_live v.x t ≡ false) → Parts (is_live v.x t && int_le (pos 0) (turn t.a t.b v)) (is_live v.x t && int_lt (pos 0) (turn t.a t.b v)) (in_fan v s t)
    live_or_not (inl l) = by_turn l (int_cmp (turn t.a t.b v) (pos 0)) (int_ranks (turn t.a t.b v) (pos 0))
    live_or_not (inr l) =
        first (ended l (point_order t.a v) refl)
        (and_first (is_live v.x t) (int_le (pos 0) (turn t.a t.b v)) l ∙ sym (and_first (is_live v.x t) (int_lt (pos 0) (turn t.a t.b v)) l))

    parts_vertical : Parts (is_live v.x t && int_le (pos 0) (turn t.a t.b v)) (is_live v.x t && int_lt (pos 0) (turn t.a t.b v)) (in_fan v s t)
    parts_vertical = live_or_not (cases_Bool (is_live v.x t))

-- ---- the lower side of each

pub sum_of_parts : (test one other : Edge → Bool) (es : List (Entry Count)) → All (λ e. Parts (test e.edge) (one e.edge) (other e.edge)) es → sum_of test es ≡ boolean.join (sum_of one es) (sum_of other es)
sum_of_parts test one other es split =
    same_count (sum_of test es) (boolean.join (sum_of one es) (sum_of other es)) (summed (λ c. c.subject)) (summed (λ c. c.clip))
  where
    both : (m : ℤ) (t o r : Bool) → Parts t o r → cond t m (pos 0) ≡ cond o m (pos 0) +ℤ cond r m (pos 0)
    both m t true r (first e f) = rw (e, f) (omega (arith, ints))
    both m t false r (first e f) = rw (e, f) (omega (arith, ints))
    both m t o true (second e f) = rw (e, f) (omega (arith, ints))
    both m t o false (second e f) = rw (e, f) (omega (arith, ints))

    summed : (n : Count → ℤ) → total (λ e. cond (test e.edge) (n e.count) (pos 0)) es ≡ total (λ e. cond (one e.edge) (n e.count) (pos 0)) es +ℤ total (λ e. cond (other e.edge) (n e.count) (pos 0)) es
    summed n =
        total_pointwise_on (λ e. cond (test e.edge) (n e.count) (pos 0)) (λ e. cond (one e.edge) (n e.count) (pos 0) +ℤ cond (other e.edge) (n e.count) (pos 0)) es
        (λ i d l. both (n (get_or es i d).count) (test (get_or es i d).edge) (one (get_or es i d).edge) (other (get_or es i d).edge) (split i d l))
        ∙ total_sum (λ e. cond (one e.edge) (n e.count) (pos 0)) (λ e. cond (other e.edge) (n e.count) (pos 0)) es

module _ (es : List (Entry Count)) (arranged : IsArrangement es) (e : Entry Count) (here : Contains es e) (v : Point) (start : e.edge.a ≡ v) where
  pub winding_whole : winding es (whole v) ≡ sum_of (λ t. is_live v.x t && int_lt (pos 0) (turn t.a t.b v)) es
  winding_whole = sums_agree (λ t. is_below t.a t.b (whole v)) (λ t. is_live v.x t && int_lt (pos 0) (turn t.a t.b v)) es (λ i d l. below_whole v (get_or es i d).edge)

  pub lower_in_fan : lower_side es e.edge ≡ boolean.join (winding es (whole v)) (sum_of (in_fan v e.edge) es)
  lower_in_fan = by (point_less e.edge.a e.edge.b (before_is_less e.edge.a e.edge.b (directed_entry es arranged e here))) ∙ ap (λ w. boolean.join w (sum_of (in_fan v e.edge) es)) (sym winding_whole)
    where
      by : (e.edge.a.x <ℤ e.edge.b.x) ⊎ ((e.edge.a.x ≡ e.edge.b.x) × (e.edge.a.y <ℤ e.edge.b.y)) → lower_side es e.edge ≡ boolean.join (sum_of (λ t. is_live v.x t && int_lt (pos 0) (turn t.a t.b v)) es) (sum_of (in_fan v e.edge) es)
      by (inl wide) =
          lower_is_below es arranged e here v.x (live (ap (λ p. p.x) start))
          ∙ sum_of_parts (under v.x e.edge) (λ t. is_live v.x t && int_lt (pos 0) (turn t.a t.b v)) (in_fan v e.edge) es
          (λ i d l. parts_wide e.edge (get_or es i d).edge v start (directed_entry es arranged (get_or es i d) (All-contains_itself es i d l)) wide)
        where
          live : e.edge.a.x ≡ v.x → IsLive v.x e.edge
          live f = (omega (arith, ints), omega (arith, ints))
      by (inr h) =
          lower_vertical es arranged e here h.0
          ∙ (ap (λ p. reaching es p) start
          ∙ sum_of_parts (λ t. is_live v.x t && int_le (pos 0) (turn t.a t.b v)) (λ t. is_live v.x t && int_lt (pos 0) (turn t.a t.b v)) (in_fan v e.edge) es
          (λ i d l. parts_vertical e.edge (get_or es i d).edge v start (directed_entry es arranged (get_or es i d) (All-contains_itself es i d l)) h.0 h.1 (parted_from_others es arranged e here i d l)))
