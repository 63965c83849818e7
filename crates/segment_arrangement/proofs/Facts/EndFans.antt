-- The sides of the edges that end at one point.
use Rattle.std.proofs.Common.{◌≡◌, ◌≢◌, Bool, true, false, not, cond, ◌&&◌, List, [], ◌∷◌, All, Contains, ◌⊎◌, inl, inr, ℤ, pos, ◌+ℤ◌, ◌-ℤ◌, ◌*ℤ◌, neg_ℤ, ◌≤ℤ◌, ◌<ℤ◌, int_lt, int_le, get_or, refl, sym, ap, ap₂, ◌∙◌, arith}
use Rattle.std.specs.declared.cmp.Ordering.{Ordering}
use Rattle.std.specs.declared.cmp.Ordering.TheVariants.{Less, Equal, Greater}
use Rattle.std.specs.Ordering.{is_lt, is_eq, int_eq}
use Rattle.std.proofs.lemmas.Int.{ints, by_lt_z}
use Rattle.std.proofs.lemmas.Bool.{false≢true, and_right, cases_Bool, false_from_ne_true}
use Rattle.std.proofs.lemmas.Bool.Decides.{Decides-int_eq}
use Rattle.std.proofs.lemmas.List.Elements.{All-contains, All-contains_itself}
use Rattle.std.proofs.Math.IntN.{zero-*ℤ, *ℤ-zero}
use Rattle.plane_base.specs.Plane.{Point, Edge, turn, is_before, is_below, point_order}
use Rattle.plane_base.specs.Counts.{Count, Entry, boolean}
use Rattle.plane_base.specs.Balance.{IsBalancedForAll}
use Rattle.plane_base.specs.Windings.{winding}
use Rattle.plane_base.specs.Segments.{parted, strictly_inside, lift, column_order, precedes}
use Rattle.plane_base.specs.ColumnLaws.{IsLive}
use Rattle.plane_base.proofs.Facts.Maps.Balance.{balanced_subject, balanced_clip}
use Rattle.plane_base.proofs.Facts.Numbers.Products.{product_positive, product_of_negatives, product_not_positive, negation_product, factor_positive}
use Rattle.plane_base.proofs.Facts.Numbers.Polynomials.{var, minus, times, by_ring}
use Rattle.plane_base.proofs.Facts.Points.Turns.{width, coordinates, place, a_turn, turn_cyclic, turn_swap_last, turn_end_twice, turn_there_and_back, lift_at_second, lift_at_fourth}
use Rattle.plane_base.proofs.Facts.Points.Orders.{point_total, point_equal, point_itself, point_less, point_less_x, point_less_by_y, before_is_less, less_from_greater}
use Rattle.plane_base.proofs.Facts.Crossings.Parted.{parted_tells, parted_swapped}
use Rattle.plane_base.proofs.Facts.Columns.Order.{inside_from, before_of_order, order_is_place, order_is_lawful}
use Rattle.plane_base.proofs.Facts.Columns.Levels.{level_in_common_ends, unless_same}
use Rattle.plane_base.proofs.Facts.Lists.Totals.{total_pointwise_on, total_zero_on, total_sum, total_difference}
use Rattle.segment_arrangement.specs.Columns.{is_live, sum_of}
use Rattle.segment_arrangement.specs.EdgeSides.{lower_side, middle}
use Rattle.segment_arrangement.specs.SideLaws.{IsArrangement}
use Rattle.segment_arrangement.specs.FanLaws.{whole}
use Rattle.segment_arrangement.proofs.Facts.ColumnPlaces.{same_tests, lt_holds, lt_fails, lt_tells, le_holds, le_tells, live_tells, live_holds, not_live_ended, not_live_unstarted}
use Rattle.segment_arrangement.proofs.Facts.EndsAlong.{precedes_by_start, precedes_by_other_start, precedes_by_angle}
use Rattle.segment_arrangement.proofs.Facts.AlongKey.{part, same_count, sums_agree}
use Rattle.segment_arrangement.proofs.Facts.InnerPoints.{middle_between, not_between}
use Rattle.segment_arrangement.proofs.Facts.LastBelow.{under}
use Rattle.segment_arrangement.proofs.Facts.ConstantSides.{parted_from_others, directed_entry, lower_is_below, lower_vertical}
use Rattle.segment_arrangement.proofs.Facts.Fans.{Parts, first, second, sum_of_parts, none, and_first, wide_live, below_whole}

-- ends at v, and starts to the left of the way from v to the start of s
abbrev pub end_fan : Point → Edge → Edge → Bool
end_fan v s t = is_eq (point_order t.b v) && int_lt (pos 0) (turn v s.a t.a)

-- below v, seen from the column before it
abbrev left_below : Point → Edge → Bool
left_below v t = is_live (v.x -ℤ pos 1) t && int_lt (pos 0) (turn t.a t.b v)

-- vertical, with v above
abbrev stands_below : Point → Edge → Bool
stands_below v t = is_eq (point_order t.b v) && not (is_live (v.x -ℤ pos 1) t)

turn_between : (t : Edge) (p r : Point) → turn t.a t.b r -ℤ turn t.a t.b p ≡ ((t.b.x -ℤ t.a.x) *ℤ (r.y -ℤ p.y)) -ℤ ((t.b.y -ℤ t.a.y) *ℤ (r.x -ℤ p.x))
turn_between t p r =
    by_ring (coordinates (t.a ∷ t.b ∷ p ∷ r ∷ []) [])
    (minus (a_turn (place 0) (place 1) (place 3)) (a_turn (place 0) (place 1) (place 2)))
    (minus (times (minus (var 2) (var 0)) (minus (var 7) (var 5))) (times (minus (var 3) (var 1)) (minus (var 6) (var 4))))
    refl

elsewhere : {t v : Point} (o : Ordering) → point_order t v ≡ o → o ≢ Equal → t ≢ v
elsewhere {t} {v} o e other same = other (sym e ∙ (ap (λ p. point_order t p) (sym same) ∙ point_itself t))

-- ---- an edge that isn't vertical

module _ (s t : Edge) (v : Point) (ends : s.b ≡ v) (parts : s ≢ t → parted s t ≡ true) where
  -- two that end at v are told apart by their starts
  precedes_to_end : t.b ≡ v → precedes t s ≡ int_lt (pos 0) (turn v s.a t.a)
  precedes_to_end here = by (point_order t.a s.a) refl
    where
      turned : turn t.a t.b s.a ≡ turn v s.a t.a
      turned = ap (λ p. turn t.a p s.a) here ∙ turn_cyclic t.a v s.a

      turned_back : turn s.a s.b t.a ≡ neg_ℤ (turn v s.a t.a)
      turned_back = ap (λ p. turn s.a p t.a) ends ∙ (turn_cyclic s.a v t.a ∙ turn_swap_last v t.a s.a)

      flipped : (y z : ℤ) → y ≡ neg_ℤ z → int_lt y (pos 0) ≡ int_lt (pos 0) z
      flipped y z e = same_tests (int_lt y (pos 0)) (int_lt (pos 0) z) (λ f. lt_holds (pos 0) z (up (lt_tells y (pos 0) f))) (λ f. lt_holds y (pos 0) (down (lt_tells (pos 0) z f)))
        where
          up : y <ℤ pos 0 → pos 0 <ℤ z
          up l = omega (arith, ints)

          down : pos 0 <ℤ z → y <ℤ pos 0
          down l = omega (arith, ints)

      by : (o : Ordering) → point_order t.a s.a ≡ o → precedes t s ≡ int_lt (pos 0) (turn v s.a t.a)
      by Less e = precedes_by_other_start t s e ∙ ap (λ z. int_lt (pos 0) z) turned
      by Equal e =
          let a = point_equal t.a s.a e in
          precedes_by_angle t s a
          ∙ ap (λ z. int_lt (pos 0) z) (ap (λ p. turn t.a p s.b) (here ∙ sym ends) ∙ (turn_end_twice t.a s.b ∙ sym (ap (λ p. turn v s.a p) a ∙ turn_end_twice v s.a)))
      by Greater e = precedes_by_start t s (less_from_greater point_total t.a s.a e) ∙ flipped (turn s.a s.b t.a) (turn v s.a t.a) turned_back

  -- one that doesn't end at v is told by v
  precedes_past_end : IsLive (v.x -ℤ pos 1) s → IsLive (v.x -ℤ pos 1) t → t.b ≢ v → precedes t s ≡ int_lt (pos 0) (turn t.a t.b v)
  precedes_past_end hs ht other = by (column_order t s) refl
    where
      differ : s ≢ t
      differ e = other (ap (λ z. z.b) (sym e) ∙ ends)

      s_t : parted s t ≡ true
      s_t = parts differ

      t_s : parted t s ≡ true
      t_s = parted_swapped s t s_t

      wide : pos 0 <ℤ width s.a s.b
      wide = omega (arith, ints, hs.0, hs.1)

      x_of_end : s.b.x ≡ v.x
      x_of_end = ap (λ p. p.x) ends

      off : lift s t ((v.x -ℤ pos 1) +ℤ pos 1) (pos 1) ≢ pos 0
      off level = other (level_in_common_ends.at_end t s (v.x -ℤ pos 1) t_s ht hs level ∙ ends)

      at_end : s.b.x ≡ (v.x -ℤ pos 1) +ℤ pos 1
      at_end = omega (arith, ints, x_of_end)

      more : (w o l : ℤ) → l ≡ w *ℤ o → pos 0 <ℤ w → pos 0 ≤ℤ l → l ≢ pos 0 → pos 0 <ℤ o
      more w o l e some h other = factor_positive w o some (rw e at (by_lt_z (pos 0) l (λ m. m) (λ m. absurd (other (omega (arith, ints))))))

      no_more : (w o l : ℤ) → l ≡ neg_ℤ (w *ℤ o) → pos 0 <ℤ w → pos 0 ≤ℤ l → o ≤ℤ pos 0
      no_more w o l e some h = by_lt_z (pos 0) o (λ m. absurd (clash l (w *ℤ o) e h (product_positive w o some m))) (λ m. m)
        where
          clash : (l y : ℤ) → l ≡ neg_ℤ y → pos 0 ≤ℤ l → pos 0 <ℤ y → ⊥
          clash l y e h m = absurd (omega (arith, ints))

      by : (o : Ordering) → column_order t s ≡ o → is_lt o ≡ int_lt (pos 0) (turn t.a t.b v)
      by Less e =
          sym (lt_holds (pos 0) (turn t.a t.b v)
          (more (width s.a s.b) (turn t.a t.b v) (lift s t ((v.x -ℤ pos 1) +ℤ pos 1) (pos 1))
          (ap (λ z. lift s t z (pos 1)) (sym at_end) ∙ (lift_at_second s.a s.b t.a t.b ∙ ap (λ p. width s.a s.b *ℤ turn t.a t.b p) ends)) wide
          (order_is_place.nowhere_above t s (v.x -ℤ pos 1) ((v.x -ℤ pos 1) +ℤ pos 1) 1 t_s ht hs (omega arith) (omega (arith, ints)) (omega (arith, ints)) e) off))
      by Equal e = absurd (order_is_lawful.decided t s (v.x -ℤ pos 1) t_s ht hs (λ f. differ (sym f)) e)
      by Greater e =
          sym (lt_fails (pos 0) (turn t.a t.b v)
          (no_more (width s.a s.b) (turn t.a t.b v) (lift t s ((v.x -ℤ pos 1) +ℤ pos 1) (pos 1))
          (ap (λ z. lift t s z (pos 1)) (sym at_end) ∙ (lift_at_fourth t.a t.b s.a s.b ∙ ap (λ p. neg_ℤ (width s.a s.b *ℤ turn t.a t.b p)) ends)) wide
          (order_is_place.nowhere_above s t (v.x -ℤ pos 1) ((v.x -ℤ pos 1) +ℤ pos 1) 1 s_t hs ht (omega arith) (omega (arith, ints)) (omega (arith, ints)) (order_is_lawful.reversed t s ∙ rw e refl))))

  -- what passes below s before v passes below v, or ends there
  parts_before : IsLive (v.x -ℤ pos 1) s → Parts (under (v.x -ℤ pos 1) s t) (left_below v t) (is_live (v.x -ℤ pos 1) t && end_fan v s t)
  parts_before hs = live_or_not (cases_Bool (is_live (v.x -ℤ pos 1) t))
    where
      at_or_past : is_live (v.x -ℤ pos 1) t ≡ true → (o : Ordering) → point_order t.b v ≡ o → Parts (under (v.x -ℤ pos 1) s t) (left_below v t) (is_live (v.x -ℤ pos 1) t && end_fan v s t)
      at_or_past l Equal e =
          let here = point_equal t.b v e in
          second
          (and_right (is_live (v.x -ℤ pos 1) t) (int_lt (pos 0) (turn t.a t.b v)) (ap (λ z. int_lt (pos 0) z) (ap (λ p. turn t.a t.b p) (sym here) ∙ turn_end_twice t.a t.b)))
          (ap (λ b. is_live (v.x -ℤ pos 1) t && b) (precedes_to_end here ∙ sym (ap (λ o. is_eq o && int_lt (pos 0) (turn v s.a t.a)) e)))
      at_or_past l Less e =
          first
          (and_right (is_live (v.x -ℤ pos 1) t) (end_fan v s t) (ap (λ o. is_eq o && int_lt (pos 0) (turn v s.a t.a)) e))
          (ap (λ b. is_live (v.x -ℤ pos 1) t && b) (precedes_past_end hs (live_tells (v.x -ℤ pos 1) t l) (elsewhere Less e (λ f. absurd (cc)))))
      at_or_past l Greater e =
          first
          (and_right (is_live (v.x -ℤ pos 1) t) (end_fan v s t) (ap (λ o. is_eq o && int_lt (pos 0) (turn v s.a t.a)) e))
          (ap (λ b. is_live (v.x -ℤ pos 1) t && b) (precedes_past_end hs (live_tells (v.x -ℤ pos 1) t l) (elsewhere Greater e (λ f. absurd (cc)))))

      live_or_not : (is_live (v.x -ℤ pos 1) t ≡ true) ⊎ (is_live (v.x -ℤ pos 1) t ≡ false) → Parts (under (v.x -ℤ pos 1) s t) (left_below v t) (is_live (v.x -ℤ pos 1) t && end_fan v s t)
      live_or_not (inl l) = at_or_past l (point_order t.b v) refl
      live_or_not (inr l) =
          first (and_first (is_live (v.x -ℤ pos 1) t) (end_fan v s t) l)
          (and_first (is_live (v.x -ℤ pos 1) t) (precedes t s) l ∙ sym (and_first (is_live (v.x -ℤ pos 1) t) (int_lt (pos 0) (turn t.a t.b v)) l))

-- ---- an edge that is vertical

module _ (s t : Edge) (v : Point) (ends : s.b ≡ v) (directed : is_before s.a s.b ≡ true) (vertical : s.a.x ≡ s.b.x) (rises : s.a.y <ℤ s.b.y) where
  -- nothing passes between its ends
  through_or_below : (s ≢ t → parted s t ≡ true) → is_live s.a.x t && int_le (pos 0) (turn t.a t.b s.a) ≡ is_live v.x t && int_lt (pos 0) (turn t.a t.b v)
  through_or_below parts = ap (λ x. is_live x t && int_le (pos 0) (turn t.a t.b s.a)) (vertical ∙ ap (λ p. p.x) ends) ∙ live_or_not (cases_Bool (is_live v.x t))
    where
      higher : IsLive v.x t → turn t.a t.b s.a <ℤ turn t.a t.b v
      higher h =
          over _ _ _ _ (turn_between t s.a s.b) (product_positive (t.b.x -ℤ t.a.x) (s.b.y -ℤ s.a.y) (wide_live v.x t h) (omega (arith, ints)))
          (ap (λ z. (t.b.y -ℤ t.a.y) *ℤ z) (none _ _ vertical) ∙ *ℤ-zero (t.b.y -ℤ t.a.y)) (ap (λ p. turn t.a t.b p) ends)
        where
          over : (y z m n : ℤ) {w : ℤ} → z -ℤ y ≡ m -ℤ n → pos 0 <ℤ m → n ≡ pos 0 → z ≡ w → y <ℤ w
          over y z m n e l f g = omega (arith, ints)

      live_at_start : IsLive v.x t → IsLive s.a.x t
      live_at_start h = let e : v.x ≡ s.a.x = sym (vertical ∙ ap (λ p. p.x) ends) in (omega (arith, ints, h.0), omega (arith, ints, h.1))

      tests : IsLive v.x t → int_le (pos 0) (turn t.a t.b s.a) ≡ int_lt (pos 0) (turn t.a t.b v)
      tests h =
          same_tests (int_le (pos 0) (turn t.a t.b s.a)) (int_lt (pos 0) (turn t.a t.b v))
          (λ e. lt_holds (pos 0) (turn t.a t.b v) (chain _ _ (le_tells (pos 0) (turn t.a t.b s.a) e) (higher h)))
          (λ e. le_holds (pos 0) (turn t.a t.b s.a)
          (by_lt_z (turn t.a t.b s.a) (pos 0)
          (λ l. absurd (not_between s (middle s) (omega arith) (middle_between s directed) directed vertical t parts (live_at_start h) (moved _ _ (ap (λ p. turn t.a t.b p) ends) (lt_tells (pos 0) (turn t.a t.b v) e)) l))
          (λ l. l)))
        where
          chain : (y z : ℤ) → pos 0 ≤ℤ y → y <ℤ z → pos 0 <ℤ z
          chain y z l m = omega (arith, ints)

          moved : (y z : ℤ) → y ≡ z → pos 0 <ℤ z → pos 0 <ℤ y
          moved y z e l = omega (arith, ints)

      live_or_not : (is_live v.x t ≡ true) ⊎ (is_live v.x t ≡ false) → is_live v.x t && int_le (pos 0) (turn t.a t.b s.a) ≡ is_live v.x t && int_lt (pos 0) (turn t.a t.b v)
      live_or_not (inl l) = ap (λ b. is_live v.x t && b) (tests (live_tells v.x t l))
      live_or_not (inr l) = and_first (is_live v.x t) (int_le (pos 0) (turn t.a t.b s.a)) l ∙ sym (and_first (is_live v.x t) (int_lt (pos 0) (turn t.a t.b v)) l)

  -- it comes last of those that end there
  none_after_vertical : is_before t.a t.b ≡ true → end_fan v s t ≡ false
  none_after_vertical before = by (point_order t.b v) refl
    where
      right : t.b ≡ v → turn v s.a t.a ≤ℤ pos 0
      right here =
          level ((s.a.x -ℤ v.x) *ℤ (t.a.y -ℤ v.y)) ((s.a.y -ℤ v.y) *ℤ (t.a.x -ℤ v.x))
          (ap (λ z. z *ℤ (t.a.y -ℤ v.y)) (none _ _ (sym (vertical ∙ ap (λ p. p.x) ends))) ∙ zero-*ℤ (t.a.y -ℤ v.y))
          (both (s.a.y -ℤ v.y) (t.a.x -ℤ v.x) (below (ap (λ p. p.y) ends)) (left (ap (λ p. p.x) here) (point_less_x t.a t.b (before_is_less t.a t.b before))))
        where
          level : (m n : ℤ) → m ≡ pos 0 → pos 0 ≤ℤ n → (m -ℤ n) ≤ℤ pos 0
          level m n e l = omega (arith, ints)

          below : s.b.y ≡ v.y → (s.a.y -ℤ v.y) ≤ℤ pos 0
          below e = omega (arith, ints)

          left : t.b.x ≡ v.x → t.a.x ≤ℤ t.b.x → (t.a.x -ℤ v.x) ≤ℤ pos 0
          left e l = omega (arith, ints)

          both : (m n : ℤ) → m ≤ℤ pos 0 → n ≤ℤ pos 0 → pos 0 ≤ℤ (m *ℤ n)
          both m n l k = turned _ _ (negation_product m n) (product_not_positive (neg_ℤ m) n (omega (arith, ints)) k)
            where
              turned : (x y : ℤ) → x ≡ neg_ℤ y → x ≤ℤ pos 0 → pos 0 ≤ℤ y
              turned x y e h = omega (arith, ints)

      by : (o : Ordering) → point_order t.b v ≡ o → end_fan v s t ≡ false
      by Less e = ap (λ o. is_eq o && int_lt (pos 0) (turn v s.a t.a)) e
      by Equal e = ap (λ o. is_eq o && int_lt (pos 0) (turn v s.a t.a)) e ∙ lt_fails (pos 0) (turn v s.a t.a) (right (point_equal t.b v e))
      by Greater e = ap (λ o. is_eq o && int_lt (pos 0) (turn v s.a t.a)) e

-- ---- from the column before v to that of v

-- the points straight below v
abbrev straight_below : Point → Point → ℤ
straight_below v p = cond (int_eq p.x v.x && int_lt p.y v.y) (pos 1) (pos 0)

abbrev one : Bool → ℤ
one b = cond b (pos 1) (pos 0)

beside : (v p : Point) → p.x ≢ v.x → straight_below v p ≡ pos 0
beside v p h = ap (λ b. cond (b && int_lt p.y v.y) (pos 1) (pos 0)) (false_from_ne_true (int_eq p.x v.x) (λ e. h ((Decides-int_eq p.x v.x).0 e)))

straight : (v p : Point) → p.x ≡ v.x → straight_below v p ≡ one (int_lt p.y v.y)
straight v p h = ap (λ b. cond (b && int_lt p.y v.y) (pos 1) (pos 0)) ((Decides-int_eq p.x v.x).1 h)

module _ (v : Point) (t : Edge) (directed : is_before t.a t.b ≡ true) (clear : strictly_inside v t ≡ false) where
  abbrev Crosses : Type 0
  Crosses = (one (is_live v.x t && int_lt (pos 0) (turn t.a t.b v)) -ℤ one (left_below v t)) +ℤ one (stands_below v t) ≡ straight_below v t.a -ℤ straight_below v t.b

  level_none : {m n k p q : ℤ} → m ≡ n → k ≡ pos 0 → p ≡ q → (m -ℤ n) +ℤ k ≡ p -ℤ q
  level_none e f g = omega (arith, ints)

  not_here : t.b.x ≢ v.x → stands_below v t ≡ false
  not_here h = and_first (is_eq (point_order t.b v)) (not (is_live (v.x -ℤ pos 1) t)) (by (point_order t.b v) refl)
    where
      by : (o : Ordering) → point_order t.b v ≡ o → is_eq o ≡ false
      by Less e = refl
      by Equal e = absurd (h (ap (λ p. p.x) (point_equal t.b v e)))
      by Greater e = refl

  not_over : (z : ℤ) → is_live z t ≡ false → one (is_live z t && int_lt (pos 0) (turn t.a t.b v)) ≡ pos 0
  not_over z e = ap (λ b. one (b && int_lt (pos 0) (turn t.a t.b v))) e

  over : (z : ℤ) → IsLive z t → one (is_live z t && int_lt (pos 0) (turn t.a t.b v)) ≡ one (int_lt (pos 0) (turn t.a t.b v))
  over z h = ap (λ b. one (b && int_lt (pos 0) (turn t.a t.b v))) (live_holds z t h)

  rightward : t.a.x ≤ℤ t.b.x
  rightward = point_less_x t.a t.b (before_is_less t.a t.b directed)

  rising : t.a.x ≡ t.b.x → t.a.y <ℤ t.b.y
  rising level = by (point_less t.a t.b (before_is_less t.a t.b directed))
    where
      by : (t.a.x <ℤ t.b.x) ⊎ ((t.a.x ≡ t.b.x) × (t.a.y <ℤ t.b.y)) → t.a.y <ℤ t.b.y
      by (inl h) = absurd (omega (arith, ints))
      by (inr h) = h.1

  -- straight above or below a point of t, t is told by the heights
  told : (p : Point) → turn t.a t.b p ≡ pos 0 → p.x ≡ v.x → pos 0 <ℤ (t.b.x -ℤ t.a.x) → int_lt (pos 0) (turn t.a t.b v) ≡ int_lt p.y v.y
  told p flat here wide =
      same_tests (int_lt (pos 0) (turn t.a t.b v)) (int_lt p.y v.y)
      (λ e. lt_holds p.y v.y (apart (factor_positive (t.b.x -ℤ t.a.x) (v.y -ℤ p.y) wide (moved _ _ is (lt_tells (pos 0) (turn t.a t.b v) e)))))
      (λ e. lt_holds (pos 0) (turn t.a t.b v) (moved _ _ (sym is) (product_positive (t.b.x -ℤ t.a.x) (v.y -ℤ p.y) wide (gap (lt_tells p.y v.y e)))))
    where
      apart : pos 0 <ℤ (v.y -ℤ p.y) → p.y <ℤ v.y
      apart l = omega (arith, ints)

      gap : p.y <ℤ v.y → pos 0 <ℤ (v.y -ℤ p.y)
      gap l = omega (arith, ints)

      moved : (y z : ℤ) → y ≡ z → pos 0 <ℤ y → pos 0 <ℤ z
      moved y z e l = omega (arith, ints)

      risen : (y z m n : ℤ) → z -ℤ y ≡ m -ℤ n → y ≡ pos 0 → n ≡ pos 0 → z ≡ m
      risen y z m n e f g = omega (arith, ints)

      is : turn t.a t.b v ≡ (t.b.x -ℤ t.a.x) *ℤ (v.y -ℤ p.y)
      is = risen _ _ _ _ (turn_between t p v) flat (ap (λ z. (t.b.y -ℤ t.a.y) *ℤ z) (none _ _ here) ∙ *ℤ-zero (t.b.y -ℤ t.a.y))

  first_alone : {m n k p q : ℤ} → m ≡ p → n ≡ pos 0 → k ≡ pos 0 → q ≡ pos 0 → (m -ℤ n) +ℤ k ≡ p -ℤ q
  first_alone e f g h = omega (arith, ints)

  second_alone : {m n k p q : ℤ} → n ≡ q → m ≡ pos 0 → k ≡ pos 0 → p ≡ pos 0 → (m -ℤ n) +ℤ k ≡ p -ℤ q
  second_alone e f g h = omega (arith, ints)

  third_alone : {m n k d : ℤ} → m ≡ pos 0 → n ≡ pos 0 → k ≡ d → (m -ℤ n) +ℤ k ≡ d
  third_alone e f g = omega (arith, ints)

  right_of : v.x <ℤ t.a.x → Crosses
  right_of h =
      level_none (not_over v.x (not_live_unstarted v.x t h) ∙ sym (not_over (v.x -ℤ pos 1) (not_live_unstarted (v.x -ℤ pos 1) t (omega (arith, ints)))))
      (ap one (not_here (λ e. absurd (omega (arith, ints, rightward)))))
      (beside v t.a (λ e. absurd (omega (arith, ints))) ∙ sym (beside v t.b (λ e. absurd (omega (arith, ints, rightward)))))

  left_of : t.b.x <ℤ v.x → Crosses
  left_of h =
      level_none (not_over v.x (not_live_ended v.x t (omega (arith, ints))) ∙ sym (not_over (v.x -ℤ pos 1) (not_live_ended (v.x -ℤ pos 1) t (omega (arith, ints)))))
      (ap one (not_here (λ e. absurd (omega (arith, ints)))))
      (beside v t.a (λ e. absurd (omega (arith, ints, rightward))) ∙ sym (beside v t.b (λ e. absurd (omega (arith, ints)))))

  across : t.a.x <ℤ v.x → v.x <ℤ t.b.x → Crosses
  across h k =
      level_none (over v.x (omega (arith, ints), k) ∙ sym (over (v.x -ℤ pos 1) (omega (arith, ints), omega (arith, ints))))
      (ap one (not_here (λ e. absurd (omega (arith, ints)))))
      (beside v t.a (λ e. absurd (omega (arith, ints))) ∙ sym (beside v t.b (λ e. absurd (omega (arith, ints)))))

  started : t.a.x ≡ v.x → v.x <ℤ t.b.x → Crosses
  started h k =
      first_alone (over v.x (omega (arith, ints), k) ∙ (ap one (told t.a (turn_there_and_back t.a t.b) h (omega (arith, ints))) ∙ sym (straight v t.a h)))
      (not_over (v.x -ℤ pos 1) (not_live_unstarted (v.x -ℤ pos 1) t (omega (arith, ints))))
      (ap one (not_here (λ e. absurd (omega (arith, ints)))))
      (beside v t.b (λ e. absurd (omega (arith, ints))))

  ended : t.a.x <ℤ v.x → t.b.x ≡ v.x → Crosses
  ended h k =
      let live : IsLive (v.x -ℤ pos 1) t = (omega (arith, ints), omega (arith, ints)) in
      second_alone (over (v.x -ℤ pos 1) live ∙ (ap one (told t.b (turn_end_twice t.a t.b) k (omega (arith, ints))) ∙ sym (straight v t.b k)))
      (not_over v.x (not_live_ended v.x t (omega (arith, ints))))
      (ap one (and_right (is_eq (point_order t.b v)) (not (is_live (v.x -ℤ pos 1) t)) (ap not (live_holds (v.x -ℤ pos 1) t live))))
      (beside v t.a (λ e. absurd (omega (arith, ints))))

  standing : t.a.x ≡ v.x → t.b.x ≡ v.x → Crosses
  standing h k =
      third_alone (not_over v.x (not_live_ended v.x t (omega (arith, ints)))) (not_over (v.x -ℤ pos 1) unstarted)
      (by (point_order t.b v) refl ∙ sym (ap₂ (λ y z. y -ℤ z) (straight v t.a h) (straight v t.b k)))
    where
      unstarted : is_live (v.x -ℤ pos 1) t ≡ false
      unstarted = not_live_unstarted (v.x -ℤ pos 1) t (omega (arith, ints))

      risen : t.a.y <ℤ t.b.y
      risen = rising (h ∙ sym k)

      flat : turn t.a t.b v ≡ pos 0
      flat =
          level ((t.b.x -ℤ t.a.x) *ℤ (v.y -ℤ t.a.y)) ((t.b.y -ℤ t.a.y) *ℤ (v.x -ℤ t.a.x))
          (ap (λ z. z *ℤ (v.y -ℤ t.a.y)) (none _ _ (h ∙ sym k)) ∙ zero-*ℤ (v.y -ℤ t.a.y))
          (ap (λ z. (t.b.y -ℤ t.a.y) *ℤ z) (none _ _ h) ∙ *ℤ-zero (t.b.y -ℤ t.a.y))
        where
          level : (m n : ℤ) → m ≡ pos 0 → n ≡ pos 0 → m -ℤ n ≡ pos 0
          level m n e f = omega (arith, ints)

      lower_than : t.b.y <ℤ v.y → t.a.y <ℤ v.y
      lower_than l = omega (arith, ints, risen)

      low : point_order t.b v ≡ Less → t.b.y <ℤ v.y
      low e = by (point_less t.b v e)
        where
          by : (t.b.x <ℤ v.x) ⊎ ((t.b.x ≡ v.x) × (t.b.y <ℤ v.y)) → t.b.y <ℤ v.y
          by (inl l) = absurd (omega (arith, ints))
          by (inr l) = l.1

      high : point_order t.b v ≡ Greater → v.y <ℤ t.b.y
      high e = by (point_less v t.b (less_from_greater point_total t.b v e))
        where
          by : (v.x <ℤ t.b.x) ⊎ ((v.x ≡ t.b.x) × (v.y <ℤ t.b.y)) → v.y <ℤ t.b.y
          by (inl l) = absurd (omega (arith, ints))
          by (inr l) = l.1

      not_under : v.y <ℤ t.b.y → v.y ≤ℤ t.a.y
      not_under l =
          by_lt_z t.a.y v.y
          (λ m. absurd (false≢true (sym clear ∙ inside_from v t flat (before_of_order t.a v (point_less_by_y t.a v h m)) (before_of_order v t.b (point_less_by_y v t.b (sym k) l)))))
          (λ m. m)

      heights : (b c d e : Bool) → b ≡ d → c ≡ e → one d -ℤ one e ≡ one b -ℤ one c
      heights b c d e f g = rw (f, g) refl

      by : (o : Ordering) → point_order t.b v ≡ o → one (is_eq o && not (is_live (v.x -ℤ pos 1) t)) ≡ one (int_lt t.a.y v.y) -ℤ one (int_lt t.b.y v.y)
      by Less e = heights (int_lt t.a.y v.y) (int_lt t.b.y v.y) true true (lt_holds t.a.y v.y (lower_than (low e))) (lt_holds t.b.y v.y (low e))
      by Equal e =
          let y : t.b.y ≡ v.y = ap (λ p. p.y) (point_equal t.b v e) in
          ap (λ b. one (not b)) unstarted
          ∙ heights (int_lt t.a.y v.y) (int_lt t.b.y v.y) true false (lt_holds t.a.y v.y (omega (arith, ints, risen))) (lt_fails t.b.y v.y (omega (arith, ints)))
      by Greater e =
          heights (int_lt t.a.y v.y) (int_lt t.b.y v.y) false false (lt_fails t.a.y v.y (not_under (high e))) (lt_fails t.b.y v.y (weak (high e)))
        where
          weak : v.y <ℤ t.b.y → v.y ≤ℤ t.b.y
          weak l = omega (arith, ints)

  crosses : Crosses
  crosses =
      by_lt_z v.x t.a.x right_of
      (λ h. by_lt_z t.b.x v.x left_of
      (λ k. by_lt_z t.a.x v.x
      (λ l. by_lt_z v.x t.b.x (across l) (λ m. ended l (same t.b.x v.x m k)))
      (λ l. by_lt_z v.x t.b.x (started (same t.a.x v.x h l)) (λ m. standing (same t.a.x v.x h l) (same t.b.x v.x m k)))))
    where
      same : (y z : ℤ) → y ≤ℤ z → z ≤ℤ y → y ≡ z
      same y z l m = omega (arith, ints)

-- ---- the lower side of each

module _ (es : List (Entry Count)) (arranged : IsArrangement es) (e : Entry Count) (here : Contains es e) (v : Point) (ends : e.edge.b ≡ v) where
  -- no edge passes through v
  clear_of : (f : Entry Count) → Contains es f → strictly_inside v f.edge ≡ false
  clear_of f there = unless_same e.edge f.edge own others
    where
      own : e.edge ≡ f.edge → strictly_inside v f.edge ≡ false
      own same =
          and_right (int_eq (turn f.edge.a f.edge.b v) (pos 0)) (is_before f.edge.a v && is_before v f.edge.b)
          (and_right (is_before f.edge.a v) (is_before v f.edge.b) (ap is_lt (ap (λ p. point_order v p) (ap (λ s. s.b) (sym same) ∙ ends) ∙ point_itself v)))

      others : e.edge ≢ f.edge → strictly_inside v f.edge ≡ false
      others differ =
          ap (λ p. strictly_inside p f.edge) (sym ends)
          ∙ (parted_tells e.edge f.edge (All-contains (λ g. e.edge ≢ g.edge → parted e.edge g.edge ≡ true) es f (parted_from_others es arranged e here) there differ)).own_second

  -- what lies below v on its left is what lies below it on its right, and an edge that ends there from below
  moved_left : (n : Count → ℤ) → IsBalancedForAll n es → part n (left_below v) es ≡ part n (λ t. is_live v.x t && int_lt (pos 0) (turn t.a t.b v)) es +ℤ part n (stands_below v) es
  moved_left n balanced =
      settled _ _ _ (sym (total_sum (λ f. cond (is_live v.x f.edge && int_lt (pos 0) (turn f.edge.a f.edge.b v)) (n f.count) (pos 0) -ℤ cond (left_below v f.edge) (n f.count) (pos 0)) (λ f. cond (stands_below v f.edge) (n f.count) (pos 0)) es
      ∙ ap (λ z. z +ℤ part n (stands_below v) es) (total_difference (λ f. cond (is_live v.x f.edge && int_lt (pos 0) (turn f.edge.a f.edge.b v)) (n f.count) (pos 0)) (λ f. cond (left_below v f.edge) (n f.count) (pos 0)) es))
      ∙ (total_pointwise_on _ (λ f. n f.count *ℤ (straight_below v f.edge.a -ℤ straight_below v f.edge.b)) es each ∙ balanced (straight_below v)))
    where
      settled : (r l s : ℤ) → (r -ℤ l) +ℤ s ≡ pos 0 → l ≡ r +ℤ s
      settled r l s e = omega (arith, ints)

      weighed : (m : ℤ) (b c d : Bool) → (cond b m (pos 0) -ℤ cond c m (pos 0)) +ℤ cond d m (pos 0) ≡ m *ℤ ((one b -ℤ one c) +ℤ one d)
      weighed m true true true = omega (arith, ints)
      weighed m true true false = omega (arith, ints)
      weighed m true false true = omega (arith, ints)
      weighed m true false false = omega (arith, ints)
      weighed m false true true = omega (arith, ints)
      weighed m false true false = omega (arith, ints)
      weighed m false false true = omega (arith, ints)
      weighed m false false false = omega (arith, ints)

      each : All (λ f. (cond (is_live v.x f.edge && int_lt (pos 0) (turn f.edge.a f.edge.b v)) (n f.count) (pos 0) -ℤ cond (left_below v f.edge) (n f.count) (pos 0)) +ℤ cond (stands_below v f.edge) (n f.count) (pos 0) ≡ n f.count *ℤ (straight_below v f.edge.a -ℤ straight_below v f.edge.b)) es
      each i d l =
          let f : Entry Count = get_or es i d in
          weighed (n f.count) (is_live v.x f.edge && int_lt (pos 0) (turn f.edge.a f.edge.b v)) (left_below v f.edge) (stands_below v f.edge)
          ∙ ap (λ z. n f.count *ℤ z) (crosses v f.edge (directed_entry es arranged f (All-contains_itself es i d l)) (clear_of f (All-contains_itself es i d l)))

  right_of_v : winding es (whole v) ≡ sum_of (λ t. is_live v.x t && int_lt (pos 0) (turn t.a t.b v)) es
  right_of_v = sums_agree (λ t. is_below t.a t.b (whole v)) (λ t. is_live v.x t && int_lt (pos 0) (turn t.a t.b v)) es (λ i d l. below_whole v (get_or es i d).edge)

  -- the edges that end at v to the left of e, vertical or not
  parts_at_end : e.edge.a.x <ℤ v.x → (t : Edge) → is_before t.a t.b ≡ true → Parts (end_fan v e.edge t) (is_live (v.x -ℤ pos 1) t && end_fan v e.edge t) (stands_below v t)
  parts_at_end left t directed = live_or_not (cases_Bool (is_live (v.x -ℤ pos 1) t))
    where
      turned : t.b ≡ v → is_live (v.x -ℤ pos 1) t ≡ false → pos 0 <ℤ turn v e.edge.a t.a
      turned h unstarted = by (point_less t.a t.b (before_is_less t.a t.b directed))
        where
          x : t.b.x ≡ v.x
          x = ap (λ p. p.x) h

          y : t.b.y ≡ v.y
          y = ap (λ p. p.y) h

          by : (t.a.x <ℤ t.b.x) ⊎ ((t.a.x ≡ t.b.x) × (t.a.y <ℤ t.b.y)) → pos 0 <ℤ turn v e.edge.a t.a
          by (inl k) = absurd (false≢true (sym unstarted ∙ live_holds (v.x -ℤ pos 1) t (omega (arith, ints, x), omega (arith, ints, x))))
          by (inr k) =
              over ((e.edge.a.x -ℤ v.x) *ℤ (t.a.y -ℤ v.y)) ((e.edge.a.y -ℤ v.y) *ℤ (t.a.x -ℤ v.x))
              (product_of_negatives (e.edge.a.x -ℤ v.x) (t.a.y -ℤ v.y) (omega (arith, ints)) (omega (arith, ints, y)))
              (ap (λ z. (e.edge.a.y -ℤ v.y) *ℤ z) (none _ _ (sym (k.0 ∙ x))) ∙ *ℤ-zero (e.edge.a.y -ℤ v.y))
            where
              over : (m n : ℤ) → pos 0 <ℤ m → n ≡ pos 0 → pos 0 <ℤ (m -ℤ n)
              over m n l f = omega (arith, ints)

      at_end : is_live (v.x -ℤ pos 1) t ≡ false → (o : Ordering) → point_order t.b v ≡ o → is_eq o && int_lt (pos 0) (turn v e.edge.a t.a) ≡ is_eq o && not (is_live (v.x -ℤ pos 1) t)
      at_end l Less h = refl
      at_end l Equal h = lt_holds (pos 0) (turn v e.edge.a t.a) (turned (point_equal t.b v h) l) ∙ sym (ap not l)
      at_end l Greater h = refl

      live_or_not : (is_live (v.x -ℤ pos 1) t ≡ true) ⊎ (is_live (v.x -ℤ pos 1) t ≡ false) → Parts (end_fan v e.edge t) (is_live (v.x -ℤ pos 1) t && end_fan v e.edge t) (stands_below v t)
      live_or_not (inl l) = first (and_right (is_eq (point_order t.b v)) (not (is_live (v.x -ℤ pos 1) t)) (ap not l)) (sym (ap (λ b. b && end_fan v e.edge t) l))
      live_or_not (inr l) = second (and_first (is_live (v.x -ℤ pos 1) t) (end_fan v e.edge t) l) (at_end l (point_order t.b v) refl)

  -- the lower side of an edge that ends at v: what lies below v, and the edges that end there to its left
  pub lower_in_end_fan : lower_side es e.edge ≡ boolean.join (winding es (whole v)) (sum_of (end_fan v e.edge) es)
  lower_in_end_fan = by (point_less e.edge.a e.edge.b (before_is_less e.edge.a e.edge.b (directed_entry es arranged e here))) ∙ ap (λ w. boolean.join w (sum_of (end_fan v e.edge) es)) (sym right_of_v)
    where
      by :
          (e.edge.a.x <ℤ e.edge.b.x) ⊎ ((e.edge.a.x ≡ e.edge.b.x) × (e.edge.a.y <ℤ e.edge.b.y)) →
          lower_side es e.edge ≡ boolean.join (sum_of (λ t. is_live v.x t && int_lt (pos 0) (turn t.a t.b v)) es) (sum_of (end_fan v e.edge) es)
      by (inl wide) =
          lower_is_below es arranged e here (v.x -ℤ pos 1) (live (ap (λ p. p.x) ends))
          ∙ (sum_of_parts (under (v.x -ℤ pos 1) e.edge) (left_below v) (λ t. is_live (v.x -ℤ pos 1) t && end_fan v e.edge t) es
          (λ i d l. parts_before e.edge (get_or es i d).edge v ends (parted_from_others es arranged e here i d l) (live (ap (λ p. p.x) ends)))
          ∙ same_count _ (boolean.join (sum_of (λ t. is_live v.x t && int_lt (pos 0) (turn t.a t.b v)) es) (sum_of (end_fan v e.edge) es))
          (regrouped _ _ _ _ _ (moved_left (λ c. c.subject) (balanced_subject es arranged.balanced)) (ap (λ c. c.subject) ends_apart))
          (regrouped _ _ _ _ _ (moved_left (λ c. c.clip) (balanced_clip es arranged.balanced)) (ap (λ c. c.clip) ends_apart)))
        where
          live : e.edge.b.x ≡ v.x → IsLive (v.x -ℤ pos 1) e.edge
          live f = (omega (arith, ints), omega (arith, ints))

          left : e.edge.b.x ≡ v.x → e.edge.a.x <ℤ v.x
          left f = omega (arith, ints)

          ends_apart : sum_of (end_fan v e.edge) es ≡ boolean.join (sum_of (λ t. is_live (v.x -ℤ pos 1) t && end_fan v e.edge t) es) (sum_of (stands_below v) es)
          ends_apart =
              sum_of_parts (end_fan v e.edge) (λ t. is_live (v.x -ℤ pos 1) t && end_fan v e.edge t) (stands_below v) es
              (λ i d l. parts_at_end (left (ap (λ p. p.x) ends)) (get_or es i d).edge (directed_entry es arranged (get_or es i d) (All-contains_itself es i d l)))

          regrouped : (l r s k m : ℤ) → l ≡ r +ℤ s → m ≡ k +ℤ s → l +ℤ k ≡ r +ℤ m
          regrouped l r s k m f g = omega (arith, ints)
      by (inr h) =
          lower_vertical es arranged e here h.0
          ∙ (sums_agree (λ t. is_live e.edge.a.x t && int_le (pos 0) (turn t.a t.b e.edge.a)) (λ t. is_live v.x t && int_lt (pos 0) (turn t.a t.b v)) es
          (λ i d l. through_or_below e.edge (get_or es i d).edge v ends (directed_entry es arranged e here) h.0 h.1 (parted_from_others es arranged e here i d l))
          ∙ same_count (sum_of (λ t. is_live v.x t && int_lt (pos 0) (turn t.a t.b v)) es) (boolean.join (sum_of (λ t. is_live v.x t && int_lt (pos 0) (turn t.a t.b v)) es) (sum_of (end_fan v e.edge) es))
          (alone _ _ (no_more (λ c. c.subject))) (alone _ _ (no_more (λ c. c.clip))))
        where
          alone : (y z : ℤ) → z ≡ pos 0 → y ≡ y +ℤ z
          alone y z f = omega (arith, ints)

          no_more : (n : Count → ℤ) → part n (end_fan v e.edge) es ≡ pos 0
          no_more n =
              total_zero_on (λ f. cond (end_fan v e.edge f.edge) (n f.count) (pos 0)) es
              (λ i d l. ap (λ b. cond b (n (get_or es i d).count) (pos 0))
              (none_after_vertical e.edge (get_or es i d).edge v ends (directed_entry es arranged e here) h.0 h.1 (directed_entry es arranged (get_or es i d) (All-contains_itself es i d l))))

  -- what lies to the right of a vertical edge that ends at v lies below v
  pub right_of_vertical : e.edge.a.x ≡ e.edge.b.x → lower_side es e.edge ≡ winding es (whole v)
  right_of_vertical vertical = by (point_less e.edge.a e.edge.b (before_is_less e.edge.a e.edge.b (directed_entry es arranged e here)))
    where
      by : (e.edge.a.x <ℤ e.edge.b.x) ⊎ ((e.edge.a.x ≡ e.edge.b.x) × (e.edge.a.y <ℤ e.edge.b.y)) → lower_side es e.edge ≡ winding es (whole v)
      by (inl wide) = absurd (omega (arith, ints, wide, vertical))
      by (inr h) =
          lower_vertical es arranged e here h.0
          ∙ (sums_agree (λ t. is_live e.edge.a.x t && int_le (pos 0) (turn t.a t.b e.edge.a)) (λ t. is_live v.x t && int_lt (pos 0) (turn t.a t.b v)) es
          (λ i d l. through_or_below e.edge (get_or es i d).edge v ends (directed_entry es arranged e here) h.0 h.1 (parted_from_others es arranged e here i d l))
          ∙ sym right_of_v)
