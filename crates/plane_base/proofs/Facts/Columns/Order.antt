-- The order at a column is a strict total one among parted segments that are live there, and says which passes below.
--
-- Above, cite `order_is_place` and `order_is_lawful`.
use Rattle.std.proofs.Common.{◌≡◌, ◌≢◌, ℕ, ◌<◌, Bool, true, false, ℤ, pos, ◌+ℤ◌, ◌-ℤ◌, ◌*ℤ◌, neg_ℤ, ◌≤ℤ◌, ◌<ℤ◌, ◌⊎◌, inl, inr, ⊎_elim, refl, sym, ap, ◌∙◌, arith}
use Rattle.std.specs.declared.cmp.Ordering.{Ordering}
use Rattle.std.specs.declared.cmp.Ordering.TheVariants.{Less, Equal, Greater}
use Rattle.std.specs.Ordering.{is_lt, int_cmp, int_eq, ordering_reverse, MatchOrdering}
use Rattle.std.specs.Cmp.{int_ranks, int_cmp_is, int_cmp_total}
use Rattle.std.proofs.lemmas.Int.{ints, by_lt_z}
use Rattle.std.proofs.Math.IntN.{*ℤ-zero}
use Rattle.std.proofs.lemmas.Bool.{false≢true}
use Rattle.std.proofs.lemmas.Bool.Decides.{Decides-int_eq}
use Rattle.plane_base.specs.Plane.{Point, Edge, turn, is_before, point_order}
use Rattle.plane_base.specs.Segments.{strictly_inside, parted, lift, order_against, angle_order, column_order}
use Rattle.plane_base.specs.ColumnLaws.{IsLive, OrderIsPlace, OrderIsLawful}
use Rattle.plane_base.proofs.Facts.Numbers.Products.{product_of_negation, product_positive, product_not_negative, product_monotone, factor_positive, factor_not_negative}
use Rattle.plane_base.proofs.Facts.Points.Turns.{width, lift_swap, lift_itself, lift_transitive, lift_affine, lift_at_first, lift_at_second, lift_at_third, turn_swap_last, turn_cyclic, turn_start_twice}
use Rattle.plane_base.proofs.Facts.Points.Orders.{is_less, point_total, point_equal, point_less_x, point_less_by_x, less_from_greater, int_less, int_equal}
use Rattle.plane_base.proofs.Facts.Crossings.Parted.{AreParted, parted_tells, parted_swapped}
use Rattle.plane_base.proofs.Facts.Columns.Comparison.{rising, not_falling, no_fall}

abbrev by_start : Edge → Edge → Ordering → Ordering
by_start s t o = elim o [ Less ↦ order_against s t.a | Equal ↦ angle_order s t | Greater ↦ int_cmp (turn t.a t.b s.a) (pos 0) ]

-- ---- the starts

starts_right : (p q : Point) → point_order p q ≡ Greater → point_order q p ≡ Less
starts_right = less_from_greater point_total

pub before_of_order : (p q : Point) → point_order p q ≡ Less → is_before p q ≡ true
before_of_order p q e = ap is_lt e

before_of_x : (p q : Point) → p.x <ℤ q.x → is_before p q ≡ true
before_of_x p q h = before_of_order p q (point_less_by_x p q h)

pub same_edge : (s t : Edge) → s.a ≡ t.a → s.b ≡ t.b → s ≡ t
same_edge s t e f = λ i. record { a = e i; b = f i }

back_to_start : (a b : Point) → turn a b a ≡ pos 0
back_to_start a b = turn_cyclic a b a ∙ (turn_cyclic b a a ∙ turn_start_twice a b)

-- ---- what `Less` says: a place at which t is above, or one start and t to the left

pub record IsAbove (s t : Edge) (x : ℤ) : Type 0 where
  pub place : ℤ
  pub reached : place ≤ℤ x
  pub after_s : s.a.x ≤ℤ place
  pub after_t : t.a.x ≤ℤ place
  pub above : pos 0 <ℤ lift t s place (pos 1)

pub record IsLeft (s t : Edge) : Type 0 where
  pub together : s.a ≡ t.a
  pub left : pos 0 <ℤ turn s.a s.b t.b

less_is : (s t : Edge) (x : ℤ) → IsLive x s → IsLive x t → column_order s t ≡ Less → IsAbove s t x ⊎ IsLeft s t
less_is s t x h k = by (point_order s.a t.a) refl
  where
    wide_s : pos 0 <ℤ width s.a s.b
    wide_s = omega (arith, ints, h.0, h.1)

    wide_t : pos 0 <ℤ width t.a t.b
    wide_t = omega (arith, ints, k.0, k.1)

    turned : (w o : ℤ) {y : ℤ} → y ≡ w *ℤ o → pos 0 <ℤ w → pos 0 <ℤ o → pos 0 <ℤ y
    turned w o e l m = rw e (product_positive w o l m)

    turned_back : (w o : ℤ) {y : ℤ} → y ≡ neg_ℤ (w *ℤ o) → pos 0 <ℤ w → o <ℤ pos 0 → pos 0 <ℤ y
    turned_back w o e l m = rw (e ∙ sym (product_of_negation w o)) (product_positive w (neg_ℤ o) l (omega (arith, ints, m)))

    by : (o : Ordering) → point_order s.a t.a ≡ o → by_start s t o ≡ Less → IsAbove s t x ⊎ IsLeft s t
    by Less e f = inl (record {
      place = t.a.x;
      reached = k.0;
      after_s = point_less_x s.a t.a e;
      after_t = omega (arith, ints);
      above = turned _ _ (lift_at_first t.a t.b s.a s.b) wide_t (int_less (pos 0) (turn s.a s.b t.a) f);
    })
    by Equal e f = inr (record { together = point_equal s.a t.a e; left = int_less (pos 0) (turn s.a s.b t.b) f })
    by Greater e f = inl (record {
      place = s.a.x;
      reached = h.0;
      after_s = omega (arith, ints);
      after_t = point_less_x t.a s.a (starts_right s.a t.a e);
      above = turned_back _ _ (lift_at_third t.a t.b s.a s.b) wide_s (int_less (turn t.a t.b s.a) (pos 0) f);
    })

-- ---- it holds all along the column

not_below : (s t : Edge) (x : ℤ) → parted s t ≡ true → IsLive x s → IsLive x t → (h : IsAbove s t x) → pos 0 ≤ℤ lift t s (x +ℤ pos 1) (pos 1)
not_below s t x e hs ht h =
    by_lt_z (lift t s (x +ℤ pos 1) (pos 1)) (pos 0)
    (λ l. absurd (false≢true (sym (parted_tells s t e).not_proper ∙ no_fall s t h.place (x +ℤ pos 1) h.after_s h.after_t (omega (arith, ints, h.reached)) (omega (arith, ints, hs.1)) (omega (arith, ints, ht.1)) h.above l)))
    (λ l. l)

above_all : (s t : Edge) (x z : ℤ) (q : ℕ) → parted s t ≡ true → IsLive x s → IsLive x t → 0 < q → (pos q *ℤ x) ≤ℤ z → z <ℤ (pos q *ℤ (x +ℤ pos 1)) → IsAbove s t x → pos 0 <ℤ lift t s z (pos q)
above_all s t x z q e hs ht some from to h =
    rising s t h.place (x +ℤ pos 1) z q some (chain _ _ _ (product_monotone (pos q) h.place x (omega (arith, ints)) h.reached) from) to h.above (not_below s t x e hs ht h)
  where
    chain : (x y z : ℤ) → x ≤ℤ y → y ≤ℤ z → x ≤ℤ z
    chain x y z l m = omega (arith, ints)

above_weak : (s t : Edge) (x z : ℤ) (q : ℕ) → parted s t ≡ true → IsLive x s → IsLive x t → (pos q *ℤ x) ≤ℤ z → z ≤ℤ (pos q *ℤ (x +ℤ pos 1)) → IsAbove s t x → pos 0 ≤ℤ lift t s z (pos q)
above_weak s t x z q e hs ht from to h =
    not_falling s t h.place (x +ℤ pos 1) z q (omega (arith, ints, h.reached)) (chain _ _ _ (product_monotone (pos q) h.place x (omega (arith, ints)) h.reached) from) to (weak _ h.above) (not_below s t x e hs ht h)
  where
    chain : (x y z : ℤ) → x ≤ℤ y → y ≤ℤ z → x ≤ℤ z
    chain x y z l m = omega (arith, ints)

    weak : (x : ℤ) → pos 0 <ℤ x → pos 0 ≤ℤ x
    weak x h = omega (arith, ints)

-- from one start t leaves s to the left
module _ (s t : Edge) (x z : ℤ) (q : ℕ) (ht : IsLive x t) (some : 0 < q) (h : IsLeft s t) where
  wide : pos 0 <ℤ width t.a t.b
  wide = omega (arith, ints, ht.0, ht.1)

  level : lift t s t.a.x (pos 1) ≡ pos 0
  level = lift_at_first t.a t.b s.a s.b ∙ (ap (λ o. width t.a t.b *ℤ o) start ∙ *ℤ-zero (width t.a t.b))
    where
      start : turn s.a s.b t.a ≡ pos 0
      start = rw (← h.together) (back_to_start s.a s.b)

  high : pos 0 <ℤ lift t s t.b.x (pos 1)
  high = rw (lift_at_second t.a t.b s.a s.b) (product_positive (width t.a t.b) (turn s.a s.b t.b) wide h.left)

  fan : width t.a t.b *ℤ lift t s z (pos q) ≡ (z -ℤ (pos q *ℤ t.a.x)) *ℤ lift t s t.b.x (pos 1)
  fan = lift_affine t.a t.b s.a s.b z (pos q) t.a.x t.b.x ∙ dropped _ _ _ level
    where
      dropped : (a b y : ℤ) → y ≡ pos 0 → (a *ℤ y) +ℤ b ≡ b
      dropped a b y e = rw (e, *ℤ-zero a) (zero_before b)
        where
          zero_before : (b : ℤ) → pos 0 +ℤ b ≡ b
          zero_before b = omega (arith, ints)

  left_weak : (pos q *ℤ x) ≤ℤ z → pos 0 ≤ℤ lift t s z (pos q)
  left_weak from =
      factor_not_negative (width t.a t.b) (lift t s z (pos q)) wide
      (rw fan (product_not_negative (z -ℤ (pos q *ℤ t.a.x)) (lift t s t.b.x (pos 1)) (gap _ _ _ (product_monotone (pos q) t.a.x x (omega (arith, ints)) ht.0) from) (weak _ high)))
    where
      gap : (x y z : ℤ) → x ≤ℤ y → y ≤ℤ z → pos 0 ≤ℤ (z -ℤ x)
      gap x y z l m = omega (arith, ints)

      weak : (x : ℤ) → pos 0 <ℤ x → pos 0 ≤ℤ x
      weak x h = omega (arith, ints)

  left_strict : (pos q *ℤ x) <ℤ z → pos 0 <ℤ lift t s z (pos q)
  left_strict from =
      factor_positive (width t.a t.b) (lift t s z (pos q)) wide
      (rw fan (product_positive (z -ℤ (pos q *ℤ t.a.x)) (lift t s t.b.x (pos 1)) (gap _ _ _ (product_monotone (pos q) t.a.x x (omega (arith, ints)) ht.0) from) high))
    where
      gap : (x y z : ℤ) → x ≤ℤ y → y <ℤ z → pos 0 <ℤ (z -ℤ x)
      gap x y z l m = omega (arith, ints)

pub order_is_place : OrderIsPlace
order_is_place = record {
  nowhere_above = λ s t x z q e hs ht some from to h. ⊎_elim (λ a. above_weak s t x z q e hs ht from to a) (λ l. left_weak s t x z q ht some l from) (less_is s t x hs ht h);
  strictly_below = λ s t x z q e hs ht some from to h. ⊎_elim (λ a. above_all s t x z q e hs ht some (weakened _ _ from) to a) (λ l. left_strict s t x z q ht some l from) (less_is s t x hs ht h);
}
  where
    weakened : (x y : ℤ) → x <ℤ y → x ≤ℤ y
    weakened x y h = omega (arith, ints)

-- ---- lawful

order_reversed : (s t : Edge) → column_order t s ≡ ordering_reverse (column_order s t)
order_reversed s t = by (point_order s.a t.a) (point_order t.a s.a) refl (point_total.antisymm t.a s.a)
  where
    negated : (z : ℤ) → int_cmp (pos 0) (neg_ℤ z) ≡ int_cmp z (pos 0)
    negated z = sym (int_cmp_is (pos 0) (neg_ℤ z) (int_cmp z (pos 0)) (turned (int_cmp z (pos 0)) (int_ranks z (pos 0))))
      where
        turned : (o : Ordering) → MatchOrdering o (z <ℤ pos 0) (z ≡ pos 0) (pos 0 <ℤ z) → MatchOrdering o (pos 0 <ℤ neg_ℤ z) (pos 0 ≡ neg_ℤ z) (neg_ℤ z <ℤ pos 0)
        turned Less h = omega (arith, ints)
        turned Equal h = omega (arith, ints)
        turned Greater h = omega (arith, ints)

    together : s.a ≡ t.a → turn t.a t.b s.b ≡ neg_ℤ (turn s.a s.b t.b)
    together e = rw (← e) (turn_swap_last s.a t.b s.b)

    by : (o r : Ordering) → point_order s.a t.a ≡ o → r ≡ ordering_reverse o → by_start t s r ≡ ordering_reverse (by_start s t o)
    by Less r e f = rw f (int_cmp_total.antisymm (turn s.a s.b t.a) (pos 0))
    by Equal r e f = rw (f, together (point_equal s.a t.a e), negated (turn s.a s.b t.b)) (int_cmp_total.antisymm (turn s.a s.b t.b) (pos 0))
    by Greater r e f = rw f (int_cmp_total.antisymm (pos 0) (turn t.a t.b s.a))

pub inside_from : (p : Point) (s : Edge) → turn s.a s.b p ≡ pos 0 → is_before s.a p ≡ true → is_before p s.b ≡ true → strictly_inside p s ≡ true
inside_from p s e f g = let h : int_eq (turn s.a s.b p) (pos 0) ≡ true = (Decides-int_eq (turn s.a s.b p) (pos 0)).1 e in rw (h, f, g) refl

order_decided : (s t : Edge) (x : ℤ) → parted s t ≡ true → IsLive x s → IsLive x t → s ≢ t → column_order s t ≢ Equal
order_decided s t x e hs ht differ = by (point_order s.a t.a) refl
  where
    parts : AreParted s t
    parts = parted_tells s t e

    clash : {b : Bool} → b ≡ false → b ≡ true → ⊥
    clash f g = false≢true (sym f ∙ g)

    level : turn s.a s.b t.b ≡ pos 0 → s.a ≡ t.a → turn t.a t.b s.b ≡ pos 0
    level f g = rw (← g, turn_swap_last s.a t.b s.b, f) refl

    ends : s.a ≡ t.a → turn s.a s.b t.b ≡ pos 0 → (o : Ordering) → point_order t.b s.b ≡ o → ⊥
    ends g f Less h = clash parts.second_end (inside_from t.b s f (before_of_x s.a t.b (omega (arith, ints, hs.0, ht.1))) (before_of_order t.b s.b h))
    ends g f Equal h = differ (same_edge s t g (sym (point_equal t.b s.b h)))
    ends g f Greater h = clash parts.own_second (inside_from s.b t (level f g) (before_of_x t.a s.b (omega (arith, ints, ht.0, hs.1))) (before_of_order s.b t.b (starts_right t.b s.b h)))

    by : (o : Ordering) → point_order s.a t.a ≡ o → by_start s t o ≢ Equal
    by Less g h = clash parts.first_end (inside_from t.a s (sym (int_equal (pos 0) (turn s.a s.b t.a) h)) (before_of_order s.a t.a g) (before_of_x t.a s.b (omega (arith, ints, ht.0, hs.1))))
    by Equal g h = ends (point_equal s.a t.a g) (sym (int_equal (pos 0) (turn s.a s.b t.b) h)) (point_order t.b s.b) refl
    by Greater g h = clash parts.own_first (inside_from s.a t (int_equal (turn t.a t.b s.a) (pos 0) h) (before_of_order t.a s.a (starts_right s.a t.a g)) (before_of_x s.a t.b (omega (arith, ints, hs.0, ht.1))))

-- in the middle of the column
middle : (s t : Edge) (x : ℤ) → parted s t ≡ true → IsLive x s → IsLive x t → column_order s t ≡ Less → pos 0 <ℤ lift t s ((pos 2 *ℤ x) +ℤ pos 1) (pos 2)
middle s t x e hs ht h = order_is_place.strictly_below s t x ((pos 2 *ℤ x) +ℤ pos 1) 2 e hs ht (omega arith) (omega (arith, ints)) (omega (arith, ints)) h

order_through : (s t u : Edge) (x : ℤ) → parted s t ≡ true → parted t u ≡ true → (s ≢ u → parted s u ≡ true) → IsLive x s → IsLive x t → IsLive x u → column_order s t ≡ Less → column_order t u ≡ Less → column_order s u ≡ Less
order_through s t u x st tu su hs ht hu first second = by (column_order s u) refl
  where
    z : ℤ
    z = (pos 2 *ℤ x) +ℤ pos 1

    sum : (x y z : ℤ) → x +ℤ y ≡ z → pos 0 <ℤ x → pos 0 <ℤ y → pos 0 <ℤ z
    sum x y z e h k = omega (arith, ints)

    above : pos 0 <ℤ lift u s z (pos 2)
    above =
        factor_positive (width t.a t.b) (lift u s z (pos 2)) (omega (arith, ints, ht.0, ht.1))
        (sum _ _ _ (lift_transitive s.a s.b t.a t.b u.a u.b z (pos 2))
        (product_positive (width u.a u.b) (lift t s z (pos 2)) (omega (arith, ints, hu.0, hu.1)) (middle s t x st hs ht first))
        (product_positive (width s.a s.b) (lift u t z (pos 2)) (omega (arith, ints, hs.0, hs.1)) (middle t u x tu ht hu second)))

    none : (y : ℤ) → pos 0 <ℤ y → y ≡ pos 0 → ⊥
    none y h e = absurd (omega (arith, ints))

    differ : s ≢ u
    differ e = none (lift u s z (pos 2)) above (rw e (lift_itself u.a u.b z (pos 2)))

    opposed : (x y : ℤ) → x ≡ neg_ℤ y → pos 0 <ℤ x → pos 0 <ℤ y → ⊥
    opposed x y e h k = absurd (omega (arith, ints))

    by : (o : Ordering) → column_order s u ≡ o → o ≡ Less
    by Less e = refl
    by Equal e = absurd (order_decided s u x (su differ) hs hu differ e)
    by Greater e =
        absurd (opposed (lift u s z (pos 2)) (lift s u z (pos 2)) (lift_swap u.a u.b s.a s.b z (pos 2)) above
        (middle u s x (parted_swapped s u (su differ)) hu hs (order_reversed s u ∙ rw e refl)))

pub order_is_lawful : OrderIsLawful
order_is_lawful = record {
  precedes_is = λ s t. ((λ e. is_less (column_order s t) e), (λ e. ap is_lt e));
  reversed = order_reversed;
  decided = order_decided;
  through = order_through;
}
