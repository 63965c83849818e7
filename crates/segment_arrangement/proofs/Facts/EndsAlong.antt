-- Where the ends of other segments lie, seen from a segment that is parted from them.
use Rattle.std.proofs.Common.{◌≡◌, ◌≢◌, true, false, ℤ, pos, ◌-ℤ◌, ◌*ℤ◌, neg_ℤ, ◌≤ℤ◌, ◌<ℤ◌, int_lt, [], ◌∷◌, ◌⊎◌, inl, inr, refl, sym, ap, ◌∙◌, arith}
use Rattle.std.specs.declared.cmp.Ordering.{Ordering}
use Rattle.std.specs.declared.cmp.Ordering.TheVariants.{Less, Equal, Greater}
use Rattle.std.specs.Ordering.{is_lt, int_cmp, MatchOrdering}
use Rattle.std.specs.Cmp.{int_ranks}
use Rattle.std.proofs.lemmas.Int.{ints, by_lt_z}
use Rattle.std.proofs.lemmas.Bool.{false≢true}
use Rattle.std.proofs.Math.IntN.{*ℤ_comm, zero-*ℤ}
use Rattle.plane_base.specs.Plane.{Point, Edge, turn, is_before, point_order}
use Rattle.plane_base.specs.Segments.{strictly_inside, opposite, cross_properly, parted, order_against, angle_order, column_order, precedes}
use Rattle.plane_base.specs.ColumnLaws.{IsLive}
use Rattle.plane_base.proofs.Facts.Numbers.Products.{product_positive, product_negative, factor_not_negative}
use Rattle.plane_base.proofs.Facts.Numbers.Polynomials.{var, minus, times, by_ring}
use Rattle.plane_base.proofs.Facts.Points.Turns.{width, coordinates, place, a_turn, lift_at_second, lift_at_fourth, turn_end_twice}
use Rattle.plane_base.proofs.Facts.Points.Orders.{is_less, int_less, int_cmp_less, point_total, point_less, point_less_by_x, point_itself, before_is_less, greater_from_less}
use Rattle.plane_base.proofs.Facts.Crossings.Parted.{AreParted, parted_tells, parted_swapped}
use Rattle.plane_base.proofs.Facts.Columns.Comparison.{opposite_up, opposite_down}
use Rattle.plane_base.proofs.Facts.Columns.Order.{inside_from, before_of_order, order_is_place, order_is_lawful}
use Rattle.segment_arrangement.proofs.Facts.ColumnPlaces.{same_tests, lt_holds, lt_fails, lt_tells}

pub is_lt_cmp : (x y : ℤ) → is_lt (int_cmp x y) ≡ int_lt x y
is_lt_cmp x y = same_tests (is_lt (int_cmp x y)) (int_lt x y) (λ e. lt_holds x y (int_less x y (is_less (int_cmp x y) e))) (λ e. ap is_lt (int_cmp_less x y (lt_tells x y e)))

abbrev pub by_start : Edge → Edge → Ordering → Ordering
by_start s t o = elim o [ Less ↦ order_against s t.a | Equal ↦ angle_order s t | Greater ↦ int_cmp (turn t.a t.b s.a) (pos 0) ]

-- ---- a segment that starts later is held against the other by its start

pub precedes_by_start : (g k : Edge) → point_order k.a g.a ≡ Less → precedes g k ≡ int_lt (turn k.a k.b g.a) (pos 0)
precedes_by_start g k e = ap (λ o. is_lt (by_start g k o)) (greater_from_less point_total k.a g.a e) ∙ is_lt_cmp (turn k.a k.b g.a) (pos 0)

pub precedes_by_other_start : (g k : Edge) → point_order g.a k.a ≡ Less → precedes g k ≡ int_lt (pos 0) (turn g.a g.b k.a)
precedes_by_other_start g k e = ap (λ o. is_lt (by_start g k o)) e ∙ is_lt_cmp (pos 0) (turn g.a g.b k.a)

pub precedes_by_angle : (g k : Edge) → g.a ≡ k.a → precedes g k ≡ int_lt (pos 0) (turn g.a g.b k.b)
precedes_by_angle g k e = ap (λ o. is_lt (by_start g k o)) (together g.a k.a e) ∙ is_lt_cmp (pos 0) (turn g.a g.b k.b)
  where
    together : (p q : Point) → p ≡ q → point_order p q ≡ Equal
    together p q e = ap (λ z. point_order p z) (sym e) ∙ point_itself p

pub precedes_itself : (s : Edge) → precedes s s ≡ false
precedes_itself s = precedes_by_angle s s refl ∙ rw (turn_end_twice s.a s.b) refl

-- ---- an end over the inner part of a segment

module _ (k : Edge) (p : Point) (from : k.a.x <ℤ p.x) (to : p.x <ℤ k.b.x) where
  pub off_line : strictly_inside p k ≡ false → turn k.a k.b p ≢ pos 0
  off_line e flat =
      false≢true (sym e ∙ inside_from p k flat (before_of_order k.a p (point_less_by_x k.a p from)) (before_of_order p k.b (point_less_by_x p k.b to)))

module _ (g k : Edge) (e : parted k g ≡ true) where
  parts : AreParted k g
  parts = parted_tells k g e

  -- the second end tells the order just before it
  pub precedes_by_end : g.a.x <ℤ g.b.x → k.a.x <ℤ g.b.x → g.b.x <ℤ k.b.x → precedes g k ≡ int_lt (turn k.a k.b g.b) (pos 0)
  precedes_by_end wide from to = by (column_order g k) refl
    where
      x : ℤ
      x = g.b.x -ℤ pos 1

      hg : IsLive x g
      hg = (omega (arith, ints), omega (arith, ints))

      hk : IsLive x k
      hk = (omega (arith, ints), omega (arith, ints))

      off : turn k.a k.b g.b ≢ pos 0
      off = off_line k g.b from to parts.second_end

      differ : g ≢ k
      differ h = let h' : g.b.x ≡ k.b.x = ap (λ s. s.b.x) h in absurd (omega (arith, ints))

      wide_g : pos 0 <ℤ width g.a g.b
      wide_g = omega (arith, ints)

      under : (w o d : ℤ) → d ≡ neg_ℤ (w *ℤ o) → pos 0 <ℤ w → pos 0 ≤ℤ d → o ≢ pos 0 → o <ℤ pos 0
      under w o d f some h other = by_lt_z o (pos 0) (λ l. l) (λ l. above (w *ℤ o) (positive l))
        where
          positive : pos 0 ≤ℤ o → pos 0 <ℤ (w *ℤ o)
          positive l = product_positive w o some (by_lt_z (pos 0) o (λ m. m) (λ m. absurd (other (omega (arith, ints)))))

          above : (y : ℤ) → pos 0 <ℤ (w *ℤ o) → o <ℤ pos 0
          above y m = absurd (clash d (w *ℤ o) f h m)
            where
              clash : (d y : ℤ) → d ≡ neg_ℤ y → pos 0 ≤ℤ d → pos 0 <ℤ y → ⊥
              clash d y f h m = absurd (omega (arith, ints))

      over : (w o d : ℤ) → d ≡ w *ℤ o → pos 0 <ℤ w → pos 0 ≤ℤ d → pos 0 ≤ℤ o
      over w o d f some h = factor_not_negative w o some (rw f at h)

      by : (o : Ordering) → column_order g k ≡ o → is_lt o ≡ int_lt (turn k.a k.b g.b) (pos 0)
      by Less f =
          sym (lt_holds (turn k.a k.b g.b) (pos 0)
          (under (width g.a g.b) (turn k.a k.b g.b) _ (lift_at_fourth k.a k.b g.a g.b) wide_g
          (order_is_place.nowhere_above g k x g.b.x 1 (parted_swapped k g e) hg hk (omega arith) (omega (arith, ints)) (omega (arith, ints)) f) off))
      by Equal f = absurd (order_is_lawful.decided g k x (parted_swapped k g e) hg hk differ f)
      by Greater f =
          sym (lt_fails (turn k.a k.b g.b) (pos 0)
          (over (width g.a g.b) (turn k.a k.b g.b) _ (lift_at_second g.a g.b k.a k.b) wide_g
          (order_is_place.nowhere_above k g x g.b.x 1 e hk hg (omega arith) (omega (arith, ints)) (omega (arith, ints)) (order_is_lawful.reversed g k ∙ rw f refl))))

  -- a vertical one doesn't pass through it
  vertical : g.a.x ≡ g.b.x → g.a.y <ℤ g.b.y → k.a.x <ℤ g.a.x → g.b.x <ℤ k.b.x → int_lt (turn k.a k.b g.a) (pos 0) ≡ int_lt (turn k.a k.b g.b) (pos 0)
  vertical level rises from to =
      same_tests (int_lt (turn k.a k.b g.a) (pos 0)) (int_lt (turn k.a k.b g.b) (pos 0))
      (λ f. lt_holds (turn k.a k.b g.b) (pos 0) (stays (lt_tells (turn k.a k.b g.a) (pos 0) f)))
      (λ f. lt_holds (turn k.a k.b g.a) (pos 0) (under _ _ _ higher (lt_tells (turn k.a k.b g.b) (pos 0) f)))
    where
      off : turn k.a k.b g.b ≢ pos 0
      off = off_line k g.b (omega (arith, ints)) to parts.second_end

      risen : turn k.a k.b g.b -ℤ turn k.a k.b g.a ≡ ((k.b.x -ℤ k.a.x) *ℤ (g.b.y -ℤ g.a.y)) -ℤ ((k.b.y -ℤ k.a.y) *ℤ (g.b.x -ℤ g.a.x))
      risen =
          by_ring (coordinates (k.a ∷ k.b ∷ g.a ∷ g.b ∷ []) [])
          (minus (a_turn (place 0) (place 1) (place 3)) (a_turn (place 0) (place 1) (place 2)))
          (minus (times (minus (var 2) (var 0)) (minus (var 7) (var 5))) (times (minus (var 3) (var 1)) (minus (var 6) (var 4))))
          refl

      flat : (d m : ℤ) → d ≡ pos 0 → d *ℤ m ≡ pos 0
      flat d m h = ap (λ z. z *ℤ m) h ∙ zero-*ℤ m

      none : (y z : ℤ) → y ≡ z → z -ℤ y ≡ pos 0
      none y z h = omega (arith, ints)

      -- the turns of the two ends, by the height between them
      higher : turn k.a k.b g.a <ℤ turn k.a k.b g.b
      higher =
          over (turn k.a k.b g.a) (turn k.a k.b g.b) _ _ risen
          (product_positive (k.b.x -ℤ k.a.x) (g.b.y -ℤ g.a.y) (omega (arith, ints)) (omega (arith, ints)))
          (*ℤ_comm (k.b.y -ℤ k.a.y) (g.b.x -ℤ g.a.x) ∙ flat (g.b.x -ℤ g.a.x) (k.b.y -ℤ k.a.y) (none g.a.x g.b.x level))
        where
          over : (y z m n : ℤ) → z -ℤ y ≡ m -ℤ n → pos 0 <ℤ m → n ≡ pos 0 → y <ℤ z
          over y z m n e h f = omega (arith, ints)

      left : pos 0 <ℤ turn g.a g.b k.a
      left =
          turned ((g.b.x -ℤ g.a.x) *ℤ (k.a.y -ℤ g.a.y)) ((g.b.y -ℤ g.a.y) *ℤ (k.a.x -ℤ g.a.x)) (flat (g.b.x -ℤ g.a.x) (k.a.y -ℤ g.a.y) (none g.a.x g.b.x level))
          (product_negative (g.b.y -ℤ g.a.y) (k.a.x -ℤ g.a.x) (omega (arith, ints)) (omega (arith, ints)))
        where
          turned : (m n : ℤ) → m ≡ pos 0 → n <ℤ pos 0 → pos 0 <ℤ (m -ℤ n)
          turned m n e h = omega (arith, ints)

      right : turn g.a g.b k.b <ℤ pos 0
      right =
          turned ((g.b.x -ℤ g.a.x) *ℤ (k.b.y -ℤ g.a.y)) ((g.b.y -ℤ g.a.y) *ℤ (k.b.x -ℤ g.a.x)) (flat (g.b.x -ℤ g.a.x) (k.b.y -ℤ g.a.y) (none g.a.x g.b.x level))
          (product_positive (g.b.y -ℤ g.a.y) (k.b.x -ℤ g.a.x) (omega (arith, ints)) (omega (arith, ints)))
        where
          turned : (m n : ℤ) → m ≡ pos 0 → pos 0 <ℤ n → (m -ℤ n) <ℤ pos 0
          turned m n e h = omega (arith, ints)

      under : (y z w : ℤ) → y <ℤ z → z <ℤ w → y <ℤ w
      under y z w h l = omega (arith, ints)

      proper : turn k.a k.b g.a <ℤ pos 0 → pos 0 <ℤ turn k.a k.b g.b → cross_properly k g ≡ true
      proper h l =
          let first : opposite (turn k.a k.b g.a) (turn k.a k.b g.b) ≡ true = opposite_up _ _ h l in
          let second : opposite (turn g.a g.b k.a) (turn g.a g.b k.b) ≡ true = opposite_down _ _ left right in
          rw (first, second) refl

      stays : turn k.a k.b g.a <ℤ pos 0 → turn k.a k.b g.b <ℤ pos 0
      stays h = by (int_cmp (turn k.a k.b g.b) (pos 0)) (int_ranks (turn k.a k.b g.b) (pos 0))
        where
          by : (o : Ordering) → MatchOrdering o (turn k.a k.b g.b <ℤ pos 0) (turn k.a k.b g.b ≡ pos 0) (pos 0 <ℤ turn k.a k.b g.b) → turn k.a k.b g.b <ℤ pos 0
          by Less l = l
          by Equal l = absurd (off l)
          by Greater l = absurd (false≢true (sym parts.not_proper ∙ proper h l))

  -- both ends over the inner part lie on one side
  pub ends_on_one_side : is_before g.a g.b ≡ true → k.a.x <ℤ g.a.x → g.b.x <ℤ k.b.x → int_lt (turn k.a k.b g.a) (pos 0) ≡ int_lt (turn k.a k.b g.b) (pos 0)
  ends_on_one_side directed from to = by (point_less g.a g.b (before_is_less g.a g.b directed))
    where
      by : (g.a.x <ℤ g.b.x) ⊎ ((g.a.x ≡ g.b.x) × (g.a.y <ℤ g.b.y)) → int_lt (turn k.a k.b g.a) (pos 0) ≡ int_lt (turn k.a k.b g.b) (pos 0)
      by (inl wide) = sym (precedes_by_start g k (point_less_by_x k.a g.a from)) ∙ precedes_by_end wide (omega (arith, ints)) to
      by (inr h) = vertical h.0 h.1 from to
