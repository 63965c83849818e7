-- Where segments cross, and the boxes in which that lies.
--
-- Above, cite `crossing_is_common`, `crossing_swapped` and `inside_boxed`.
use Rattle.std.proofs.Common.{◌≡◌, ℕ, ◌+◌, ◌<◌, Bool, true, false, cond, ℤ, pos, negsuc, ◌+ℤ◌, ◌-ℤ◌, ◌*ℤ◌, neg_ℤ, ◌≤ℤ◌, ◌<ℤ◌, [], ◌∷◌, refl, sym, ap, subst, ◌∙◌, ⊎_elim, arith}
use Rattle.std.specs.Prelude.{unsigned_abs}
use Rattle.std.specs.Int.{int_min, int_max}
use Rattle.std.specs.declared.cmp.Ordering.{Ordering}
use Rattle.std.specs.declared.cmp.Ordering.TheVariants.{Less, Equal, Greater}
use Rattle.std.specs.Ordering.{int_cmp, int_eq, MatchOrdering}
use Rattle.std.specs.Cmp.{int_ranks, int_cmp_is}
use Rattle.std.proofs.lemmas.Int.{ints, clamps}
use Rattle.std.proofs.lemmas.Bool.Decides.{Decides-int_eq}
use Rattle.plane_base.specs.Plane.{Point, Edge, RationalPoint, scaled, numerators, turn, side, is_before, point_order, lies_on}
use Rattle.plane_base.specs.Segments.{strictly_inside, opposite, cross_properly}
use Rattle.plane_base.specs.Crossing.{floor, rounded, rounded_along, mean, crossing}
use Rattle.plane_base.specs.CrossingLaws.{InBox, BoxesMeet, CrossingIsCommon}
use Rattle.plane_base.proofs.Facts.Numbers.Products.{product_monotone, product_increasing, at_most_of_products, negation_product}
use Rattle.plane_base.proofs.Facts.Numbers.Polynomials.{var, const, plus, minus, times, by_ring}
use Rattle.plane_base.proofs.Facts.Points.Turns.{width, coordinates, place, a_turn, a_side}
use Rattle.plane_base.proofs.Facts.Numbers.Rounding.{floor_is, floor_within, nearest_within}
use Rattle.plane_base.proofs.Facts.Numbers.Means.{mean_low, mean_high}
use Rattle.plane_base.proofs.Facts.Numbers.Weights.{size_above}
use Rattle.plane_base.proofs.Facts.Crossings.Tests.{both_true, AreOpposite, opposite_tells, opposite_apart, ends_apart, inside_tells}
use Rattle.plane_base.proofs.Facts.Points.Orders.{before_is_less}

-- ---- the same point on both

size_below : (m : ℤ) → m <ℤ pos 0 → pos (unsigned_abs m) ≡ neg_ℤ m
size_below (pos m) h = absurd (omega (arith, ints))
size_below (negsuc m) h = refl

-- the turns of t to the ends of s differ as those of s to the ends of t do
pub turns_differ : (s t : Edge) → turn t.a t.b s.a -ℤ turn t.a t.b s.b ≡ turn s.a s.b t.b -ℤ turn s.a s.b t.a
turns_differ s t =
    by_ring (coordinates (s.a ∷ s.b ∷ t.a ∷ t.b ∷ []) [])
    (minus (a_turn (place 2) (place 3) (place 0)) (a_turn (place 2) (place 3) (place 1)))
    (minus (a_turn (place 0) (place 1) (place 3)) (a_turn (place 0) (place 1) (place 2)))
    refl

same_x : (s t : Edge) → (turn t.a t.b s.a *ℤ s.b.x) -ℤ (turn t.a t.b s.b *ℤ s.a.x) ≡ (turn s.a s.b t.b *ℤ t.a.x) -ℤ (turn s.a s.b t.a *ℤ t.b.x)
same_x s t =
    by_ring (coordinates (s.a ∷ s.b ∷ t.a ∷ t.b ∷ []) [])
    (minus (times (a_turn (place 2) (place 3) (place 0)) (var 2)) (times (a_turn (place 2) (place 3) (place 1)) (var 0)))
    (minus (times (a_turn (place 0) (place 1) (place 3)) (var 4)) (times (a_turn (place 0) (place 1) (place 2)) (var 6)))
    refl

same_y : (s t : Edge) → (turn t.a t.b s.a *ℤ s.b.y) -ℤ (turn t.a t.b s.b *ℤ s.a.y) ≡ (turn s.a s.b t.b *ℤ t.a.y) -ℤ (turn s.a s.b t.a *ℤ t.b.y)
same_y s t =
    by_ring (coordinates (s.a ∷ s.b ∷ t.a ∷ t.b ∷ []) [])
    (minus (times (a_turn (place 2) (place 3) (place 0)) (var 3)) (times (a_turn (place 2) (place 3) (place 1)) (var 1)))
    (minus (times (a_turn (place 0) (place 1) (place 3)) (var 5)) (times (a_turn (place 0) (place 1) (place 2)) (var 7)))
    refl

-- weights u, v of one pair of ends and z, w of another, from turns whose signs are known
module _ (a b c d : ℤ) where
  same_sum : AreOpposite a b → AreOpposite c d → a -ℤ b ≡ d -ℤ c → unsigned_abs a + unsigned_abs b ≡ unsigned_abs c + unsigned_abs d
  same_sum h k e =
      ⊎_elim
      (λ h. ⊎_elim
      (λ k. absurd (omega (arith, ints, e, h.0, h.1, k.0, k.1)))
      (λ k. omega (arith, ints, e, size_above a h.0, size_below b h.1, size_below c k.0, size_above d k.1)) k)
      (λ h. ⊎_elim
      (λ k. omega (arith, ints, e, size_below a h.0, size_above b h.1, size_above c k.0, size_below d k.1))
      (λ k. absurd (omega (arith, ints, e, h.0, h.1, k.0, k.1))) k)
      h

  same_mean : (p q r w : ℤ) → AreOpposite a b → AreOpposite c d → a -ℤ b ≡ d -ℤ c → (a *ℤ q) -ℤ (b *ℤ p) ≡ (d *ℤ r) -ℤ (c *ℤ w) → (pos (unsigned_abs b) *ℤ p) +ℤ (pos (unsigned_abs a) *ℤ q) ≡ (pos (unsigned_abs d) *ℤ r) +ℤ (pos (unsigned_abs c) *ℤ w)
  same_mean p q r w h k e f =
      ⊎_elim
      (λ h. ⊎_elim
      (λ k. absurd (omega (arith, ints, e, h.0, h.1, k.0, k.1)))
      (λ k. rw (size_below b h.1, size_above a h.0, size_above d k.1, size_below c k.0, negation_product b p, negation_product c w) (forth (b *ℤ p) (a *ℤ q) (d *ℤ r) (c *ℤ w) f)) k)
      (λ h. ⊎_elim
      (λ k. rw (size_above b h.1, size_below a h.0, size_below d k.1, size_above c k.0, negation_product a q, negation_product d r) (back (b *ℤ p) (a *ℤ q) (d *ℤ r) (c *ℤ w) f))
      (λ k. absurd (omega (arith, ints, e, h.0, h.1, k.0, k.1))) k)
      h
    where
      forth : (x y z t : ℤ) → y -ℤ x ≡ z -ℤ t → neg_ℤ x +ℤ y ≡ z +ℤ neg_ℤ t
      forth x y z t e = omega (arith, ints)

      back : (x y z t : ℤ) → y -ℤ x ≡ z -ℤ t → x +ℤ neg_ℤ y ≡ neg_ℤ z +ℤ t
      back x y z t e = omega (arith, ints)

pub same_place : (p q : RationalPoint) → p.x ≡ q.x → p.y ≡ q.y → p.q ≡ q.q → p ≡ q
same_place p q e f g =
    let by_x : ℤ → RationalPoint = λ z. record { x = z; y = p.y; q = p.q } in
    let by_y : ℤ → RationalPoint = λ z. record { x = q.x; y = z; q = p.q } in
    let by_q : ℕ → RationalPoint = λ z. record { x = q.x; y = q.y; q = z } in
    ap by_x e ∙ (ap by_y f ∙ ap by_q g)

-- Where segments cross properly, either finds the same numerators and denominator.
pub crossing_swapped : (s t : Edge) → cross_properly s t ≡ true → crossing s t ≡ crossing t s
crossing_swapped s t e =
    let p = both_true (opposite (turn s.a s.b t.a) (turn s.a s.b t.b)) (opposite (turn t.a t.b s.a) (turn t.a t.b s.b)) e in
    let o = opposite_tells (turn s.a s.b t.a) (turn s.a s.b t.b) p.0 in
    let t_to_s = opposite_tells (turn t.a t.b s.a) (turn t.a t.b s.b) p.1 in
    let ta = turn t.a t.b s.a in
    let tb = turn t.a t.b s.b in
    let sa = turn s.a s.b t.a in
    let sb = turn s.a s.b t.b in
    same_place (crossing s t) (crossing t s)
    (same_mean ta tb sa sb s.a.x s.b.x t.a.x t.b.x t_to_s o (turns_differ s t) (same_x s t))
    (same_mean ta tb sa sb s.a.y s.b.y t.a.y t.b.y t_to_s o (turns_differ s t) (same_y s t))
    (same_sum ta tb sa sb t_to_s o (turns_differ s t))

pub mean_on_line : (s : Edge) (u v : ℕ) → side s.a s.b (mean s u v) ≡ pos 0
mean_on_line s u v =
    by_ring (coordinates (s.a ∷ s.b ∷ []) (pos u ∷ pos v ∷ []))
    (a_side (place 0) (place 1) (record { x = plus (times (var 5) (var 0)) (times (var 4) (var 2)); y = plus (times (var 5) (var 1)) (times (var 4) (var 3)) }) (plus (var 4) (var 5)))
    (const (pos 0))
    refl

crossing_on_first : (s t : Edge) → side s.a s.b (crossing s t) ≡ pos 0
crossing_on_first s t = mean_on_line s (unsigned_abs (turn t.a t.b s.a)) (unsigned_abs (turn t.a t.b s.b))

-- a mean by weights above 0 stands between the ends, as each stands to the other
pub after_first : (a b : ℤ) (u v : ℕ) → 0 < u → int_cmp (pos (u + v) *ℤ a) ((pos v *ℤ a) +ℤ (pos u *ℤ b)) ≡ int_cmp a b
after_first a b u v some = sym (int_cmp_is (pos (u + v) *ℤ a) ((pos v *ℤ a) +ℤ (pos u *ℤ b)) (int_cmp a b) (by (int_cmp a b) (int_ranks a b)))
  where
    apart : pos (u + v) *ℤ a ≡ (pos v *ℤ a) +ℤ (pos u *ℤ a)
    apart = by_ring (a ∷ pos u ∷ pos v ∷ []) (times (plus (var 1) (var 2)) (var 0)) (plus (times (var 2) (var 0)) (times (var 1) (var 0))) refl

    low : (w x y z : ℤ) → w ≡ x +ℤ y → y <ℤ z → w <ℤ (x +ℤ z)
    low w x y z e l = omega (arith, ints)

    high : (w x y z : ℤ) → w ≡ x +ℤ y → z <ℤ y → (x +ℤ z) <ℤ w
    high w x y z e l = omega (arith, ints)

    by : (o : Ordering) → MatchOrdering o (a <ℤ b) (a ≡ b) (b <ℤ a) → MatchOrdering o ((pos (u + v) *ℤ a) <ℤ ((pos v *ℤ a) +ℤ (pos u *ℤ b))) (pos (u + v) *ℤ a ≡ (pos v *ℤ a) +ℤ (pos u *ℤ b)) (((pos v *ℤ a) +ℤ (pos u *ℤ b)) <ℤ (pos (u + v) *ℤ a))
    by Less k = low _ (pos v *ℤ a) (pos u *ℤ a) (pos u *ℤ b) apart (product_increasing (pos u) a b (omega (arith, ints)) k)
    by Equal k = apart ∙ ap (λ z. (pos v *ℤ a) +ℤ (pos u *ℤ z)) k
    by Greater k = high _ (pos v *ℤ a) (pos u *ℤ a) (pos u *ℤ b) apart (product_increasing (pos u) b a (omega (arith, ints)) k)

pub before_second : (a b : ℤ) (u v : ℕ) → 0 < v → int_cmp ((pos v *ℤ a) +ℤ (pos u *ℤ b)) (pos (u + v) *ℤ b) ≡ int_cmp a b
before_second a b u v some = sym (int_cmp_is ((pos v *ℤ a) +ℤ (pos u *ℤ b)) (pos (u + v) *ℤ b) (int_cmp a b) (by (int_cmp a b) (int_ranks a b)))
  where
    apart : pos (u + v) *ℤ b ≡ (pos v *ℤ b) +ℤ (pos u *ℤ b)
    apart = by_ring (b ∷ pos u ∷ pos v ∷ []) (times (plus (var 1) (var 2)) (var 0)) (plus (times (var 2) (var 0)) (times (var 1) (var 0))) refl

    low : (w x y z : ℤ) → w ≡ y +ℤ x → z <ℤ y → (z +ℤ x) <ℤ w
    low w x y z e l = omega (arith, ints)

    high : (w x y z : ℤ) → w ≡ y +ℤ x → y <ℤ z → w <ℤ (z +ℤ x)
    high w x y z e l = omega (arith, ints)

    by : (o : Ordering) → MatchOrdering o (a <ℤ b) (a ≡ b) (b <ℤ a) → MatchOrdering o (((pos v *ℤ a) +ℤ (pos u *ℤ b)) <ℤ (pos (u + v) *ℤ b)) ((pos v *ℤ a) +ℤ (pos u *ℤ b) ≡ pos (u + v) *ℤ b) ((pos (u + v) *ℤ b) <ℤ ((pos v *ℤ a) +ℤ (pos u *ℤ b)))
    by Less k = low _ (pos u *ℤ b) (pos v *ℤ b) (pos v *ℤ a) apart (product_increasing (pos v) a b (omega (arith, ints)) k)
    by Equal k = ap (λ z. (pos v *ℤ z) +ℤ (pos u *ℤ b)) k ∙ sym apart
    by Greater k = high _ (pos u *ℤ b) (pos v *ℤ b) (pos v *ℤ a) apart (product_increasing (pos v) b a (omega (arith, ints)) k)

mean_between : (s : Edge) (u v : ℕ) → 0 < u → 0 < v → is_before s.a s.b ≡ true → lies_on s (mean s u v) ≡ true
mean_between s u v some more h =
    let l : point_order s.a s.b ≡ Less = before_is_less s.a s.b h in
    let e : int_eq (side s.a s.b (mean s u v)) (pos 0) ≡ true = (Decides-int_eq (side s.a s.b (mean s u v)) (pos 0)).1 (mean_on_line s u v) in
    let f : point_order (scaled (u + v) s.a) (numerators (mean s u v)) ≡ Less = rw (after_first s.a.x s.b.x u v some, after_first s.a.y s.b.y u v some) l in
    let g : point_order (numerators (mean s u v)) (scaled (u + v) s.b) ≡ Less = rw (before_second s.a.x s.b.x u v more, before_second s.a.y s.b.y u v more) l in
    rw (e, f, g) refl

-- No end of the second lies on the line of the first either.
pub other_apart : (s t : Edge) → cross_properly s t ≡ true → (0 < unsigned_abs (turn s.a s.b t.a)) × (0 < unsigned_abs (turn s.a s.b t.b))
other_apart s t e = opposite_apart (turn s.a s.b t.a) (turn s.a s.b t.b) (both_true (opposite (turn s.a s.b t.a) (turn s.a s.b t.b)) (opposite (turn t.a t.b s.a) (turn t.a t.b s.b)) e).0

some_sum : (u v : ℕ) → 0 < u → 0 < u + v
some_sum u v h = omega arith

pub crossing_is_common : CrossingIsCommon
crossing_is_common = record {
  is_rational = λ s t e. some_sum (unsigned_abs (turn t.a t.b s.a)) (unsigned_abs (turn t.a t.b s.b)) (ends_apart s t e).0;
  on_first_line = λ s t e. crossing_on_first s t;
  on_second_line = λ s t e. ap (λ p. side t.a t.b p) (crossing_swapped s t e) ∙ crossing_on_first t s;
  on_first = λ s t h e. mean_between s (unsigned_abs (turn t.a t.b s.a)) (unsigned_abs (turn t.a t.b s.b)) (ends_apart s t e).0 (ends_apart s t e).1 h;
  on_second = λ s t h e. ap (λ p. lies_on t p) (crossing_swapped s t e) ∙ mean_between t (unsigned_abs (turn s.a s.b t.a)) (unsigned_abs (turn s.a s.b t.b)) (other_apart s t e).0 (other_apart s t e).1 h;
  same = crossing_swapped;
}

-- ---- boxes

-- a rational point in the box of a segment
pub record IsBoxed (p : RationalPoint) (s : Edge) : Type 0 where
  pub some : 0 < p.q
  pub left : (pos p.q *ℤ int_min s.a.x s.b.x) ≤ℤ p.x
  pub right : p.x ≤ℤ (pos p.q *ℤ int_max s.a.x s.b.x)
  pub bottom : (pos p.q *ℤ int_min s.a.y s.b.y) ≤ℤ p.y
  pub top : p.y ≤ℤ (pos p.q *ℤ int_max s.a.y s.b.y)

pub min_first : (a b : ℤ) → int_min a b ≤ℤ a
min_first a b = omega (arith, ints, clamps)

pub min_second : (a b : ℤ) → int_min a b ≤ℤ b
min_second a b = omega (arith, ints, clamps)

pub max_first : (a b : ℤ) → a ≤ℤ int_max a b
max_first a b = omega (arith, ints, clamps)

pub max_second : (a b : ℤ) → b ≤ℤ int_max a b
max_second a b = omega (arith, ints, clamps)

pub mean_boxed : (s : Edge) (u v : ℕ) → 0 < u + v → IsBoxed (mean s u v) s
mean_boxed s u v h = record {
  some = h;
  left = mean_low s.a.x s.b.x (int_min s.a.x s.b.x) u v (min_first s.a.x s.b.x) (min_second s.a.x s.b.x);
  right = mean_high s.a.x s.b.x (int_max s.a.x s.b.x) u v (max_first s.a.x s.b.x) (max_second s.a.x s.b.x);
  bottom = mean_low s.a.y s.b.y (int_min s.a.y s.b.y) u v (min_first s.a.y s.b.y) (min_second s.a.y s.b.y);
  top = mean_high s.a.y s.b.y (int_max s.a.y s.b.y) u v (max_first s.a.y s.b.y) (max_second s.a.y s.b.y);
}

pub crossing_boxed : (s t : Edge) → cross_properly s t ≡ true → IsBoxed (crossing s t) s
crossing_boxed s t e =
    mean_boxed s (unsigned_abs (turn t.a t.b s.a)) (unsigned_abs (turn t.a t.b s.b)) (some_sum _ _ (ends_apart s t e).0)

pub crossing_boxed_other : (s t : Edge) → cross_properly s t ≡ true → cross_properly t s ≡ true → IsBoxed (crossing s t) t
crossing_boxed_other s t e f = let P : RationalPoint → Type 0 = λ p. IsBoxed p t in subst P (sym (crossing_swapped s t e)) (crossing_boxed t s f)

pub nearest_boxed : (p : RationalPoint) (s : Edge) → IsBoxed p s → InBox (rounded p) s
nearest_boxed p s h =
    let x = nearest_within p.x (int_min s.a.x s.b.x) (int_max s.a.x s.b.x) p.q h.some h.left h.right in
    let y = nearest_within p.y (int_min s.a.y s.b.y) (int_max s.a.y s.b.y) p.q h.some h.bottom h.top in
    record { left = x.0; right = x.1; bottom = y.0; top = y.1 }

pub floor_boxed : (p : RationalPoint) (s : Edge) → IsBoxed p s → InBox (record { x = floor p.x p.q; y = floor p.y p.q }) s
floor_boxed p s h =
    let x = floor_within p.x (int_min s.a.x s.b.x) (int_max s.a.x s.b.x) p.q h.some h.left h.right in
    let y = floor_within p.y (int_min s.a.y s.b.y) (int_max s.a.y s.b.y) p.q h.some h.bottom h.top in
    record { left = x.0; right = x.1; bottom = y.0; top = y.1 }

-- a mean of two equal numbers is that number
level : (a b : ℤ) (u v : ℕ) → 0 < u + v → a ≡ b → floor ((pos v *ℤ a) +ℤ (pos u *ℤ b)) (u + v) ≡ a
level a b u v h e =
    rw (← e) (floor_is ((pos v *ℤ a) +ℤ (pos u *ℤ a)) a (u + v) h (low _ _ whole) (high _ _ _ whole next))
  where
    whole : pos (u + v) *ℤ a ≡ (pos v *ℤ a) +ℤ (pos u *ℤ a)
    whole = by_ring (a ∷ pos u ∷ pos v ∷ []) (times (plus (var 1) (var 2)) (var 0)) (plus (times (var 2) (var 0)) (times (var 1) (var 0))) refl

    next : pos (u + v) *ℤ (a +ℤ pos 1) ≡ (pos (u + v) *ℤ a) +ℤ pos (u + v)
    next = by_ring (a ∷ pos u ∷ pos v ∷ []) (times (plus (var 1) (var 2)) (plus (var 0) (const (pos 1)))) (plus (times (plus (var 1) (var 2)) (var 0)) (plus (var 1) (var 2))) refl

    low : (x y : ℤ) → x ≡ y → x ≤ℤ y
    low x y e = omega (arith, ints)

    high : (x y z : ℤ) → x ≡ y → z ≡ x +ℤ pos (u + v) → y <ℤ z
    high x y z e f = omega (arith, ints, h)

-- rounding along s keeps to each box that holds the mean
pub along_boxed : (s t : Edge) (u v : ℕ) → 0 < u + v → IsBoxed (mean s u v) t → InBox (rounded_along s (mean s u v)) t
along_boxed s t u v h k = by (int_eq s.a.y s.b.y) (int_eq s.a.x s.b.x) (λ e. (Decides-int_eq s.a.y s.b.y).0 e) (λ e. (Decides-int_eq s.a.x s.b.x).0 e)
  where
    p : RationalPoint
    p = mean s u v

    down : InBox (record { x = floor (mean s u v).x (mean s u v).q; y = floor (mean s u v).y (mean s u v).q }) t
    down = floor_boxed (mean s u v) t k

    by : (b c : Bool) → (b ≡ true → s.a.y ≡ s.b.y) → (c ≡ true → s.a.x ≡ s.b.x) →
        InBox (cond b (record { x = floor (mean s u v).x (mean s u v).q; y = s.a.y }) (cond c (record { x = s.a.x; y = floor (mean s u v).y (mean s u v).q }) (rounded (mean s u v)))) t
    by true c e f = record { left = down.left; right = down.right; bottom = rw (level s.a.y s.b.y u v h (e refl)) at down.bottom; top = rw (level s.a.y s.b.y u v h (e refl)) at down.top }
    by false true e f = record { left = rw (level s.a.x s.b.x u v h (f refl)) at down.left; right = rw (level s.a.x s.b.x u v h (f refl)) at down.right; bottom = down.bottom; top = down.top }
    by false false e f = nearest_boxed (mean s u v) t k

-- two boxes that hold one point meet
pub boxes_meet : (p : RationalPoint) (s t : Edge) → IsBoxed p s → IsBoxed p t → BoxesMeet s t
boxes_meet p s t h k = record {
  left = meet (int_min s.a.x s.b.x) (int_max t.a.x t.b.x) p.x h.left k.right;
  right = meet (int_min t.a.x t.b.x) (int_max s.a.x s.b.x) p.x k.left h.right;
  bottom = meet (int_min s.a.y s.b.y) (int_max t.a.y t.b.y) p.y h.bottom k.top;
  top = meet (int_min t.a.y t.b.y) (int_max s.a.y s.b.y) p.y k.bottom h.top;
}
  where
    chain : (x y z : ℤ) → x ≤ℤ y → y ≤ℤ z → x ≤ℤ z
    chain x y z l m = omega (arith, ints)

    meet : (l u x : ℤ) → (pos p.q *ℤ l) ≤ℤ x → x ≤ℤ (pos p.q *ℤ u) → l ≤ℤ u
    meet l u x m n = at_most_of_products (pos p.q) l u (omega (arith, ints, h.some)) (chain _ x _ m n)

-- ---- ends inside

pub end_a_boxed : (s : Edge) → InBox s.a s
end_a_boxed s = record { left = min_first s.a.x s.b.x; right = max_first s.a.x s.b.x; bottom = min_first s.a.y s.b.y; top = max_first s.a.y s.b.y }

pub end_b_boxed : (s : Edge) → InBox s.b s
end_b_boxed s = record { left = min_second s.a.x s.b.x; right = max_second s.a.x s.b.x; bottom = min_second s.a.y s.b.y; top = max_second s.a.y s.b.y }

pub whole_boxed : (p : Point) (s : Edge) → InBox p s → IsBoxed (record { x = p.x; y = p.y; q = 1 }) s
whole_boxed p s h = record { some = omega arith; left = omega (arith, ints, h.left); right = omega (arith, ints, h.right); bottom = omega (arith, ints, h.bottom); top = omega (arith, ints, h.top) }

-- a point on the line is the mean of the ends, by the offsets along x
mean_of_turn : (s : Edge) (p : Point) → (width s.a s.b *ℤ p.y) -ℤ ((width p s.b *ℤ s.a.y) +ℤ (width s.a p *ℤ s.b.y)) ≡ turn s.a s.b p
mean_of_turn s p =
    by_ring (coordinates (s.a ∷ s.b ∷ p ∷ []) [])
    (minus (times (minus (var 2) (var 0)) (var 5)) (plus (times (minus (var 2) (var 4)) (var 1)) (times (minus (var 4) (var 0)) (var 3))))
    (a_turn (place 0) (place 1) (place 2))
    refl

split_width : (s : Edge) (p : Point) (z : ℤ) → width s.a s.b *ℤ z ≡ (width p s.b *ℤ z) +ℤ (width s.a p *ℤ z)
split_width s p z =
    by_ring (coordinates (s.a ∷ s.b ∷ p ∷ []) (z ∷ []))
    (times (minus (var 2) (var 0)) (var 6))
    (plus (times (minus (var 2) (var 4)) (var 6)) (times (minus (var 4) (var 0)) (var 6)))
    refl

-- on the line of a segment that isn't vertical, at an x between its ends
module _ (s : Edge) (p : Point) (flat : turn s.a s.b p ≡ pos 0) (some : pos 0 <ℤ width s.a s.b) (from : pos 0 ≤ℤ width s.a p) (to : pos 0 ≤ℤ width p s.b) where
  bounded_below : (low : ℤ) → low ≤ℤ s.a.y → low ≤ℤ s.b.y → low ≤ℤ p.y
  bounded_below low h k =
      at_most_of_products (width s.a s.b) low p.y some
      (chain _ _ _ _ _ _ (mean_of_turn s p) flat (split_width s p low) (product_monotone (width p s.b) low s.a.y to h) (product_monotone (width s.a p) low s.b.y from k))
    where
      chain : (w m n t u v : ℤ) {x : ℤ} → w -ℤ (m +ℤ n) ≡ t → t ≡ pos 0 → x ≡ u +ℤ v → u ≤ℤ m → v ≤ℤ n → x ≤ℤ w
      chain w m n t u v e f g l r = omega (arith, ints)

  bounded_above : (high : ℤ) → s.a.y ≤ℤ high → s.b.y ≤ℤ high → p.y ≤ℤ high
  bounded_above high h k =
      at_most_of_products (width s.a s.b) p.y high some
      (chain _ _ _ _ _ _ (mean_of_turn s p) flat (split_width s p high) (product_monotone (width p s.b) s.a.y high to h) (product_monotone (width s.a p) s.b.y high from k))
    where
      chain : (w m n t u v : ℤ) {x : ℤ} → w -ℤ (m +ℤ n) ≡ t → t ≡ pos 0 → x ≡ u +ℤ v → m ≤ℤ u → n ≤ℤ v → w ≤ℤ x
      chain w m n t u v e f g l r = omega (arith, ints)

on_wide : (s : Edge) (p : Point) → turn s.a s.b p ≡ pos 0 → s.a.x <ℤ s.b.x → s.a.x ≤ℤ p.x → p.x ≤ℤ s.b.x → InBox p s
on_wide s p flat some from to = record {
  left = omega (arith, ints, clamps, from);
  right = omega (arith, ints, clamps, to);
  bottom = bounded_below s p flat (omega (arith, ints)) (omega (arith, ints)) (omega (arith, ints)) (int_min s.a.y s.b.y) (min_first s.a.y s.b.y) (min_second s.a.y s.b.y);
  top = bounded_above s p flat (omega (arith, ints)) (omega (arith, ints)) (omega (arith, ints)) (int_max s.a.y s.b.y) (max_first s.a.y s.b.y) (max_second s.a.y s.b.y);
}

pub inside_boxed : (p : Point) (s : Edge) → strictly_inside p s ≡ true → InBox p s
inside_boxed p s e =
    let h = inside_tells p s e in
    ⊎_elim
    (λ l. ⊎_elim
    (λ m. on_wide s p h.0 (omega (arith, ints, l, m)) (omega (arith, ints, l)) (omega (arith, ints, m)))
    (λ m. on_wide s p h.0 (omega (arith, ints, l, m.0)) (omega (arith, ints, l)) (omega (arith, ints, m.0))) h.2)
    (λ l. ⊎_elim
    (λ m. on_wide s p h.0 (omega (arith, ints, l.0, m)) (omega (arith, ints, l.0)) (omega (arith, ints, m)))
    (λ m. record { left = omega (arith, ints, clamps, l.0); right = omega (arith, ints, clamps, l.0, m.0); bottom = omega (arith, ints, clamps, l.1, m.1); top = omega (arith, ints, clamps, l.1, m.1) }) h.2)
    h.1
