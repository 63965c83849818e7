-- Parted segments that are live at a column are level at its two lines in common ends alone.
--
-- Above, cite `level_in_common_ends`; `on_line` finds that a place lies on a segment.
use Rattle.std.proofs.Common.{◌≡◌, ◌≢◌, ℕ, true, ℤ, pos, ◌+ℤ◌, ◌-ℤ◌, ◌*ℤ◌, ◌≤ℤ◌, ◌<ℤ◌, [], ◌∷◌, inl, inr, refl, sym, ap, ◌∙◌, arith}
use Rattle.std.specs.Prelude.{unsigned_abs}
use Rattle.std.specs.declared.cmp.Ordering.{Ordering}
use Rattle.std.specs.declared.cmp.Ordering.TheVariants.{Less, Equal, Greater}
use Rattle.std.specs.Ordering.{ordering_then, int_cmp, int_eq, is_le, MatchOrdering}
use Rattle.std.specs.Cmp.{int_ranks, int_cmp_is}
use Rattle.std.proofs.lemmas.Int.{ints}
use Rattle.std.proofs.Math.IntN.{*ℤ-zero}
use Rattle.std.proofs.lemmas.Bool.Decides.{Decides-int_eq}
use Rattle.plane_base.specs.Plane.{Point, Edge, RationalPoint, scaled, numerators, side, point_order, edge_order, lies_on}
use Rattle.plane_base.specs.Segments.{parted, lift, height}
use Rattle.plane_base.specs.ColumnLaws.{IsLive, IsEndOf, LevelInCommonEnds}
use Rattle.plane_base.proofs.Facts.Numbers.Products.{product_increasing, product_monotone, same_of_products, factor_zero}
use Rattle.plane_base.proofs.Facts.Numbers.Polynomials.{var, const, minus, times, by_ring}
use Rattle.plane_base.proofs.Facts.Points.Turns.{width, coordinates, place, a_width, a_height, a_lift, lift_by_sides}
use Rattle.plane_base.proofs.Facts.Points.Orders.{edge_equal, edge_itself}
use Rattle.plane_base.proofs.Facts.Numbers.Weights.{size_above}
use Rattle.plane_base.proofs.Facts.Columns.Parted.{side_from_end, parted_meet_in_ends}

-- ---- a place on a line, at an x between the ends

at_most : (a b : Point) → a.x ≤ℤ b.x → (a.x ≡ b.x → a.y ≡ b.y) → is_le (point_order a b) ≡ true
at_most a b h level = by (int_cmp a.x b.x) (int_ranks a.x b.x)
  where
    by : (o : Ordering) → MatchOrdering o (a.x <ℤ b.x) (a.x ≡ b.x) (b.x <ℤ a.x) → is_le (ordering_then o (int_cmp a.y b.y)) ≡ true
    by Less k = refl
    by Equal k = rw (sym (int_cmp_is a.y b.y Equal (level k))) refl
    by Greater k = absurd (omega (arith, ints))

-- the two heights of a difference of products that is 0, where one product is
settled : (w d m n : ℤ) → (w *ℤ m) -ℤ (d *ℤ n) ≡ pos 0 → pos 0 <ℤ w → n ≡ pos 0 → m ≡ pos 0
settled w d m n e some f = factor_zero w m some (rest (w *ℤ m) (d *ℤ n) e (ap (λ z. d *ℤ z) f ∙ *ℤ-zero d))
  where
    rest : (x y : ℤ) → x -ℤ y ≡ pos 0 → y ≡ pos 0 → x ≡ pos 0
    rest x y e f = omega (arith, ints)

pub on_line : (s : Edge) (p : RationalPoint) → side s.a s.b p ≡ pos 0 → pos 0 <ℤ width s.a s.b → (pos p.q *ℤ s.a.x) ≤ℤ p.x → p.x ≤ℤ (pos p.q *ℤ s.b.x) → lies_on s p ≡ true
on_line s p flat wide from to =
    let e : int_eq (side s.a s.b p) (pos 0) ≡ true = (Decides-int_eq (side s.a s.b p) (pos 0)).1 flat in
    let f : is_le (point_order (scaled p.q s.a) (numerators p)) ≡ true =
    at_most (scaled p.q s.a) (numerators p) from
    (λ k. same _ _ (settled (width s.a s.b) (s.b.y -ℤ s.a.y) (p.y -ℤ (pos p.q *ℤ s.a.y)) (p.x -ℤ (pos p.q *ℤ s.a.x)) flat wide (none _ _ (sym k)))) in
    let g : is_le (point_order (numerators p) (scaled p.q s.b)) ≡ true =
    at_most (numerators p) (scaled p.q s.b) to
    (λ k. sym (same _ _ (settled (width s.a s.b) (s.b.y -ℤ s.a.y) (p.y -ℤ (pos p.q *ℤ s.b.y)) (p.x -ℤ (pos p.q *ℤ s.b.x)) (sym (side_from_end s p) ∙ flat) wide (none _ _ k)))) in
    rw (e, f, g) refl
  where
    none : (x y : ℤ) → x ≡ y → x -ℤ y ≡ pos 0
    none x y e = omega (arith, ints)

    same : (x y : ℤ) → x -ℤ y ≡ pos 0 → y ≡ x
    same x y e = omega (arith, ints)

-- ---- where two segments are level at c, they meet there

module _ (s t : Edge) (c : ℤ) (wide_s : pos 0 <ℤ width s.a s.b) (wide_t : pos 0 <ℤ width t.a t.b) (level : lift t s c (pos 1) ≡ pos 0) (q : ℕ) (is : pos q ≡ width s.a s.b) where
  abbrev meeting : RationalPoint
  meeting = record { x = pos q *ℤ c; y = height s c (pos 1); q = q }

  some : pos 0 <ℤ pos q
  some = rw is wide_s

  on_first : side s.a s.b meeting ≡ pos 0
  on_first =
      let f : ℤ → ℤ = λ z. (width s.a s.b *ℤ (height s c (pos 1) -ℤ (z *ℤ s.a.y))) -ℤ ((s.b.y -ℤ s.a.y) *ℤ ((z *ℤ c) -ℤ (z *ℤ s.a.x))) in
      ap f is
      ∙ by_ring (coordinates (s.a ∷ s.b ∷ []) (c ∷ []))
      (minus (times (a_width (place 0) (place 1)) (minus (a_height (place 0) (place 1) (var 4) (const (pos 1))) (times (a_width (place 0) (place 1)) (var 1))))
      (times (minus (var 3) (var 1)) (minus (times (a_width (place 0) (place 1)) (var 4)) (times (a_width (place 0) (place 1)) (var 0)))))
      (const (pos 0))
      refl

  enlarged : lift t s (pos q *ℤ c) (pos q) ≡ pos q *ℤ lift t s c (pos 1)
  enlarged =
      by_ring (coordinates (t.a ∷ t.b ∷ s.a ∷ s.b ∷ []) (c ∷ pos q ∷ []))
      (a_lift (place 0) (place 1) (place 2) (place 3) (times (var 9) (var 8)) (var 9))
      (times (var 9) (a_lift (place 0) (place 1) (place 2) (place 3) (var 8) (const (pos 1))))
      refl

  on_second : side t.a t.b meeting ≡ pos 0
  on_second =
      factor_zero (width s.a s.b) (side t.a t.b meeting) wide_s
      (rest _ _ (sym (lift_by_sides t.a t.b s.a s.b meeting) ∙ (enlarged ∙ (ap (λ z. pos q *ℤ z) level ∙ *ℤ-zero (pos q)))) (ap (λ z. width t.a t.b *ℤ z) on_first ∙ *ℤ-zero (width t.a t.b)))
    where
      rest : (x y : ℤ) → x -ℤ y ≡ pos 0 → x ≡ pos 0 → y ≡ pos 0
      rest x y e f = omega (arith, ints)

  ends : s ≢ t → parted s t ≡ true → s.a.x ≤ℤ c → c ≤ℤ s.b.x → t.a.x ≤ℤ c → c ≤ℤ t.b.x → IsEndOf meeting s × IsEndOf meeting t
  ends differ e from_s to_s from_t to_t =
      parted_meet_in_ends.in_ends s t meeting (omega (arith, ints, some)) differ e
      (on_line s meeting on_first wide_s (enlarged_order _ _ from_s) (enlarged_order _ _ to_s))
      (on_line t meeting on_second wide_t (enlarged_order _ _ from_t) (enlarged_order _ _ to_t))
    where
      enlarged_order : (x y : ℤ) → x ≤ℤ y → (pos q *ℤ x) ≤ℤ (pos q *ℤ y)
      enlarged_order x y h = product_monotone (pos q) x y (omega (arith, ints, some)) h

  apart : (x y : ℤ) → x <ℤ y → pos q *ℤ x ≡ pos q *ℤ y → ⊥
  apart x y h e = let l = product_increasing (pos q) x y some h in absurd (clash _ _ l e)
    where
      clash : (x y : ℤ) → x <ℤ y → x ≡ y → ⊥
      clash x y l e = absurd (omega (arith, ints))

  same : (a b : Point) → scaled q a ≡ scaled q b → a ≡ b
  same a b e = λ i. record { x = same_of_products (pos q) a.x b.x some (ap (λ z. z.x) e) i; y = same_of_products (pos q) a.y b.y some (ap (λ z. z.y) e) i }

  at_start : (u : Edge) → c <ℤ u.b.x → IsEndOf meeting u → numerators meeting ≡ scaled q u.a
  at_start u h (inl e) = e
  at_start u h (inr e) = absurd (apart c u.b.x h (ap (λ z. z.x) e))

  at_end : (u : Edge) → u.a.x <ℤ c → IsEndOf meeting u → numerators meeting ≡ scaled q u.b
  at_end u h (inl e) = absurd (apart u.a.x c h (sym (ap (λ z. z.x) e)))
  at_end u h (inr e) = e

  common_start : s ≢ t → parted s t ≡ true → s.a.x ≤ℤ c → c <ℤ s.b.x → t.a.x ≤ℤ c → c <ℤ t.b.x → s.a ≡ t.a
  common_start differ e from_s to_s from_t to_t =
      let h = ends differ e from_s (omega (arith, ints, to_s)) from_t (omega (arith, ints, to_t)) in
      same s.a t.a (sym (at_start s to_s h.0) ∙ at_start t to_t h.1)

  common_end : s ≢ t → parted s t ≡ true → s.a.x <ℤ c → c ≤ℤ s.b.x → t.a.x <ℤ c → c ≤ℤ t.b.x → s.b ≡ t.b
  common_end differ e from_s to_s from_t to_t =
      let h = ends differ e (omega (arith, ints, from_s)) to_s (omega (arith, ints, from_t)) to_t in
      same s.b t.b (sym (at_end s from_s h.0) ∙ at_end t from_t h.1)

-- ---- the law

-- equal segments share both ends
pub unless_same : {A : Type 0} (s t : Edge) → (s ≡ t → A) → (s ≢ t → A) → A
unless_same {A} s t same other = by (edge_order s t) refl
  where
    differ : (o : Ordering) → edge_order s t ≡ o → o ≢ Equal → s ≢ t
    differ o e f h = f (sym e ∙ (ap (λ u. edge_order s u) (sym h) ∙ edge_itself s))

    by : (o : Ordering) → edge_order s t ≡ o → A
    by Less e = other (differ Less e (λ h. absurd (cc)))
    by Equal e = same (edge_equal s t e)
    by Greater e = other (differ Greater e (λ h. absurd (cc)))

pub level_in_common_ends : LevelInCommonEnds
level_in_common_ends = record {
  at_start = λ s t x e hs ht level. unless_same s t (λ h. ap (λ u. u.a) h) (λ d. common_start s t x (wide x s hs) (wide x t ht) level (unsigned_abs (width s.a s.b)) (size_above (width s.a s.b) (wide x s hs)) d e hs.0 hs.1 ht.0 ht.1);
  at_end = λ s t x e hs ht level. unless_same s t (λ h. ap (λ u. u.b) h) (λ d. common_end s t (x +ℤ pos 1) (wide x s hs) (wide x t ht) level (unsigned_abs (width s.a s.b)) (size_above (width s.a s.b) (wide x s hs)) d e (after x s hs) (up_to x s hs) (after x t ht) (up_to x t ht));
}
  where
    wide : (x : ℤ) (u : Edge) → IsLive x u → pos 0 <ℤ width u.a u.b
    wide x u h = omega (arith, ints, h.0, h.1)

    after : (x : ℤ) (u : Edge) → IsLive x u → u.a.x <ℤ (x +ℤ pos 1)
    after x u h = omega (arith, ints, h.0)

    up_to : (x : ℤ) (u : Edge) → IsLive x u → (x +ℤ pos 1) ≤ℤ u.b.x
    up_to x u h = omega (arith, ints, h.1)
