-- Parted segments share no rational point but common ends.
--
-- Above, cite `parted_meet_in_ends`; `where_on` tells an end from a place between the ends.
use Rattle.std.proofs.Common.{◌≡◌, ◌≢◌, ℕ, ◌<◌, Bool, true, false, ◌&&◌, ℤ, pos, ◌+ℤ◌, ◌-ℤ◌, ◌*ℤ◌, ◌<ℤ◌, [], ◌∷◌, ◌⊎◌, inl, inr, ⊎_elim, refl, sym, ap, ◌∙◌, arith}
use Rattle.std.specs.declared.cmp.Ordering.{Ordering}
use Rattle.std.specs.declared.cmp.Ordering.TheVariants.{Less, Equal, Greater}
use Rattle.std.specs.Ordering.{int_cmp, int_eq, is_le, MatchOrdering}
use Rattle.std.specs.Cmp.{int_ranks, int_cmp_is}
use Rattle.std.proofs.lemmas.Int.{ints}
use Rattle.std.proofs.Math.IntN.{*ℤ-zero}
use Rattle.std.proofs.lemmas.Bool.{false≢true}
use Rattle.std.proofs.lemmas.Bool.Decides.{Decides-int_eq}
use Rattle.plane_base.specs.Plane.{Point, Edge, RationalPoint, scaled, numerators, turn, side, is_before, point_order, lies_on}
use Rattle.plane_base.specs.Segments.{strictly_inside, opposite, cross_properly}
use Rattle.plane_base.specs.ColumnLaws.{IsEndOf, PartedMeetInEnds}
use Rattle.plane_base.proofs.Facts.Numbers.Products.{product_increasing, below_of_products, product_positive, product_negative, factor_zero, factor_positive, factor_negative}
use Rattle.plane_base.proofs.Facts.Numbers.Polynomials.{var, minus, plus, times, by_ring}
use Rattle.plane_base.proofs.Facts.Points.Turns.{coordinates, place, a_turn, a_side}
use Rattle.plane_base.proofs.Facts.Points.Orders.{point_total, point_equal, point_less, less_from_greater}
use Rattle.plane_base.proofs.Facts.Crossings.Tests.{AreOpposite, both_true}
use Rattle.plane_base.proofs.Facts.Crossings.Place.{turns_differ}
use Rattle.plane_base.proofs.Facts.Crossings.Parted.{AreParted, parted_tells}
use Rattle.plane_base.proofs.Facts.Columns.Comparison.{opposite_down, opposite_up}
use Rattle.plane_base.proofs.Facts.Columns.Order.{inside_from, before_of_order, same_edge}

-- ---- the order of enlarged points is that of the points

cmp_scaled : (q : ℕ) (x y : ℤ) → 0 < q → int_cmp (pos q *ℤ x) (pos q *ℤ y) ≡ int_cmp x y
cmp_scaled q x y h = sym (int_cmp_is (pos q *ℤ x) (pos q *ℤ y) (int_cmp x y) (by (int_cmp x y) (int_ranks x y)))
  where
    some : pos 0 <ℤ pos q
    some = omega (arith, ints)

    by : (o : Ordering) → MatchOrdering o (x <ℤ y) (x ≡ y) (y <ℤ x) → MatchOrdering o ((pos q *ℤ x) <ℤ (pos q *ℤ y)) (pos q *ℤ x ≡ pos q *ℤ y) ((pos q *ℤ y) <ℤ (pos q *ℤ x))
    by Less k = product_increasing (pos q) x y some k
    by Equal k = ap (λ z. pos q *ℤ z) k
    by Greater k = product_increasing (pos q) y x some k

pub order_scaled : (q : ℕ) (a b : Point) → 0 < q → point_order (scaled q a) (scaled q b) ≡ point_order a b
order_scaled q a b h = rw (cmp_scaled q a.x b.x h, cmp_scaled q a.y b.y h) refl

-- ---- a place strictly between the ends of a segment, on its line

pub record IsBetween (p : RationalPoint) (s : Edge) : Type 0 where
  pub flat : side s.a s.b p ≡ pos 0
  pub after : point_order (scaled p.q s.a) (numerators p) ≡ Less
  pub before : point_order (numerators p) (scaled p.q s.b) ≡ Less

-- an end of the segment, or strictly between
pub where_on : (p : RationalPoint) (s : Edge) → lies_on s p ≡ true → IsEndOf p s ⊎ IsBetween p s
where_on p s e =
    let h = both_true (int_eq (side s.a s.b p) (pos 0) && is_le (point_order (scaled p.q s.a) (numerators p))) (is_le (point_order (numerators p) (scaled p.q s.b))) e in
    let k = both_true (int_eq (side s.a s.b p) (pos 0)) (is_le (point_order (scaled p.q s.a) (numerators p))) h.0 in
    by ((Decides-int_eq (side s.a s.b p) (pos 0)).0 k.0) (point_order (scaled p.q s.a) (numerators p)) (point_order (numerators p) (scaled p.q s.b)) refl refl k.1 h.1
  where
    by : side s.a s.b p ≡ pos 0 → (o r : Ordering) → point_order (scaled p.q s.a) (numerators p) ≡ o → point_order (numerators p) (scaled p.q s.b) ≡ r → is_le o ≡ true → is_le r ≡ true → IsEndOf p s ⊎ IsBetween p s
    by z Less Less f g h k = inr (record { flat = z; after = f; before = g })
    by z Less Equal f g h k = inl (inr (point_equal (numerators p) (scaled p.q s.b) g))
    by z Less Greater f g h k = absurd (cc)
    by z Equal r f g h k = inl (inl (sym (point_equal (scaled p.q s.a) (numerators p) f)))
    by z Greater r f g h k = absurd (cc)

-- an end of another segment there lies strictly inside
side_of_scaled : (s : Edge) (q : ℕ) (e : Point) → side s.a s.b (record { x = pos q *ℤ e.x; y = pos q *ℤ e.y; q = q }) ≡ pos q *ℤ turn s.a s.b e
side_of_scaled s q e =
    by_ring (coordinates (s.a ∷ s.b ∷ e ∷ []) (pos q ∷ []))
    (a_side (place 0) (place 1) (record { x = times (var 6) (var 4); y = times (var 6) (var 5) }) (var 6))
    (times (var 6) (a_turn (place 0) (place 1) (place 2)))
    refl

pub end_between : (p : RationalPoint) (s : Edge) (e : Point) → 0 < p.q → IsBetween p s → numerators p ≡ scaled p.q e → strictly_inside e s ≡ true
end_between p s e some h f =
    inside_from e s (factor_zero (pos p.q) (turn s.a s.b e) (omega (arith, ints)) (sym (side_of_scaled s p.q e) ∙ (here ∙ h.flat)))
    (before_of_order s.a e (sym (order_scaled p.q s.a e some) ∙ (ap (λ z. point_order (scaled p.q s.a) z) (sym f) ∙ h.after)))
    (before_of_order e s.b (sym (order_scaled p.q e s.b some) ∙ (ap (λ z. point_order z (scaled p.q s.b)) (sym f) ∙ h.before)))
  where
    at : Point → RationalPoint
    at z = record { x = z.x; y = z.y; q = p.q }

    here : side s.a s.b (record { x = pos p.q *ℤ e.x; y = pos p.q *ℤ e.y; q = p.q }) ≡ side s.a s.b p
    here = let f' : Point → ℤ = λ z. side s.a s.b (record { x = z.x; y = z.y; q = p.q }) in ap f' (sym f)

-- ---- between the ends of both: their turns are weighed to 0

weighed_x : (s t : Edge) (p : RationalPoint) → (((pos p.q *ℤ t.b.x) -ℤ p.x) *ℤ turn s.a s.b t.a) +ℤ ((p.x -ℤ (pos p.q *ℤ t.a.x)) *ℤ turn s.a s.b t.b) ≡ ((t.b.x -ℤ t.a.x) *ℤ side s.a s.b p) -ℤ ((s.b.x -ℤ s.a.x) *ℤ side t.a t.b p)
weighed_x s t p =
    by_ring (coordinates (s.a ∷ s.b ∷ t.a ∷ t.b ∷ []) (p.x ∷ p.y ∷ pos p.q ∷ []))
    (plus (times (minus (times (var 10) (var 6)) (var 8)) (a_turn (place 0) (place 1) (place 2))) (times (minus (var 8) (times (var 10) (var 4))) (a_turn (place 0) (place 1) (place 3))))
    (minus (times (minus (var 6) (var 4)) (a_side (place 0) (place 1) (place 4) (var 10))) (times (minus (var 2) (var 0)) (a_side (place 2) (place 3) (place 4) (var 10))))
    refl

weighed_y : (s t : Edge) (p : RationalPoint) → (((pos p.q *ℤ t.b.y) -ℤ p.y) *ℤ turn s.a s.b t.a) +ℤ ((p.y -ℤ (pos p.q *ℤ t.a.y)) *ℤ turn s.a s.b t.b) ≡ ((t.b.y -ℤ t.a.y) *ℤ side s.a s.b p) -ℤ ((s.b.y -ℤ s.a.y) *ℤ side t.a t.b p)
weighed_y s t p =
    by_ring (coordinates (s.a ∷ s.b ∷ t.a ∷ t.b ∷ []) (p.x ∷ p.y ∷ pos p.q ∷ []))
    (plus (times (minus (times (var 10) (var 7)) (var 9)) (a_turn (place 0) (place 1) (place 2))) (times (minus (var 9) (times (var 10) (var 5))) (a_turn (place 0) (place 1) (place 3))))
    (minus (times (minus (var 7) (var 5)) (a_side (place 0) (place 1) (place 4) (var 10))) (times (minus (var 3) (var 1)) (a_side (place 2) (place 3) (place 4) (var 10))))
    refl

-- the side of a point from the second end
pub side_from_end : (t : Edge) (p : RationalPoint) → side t.a t.b p ≡ ((t.b.x -ℤ t.a.x) *ℤ (p.y -ℤ (pos p.q *ℤ t.b.y))) -ℤ ((t.b.y -ℤ t.a.y) *ℤ (p.x -ℤ (pos p.q *ℤ t.b.x)))
side_from_end t p =
    by_ring (coordinates (t.a ∷ t.b ∷ []) (p.x ∷ p.y ∷ pos p.q ∷ []))
    (a_side (place 0) (place 1) (place 2) (var 6))
    (minus (times (minus (var 2) (var 0)) (minus (var 5) (times (var 6) (var 3)))) (times (minus (var 3) (var 1)) (minus (var 4) (times (var 6) (var 2)))))
    refl

-- two numbers that weights above 0 sum to 0 are opposite, or both 0
pub data Balanced (m n : ℤ) : Type 0 where
  on_both : AreOpposite m n → Balanced m n
  on_none : m ≡ pos 0 → n ≡ pos 0 → Balanced m n

balanced : (j k m n : ℤ) → pos 0 <ℤ j → pos 0 <ℤ k → (j *ℤ m) +ℤ (k *ℤ n) ≡ pos 0 → Balanced m n
balanced j k m n some more e = by (int_cmp m (pos 0)) (int_ranks m (pos 0))
  where
    above : (x y : ℤ) → x +ℤ y ≡ pos 0 → x <ℤ pos 0 → pos 0 <ℤ y
    above x y e h = omega (arith, ints)

    below : (x y : ℤ) → x +ℤ y ≡ pos 0 → pos 0 <ℤ x → y <ℤ pos 0
    below x y e h = omega (arith, ints)

    rest : (x y : ℤ) → x +ℤ y ≡ pos 0 → x ≡ pos 0 → y ≡ pos 0
    rest x y e h = omega (arith, ints)

    by : (o : Ordering) → MatchOrdering o (m <ℤ pos 0) (m ≡ pos 0) (pos 0 <ℤ m) → Balanced m n
    by Less h = on_both (inr (h, factor_positive k n more (above (j *ℤ m) (k *ℤ n) e (product_negative j m some h))))
    by Equal h = on_none h (factor_zero k n more (rest (j *ℤ m) (k *ℤ n) e (ap (λ z. j *ℤ z) h ∙ *ℤ-zero j)))
    by Greater h = on_both (inl (h, factor_negative k n more (below (j *ℤ m) (k *ℤ n) e (product_positive j m some h))))

pub between_balanced : (s t : Edge) (p : RationalPoint) → 0 < p.q → side s.a s.b p ≡ pos 0 → IsBetween p t → Balanced (turn s.a s.b t.a) (turn s.a s.b t.b)
between_balanced s t p some flat h = by (point_less (scaled p.q t.a) (numerators p) h.after) (point_less (numerators p) (scaled p.q t.b) h.before)
  where
    zero : (x y : ℤ) → (x *ℤ side s.a s.b p) -ℤ (y *ℤ side t.a t.b p) ≡ pos 0
    zero x y = rw (flat, h.flat, *ℤ-zero x, *ℤ-zero y) refl

    wide : (pos p.q *ℤ t.a.x) <ℤ (pos p.q *ℤ t.b.x) → pos 0 <ℤ (t.b.x -ℤ t.a.x)
    wide l = let m : t.a.x <ℤ t.b.x = below_of_products (pos p.q) t.a.x t.b.x (omega (arith, ints)) l in omega (arith, ints)

    gap : (x y : ℤ) → x <ℤ y → pos 0 <ℤ (y -ℤ x)
    gap x y l = omega (arith, ints)

    none : (x y d z : ℤ) → (x -ℤ y) ≡ pos 0 → y ≡ d *ℤ z → z ≡ pos 0 → x ≡ pos 0
    none x y d z e f g = settle x y e (f ∙ (ap (λ w. d *ℤ w) g ∙ *ℤ-zero d))
      where
        settle : (x y : ℤ) → x -ℤ y ≡ pos 0 → y ≡ pos 0 → x ≡ pos 0
        settle x y e f = omega (arith, ints)

    level : (x y : ℤ) → x ≡ y → y -ℤ x ≡ pos 0
    level x y e = omega (arith, ints)

    not_both : (x : ℤ) → x ≡ pos 0 → pos 0 <ℤ x → ⊥
    not_both x e l = absurd (omega (arith, ints))

    not_under : (x : ℤ) → x ≡ pos 0 → x <ℤ pos 0 → ⊥
    not_under x e l = absurd (omega (arith, ints))

    fall : (x y : ℤ) → x <ℤ y → (x -ℤ y) <ℤ pos 0
    fall x y l = omega (arith, ints)

    carried : (x y z : ℤ) → x <ℤ y → y ≡ z → x <ℤ z
    carried x y z l e = omega (arith, ints)

    carried_back : (x y z : ℤ) → x ≡ y → y <ℤ z → x <ℤ z
    carried_back x y z e l = omega (arith, ints)

    by : ((pos p.q *ℤ t.a.x) <ℤ p.x) ⊎ ((pos p.q *ℤ t.a.x ≡ p.x) × ((pos p.q *ℤ t.a.y) <ℤ p.y)) → (p.x <ℤ (pos p.q *ℤ t.b.x)) ⊎ ((p.x ≡ pos p.q *ℤ t.b.x) × (p.y <ℤ (pos p.q *ℤ t.b.y))) → Balanced (turn s.a s.b t.a) (turn s.a s.b t.b)
    by (inl l) (inl m) = balanced ((pos p.q *ℤ t.b.x) -ℤ p.x) (p.x -ℤ (pos p.q *ℤ t.a.x)) _ _ (gap _ _ m) (gap _ _ l) (weighed_x s t p ∙ zero _ _)
    by (inr l) (inr m) = balanced ((pos p.q *ℤ t.b.y) -ℤ p.y) (p.y -ℤ (pos p.q *ℤ t.a.y)) _ _ (gap _ _ m.1) (gap _ _ l.1) (weighed_y s t p ∙ zero _ _)
    by (inl l) (inr m) =
        absurd (not_under ((t.b.x -ℤ t.a.x) *ℤ (p.y -ℤ (pos p.q *ℤ t.b.y)))
        (none _ _ (t.b.y -ℤ t.a.y) (p.x -ℤ (pos p.q *ℤ t.b.x)) (sym (side_from_end t p) ∙ h.flat) refl (level _ _ (sym m.0)))
        (product_negative (t.b.x -ℤ t.a.x) (p.y -ℤ (pos p.q *ℤ t.b.y)) (wide (carried _ _ _ l m.0)) (fall _ _ m.1)))
    by (inr l) (inl m) =
        absurd (not_both ((t.b.x -ℤ t.a.x) *ℤ (p.y -ℤ (pos p.q *ℤ t.a.y)))
        (none _ _ (t.b.y -ℤ t.a.y) (p.x -ℤ (pos p.q *ℤ t.a.x)) h.flat refl (level _ _ l.0))
        (product_positive (t.b.x -ℤ t.a.x) (p.y -ℤ (pos p.q *ℤ t.a.y)) (wide (carried_back _ _ _ l.0 m)) (gap _ _ l.1)))

-- ---- no place strictly between the ends of both

pub opposite_is : (m n : ℤ) → AreOpposite m n → opposite m n ≡ true
opposite_is m n h = ⊎_elim (λ k. opposite_down m n k.0 k.1) (λ k. opposite_up m n k.0 k.1) h

module _ (s t : Edge) (p : RationalPoint) (some : 0 < p.q) (differ : s ≢ t) (parts : AreParted s t) (on_s : IsBetween p s) (on_t : IsBetween p t) where
  clash : {b : Bool} → b ≡ false → b ≡ true → ⊥
  clash f g = false≢true (sym f ∙ g)

  reach : (a d : Point) → point_order (scaled p.q a) (numerators p) ≡ Less → point_order (numerators p) (scaled p.q d) ≡ Less → is_before a d ≡ true
  reach a d e f = before_of_order a d (sym (order_scaled p.q a d some) ∙ point_total.trans (scaled p.q a) (numerators p) (scaled p.q d) e f)

  not_level : (m n x y : ℤ) → AreOpposite m n → x -ℤ y ≡ n -ℤ m → x ≡ pos 0 → y ≡ pos 0 → ⊥
  not_level m n x y h e f g = ⊎_elim (λ k. absurd (omega (arith, ints, k.0, k.1))) (λ k. absurd (omega (arith, ints, k.0, k.1))) h

  not_level_back : (m n x y : ℤ) → AreOpposite m n → m -ℤ n ≡ y -ℤ x → x ≡ pos 0 → y ≡ pos 0 → ⊥
  not_level_back m n x y h e f g = ⊎_elim (λ k. absurd (omega (arith, ints, k.0, k.1))) (λ k. absurd (omega (arith, ints, k.0, k.1))) h

  on_line : turn s.a s.b t.a ≡ pos 0 → turn s.a s.b t.b ≡ pos 0 → turn t.a t.b s.a ≡ pos 0 → turn t.a t.b s.b ≡ pos 0 → ⊥
  on_line ta tb sa sb = by (point_order s.a t.a) refl
    where
      ends : s.a ≡ t.a → (o : Ordering) → point_order t.b s.b ≡ o → ⊥
      ends e Less f = clash parts.second_end (inside_from t.b s tb (reach s.a t.b on_s.after on_t.before) (before_of_order t.b s.b f))
      ends e Equal f = differ (same_edge s t e (sym (point_equal t.b s.b f)))
      ends e Greater f = clash parts.own_second (inside_from s.b t sb (reach t.a s.b on_t.after on_s.before) (before_of_order s.b t.b (less_from_greater point_total t.b s.b f)))

      by : (o : Ordering) → point_order s.a t.a ≡ o → ⊥
      by Less e = clash parts.first_end (inside_from t.a s ta (before_of_order s.a t.a e) (reach t.a s.b on_t.after on_s.before))
      by Equal e = ends (point_equal s.a t.a e) (point_order t.b s.b) refl
      by Greater e = clash parts.own_first (inside_from s.a t sa (before_of_order t.a s.a (less_from_greater point_total s.a t.a e)) (reach s.a t.b on_s.after on_t.before))

  no_meeting : ⊥
  no_meeting = by (between_balanced s t p some on_s.flat on_t) (between_balanced t s p some on_t.flat on_s)
    where
      by : Balanced (turn s.a s.b t.a) (turn s.a s.b t.b) → Balanced (turn t.a t.b s.a) (turn t.a t.b s.b) → ⊥
      by (on_both h) (on_both k) =
          let first = opposite_is (turn s.a s.b t.a) (turn s.a s.b t.b) h in
          let second = opposite_is (turn t.a t.b s.a) (turn t.a t.b s.b) k in
          let proper : cross_properly s t ≡ true = rw (first, second) refl in
          clash parts.not_proper proper
      by (on_both h) (on_none e f) = not_level (turn s.a s.b t.a) (turn s.a s.b t.b) (turn t.a t.b s.a) (turn t.a t.b s.b) h (turns_differ s t) e f
      by (on_none e f) (on_both h) = not_level_back (turn t.a t.b s.a) (turn t.a t.b s.b) (turn s.a s.b t.a) (turn s.a s.b t.b) h (turns_differ s t) e f
      by (on_none e f) (on_none g k) = on_line e f g k

-- ---- the law

pub parted_meet_in_ends : PartedMeetInEnds
parted_meet_in_ends = record { in_ends = λ s t p some differ e on_s on_t. by s t p some differ (parted_tells s t e) (where_on p s on_s) (where_on p t on_t) }
  where
    refused : {b : Bool} {A : Type 0} → b ≡ false → b ≡ true → A
    refused f g = absurd (false≢true (sym f ∙ g))

    by : (s t : Edge) (p : RationalPoint) → 0 < p.q → s ≢ t → AreParted s t → IsEndOf p s ⊎ IsBetween p s → IsEndOf p t ⊎ IsBetween p t → IsEndOf p s × IsEndOf p t
    by s t p some differ parts (inl h) (inl k) = (h, k)
    by s t p some differ parts (inl (inl e)) (inr k) = refused parts.own_first (end_between p t s.a some k e)
    by s t p some differ parts (inl (inr e)) (inr k) = refused parts.own_second (end_between p t s.b some k e)
    by s t p some differ parts (inr h) (inl (inl e)) = refused parts.first_end (end_between p s t.a some h e)
    by s t p some differ parts (inr h) (inl (inr e)) = refused parts.second_end (end_between p s t.b some h e)
    by s t p some differ parts (inr h) (inr k) = absurd (no_meeting s t p some differ parts h k)
