-- Parts of two segments cross properly only where these do, and at the same place.
--
-- Above, cite `pieces_cross_alike`.
use Rattle.std.proofs.Common.{◌≡◌, ℕ, ◌<◌, Bool, true, false, is_lt, ℤ, pos, ◌+ℤ◌, ◌-ℤ◌, ◌*ℤ◌, ◌<ℤ◌, [], ◌∷◌, ◌⊎◌, inl, inr, ⊎_elim, refl, sym, ap, ◌∙◌, arith}
use Rattle.std.specs.Prelude.{unsigned_abs}
use Rattle.std.specs.Ordering.{is_le}
use Rattle.std.specs.declared.cmp.Ordering.{Ordering}
use Rattle.std.specs.declared.cmp.Ordering.TheVariants.{Less, Equal, Greater}
use Rattle.std.proofs.lemmas.Int.{ints}
use Rattle.std.proofs.Math.IntN.{*ℤ_comm, *ℤ-zero}
use Rattle.plane_base.specs.Plane.{Point, Edge, RationalPoint, scaled, numerators, turn, side, is_before, point_order}
use Rattle.plane_base.specs.Segments.{opposite, cross_properly}
use Rattle.plane_base.specs.Crossing.{rounded, is_whole, mean, crossing}
use Rattle.plane_base.specs.WholeLaws.{IsPiece, IsSamePlace, PiecesCrossAlike}
use Rattle.plane_base.proofs.Facts.Numbers.Products.{factor_zero, same_of_products, zero_product, product_left_comm}
use Rattle.plane_base.proofs.Facts.Numbers.Polynomials.{var, minus, plus, times, by_ring}
use Rattle.plane_base.proofs.Facts.Points.Turns.{coordinates, place, a_turn, a_side, turn_there_and_back}
use Rattle.plane_base.proofs.Facts.Points.Orders.{point_total, point_equal, point_less, before_is_less}
use Rattle.plane_base.proofs.Facts.Crossings.Tests.{AreOpposite, both_true, opposite_tells, ends_apart}
use Rattle.plane_base.proofs.Facts.Numbers.Rounding.{nearest_same}
use Rattle.plane_base.proofs.Facts.Crossings.Place.{crossing_is_common, crossing_swapped, other_apart, turns_differ}
use Rattle.plane_base.proofs.Facts.Columns.Parted.{IsBetween, Balanced, on_both, on_none, between_balanced, opposite_is, order_scaled}
use Rattle.plane_base.proofs.Facts.Crossings.Whole.{crossing_inside, crossing_inside_other, whole_tells, whole_from}

-- ---- three points on one line

-- their turn, times a step along the line
turn_by_x : (a b x y z : Point) → (b.x -ℤ a.x) *ℤ turn x y z ≡ ((y.x -ℤ x.x) *ℤ (turn a b z -ℤ turn a b x)) -ℤ ((z.x -ℤ x.x) *ℤ (turn a b y -ℤ turn a b x))
turn_by_x a b x y z =
    by_ring (coordinates (a ∷ b ∷ x ∷ y ∷ z ∷ []) [])
    (times (minus (var 2) (var 0)) (a_turn (place 2) (place 3) (place 4)))
    (minus (times (minus (var 6) (var 4)) (minus (a_turn (place 0) (place 1) (place 4)) (a_turn (place 0) (place 1) (place 2)))) (times (minus (var 8) (var 4)) (minus (a_turn (place 0) (place 1) (place 3)) (a_turn (place 0) (place 1) (place 2)))))
    refl

turn_by_y : (a b x y z : Point) → (b.y -ℤ a.y) *ℤ turn x y z ≡ ((y.y -ℤ x.y) *ℤ (turn a b z -ℤ turn a b x)) -ℤ ((z.y -ℤ x.y) *ℤ (turn a b y -ℤ turn a b x))
turn_by_y a b x y z =
    by_ring (coordinates (a ∷ b ∷ x ∷ y ∷ z ∷ []) [])
    (times (minus (var 3) (var 1)) (a_turn (place 2) (place 3) (place 4)))
    (minus (times (minus (var 7) (var 5)) (minus (a_turn (place 0) (place 1) (place 4)) (a_turn (place 0) (place 1) (place 2)))) (times (minus (var 9) (var 5)) (minus (a_turn (place 0) (place 1) (place 3)) (a_turn (place 0) (place 1) (place 2)))))
    refl

pub three_on_line : (a b x y z : Point) → is_before a b ≡ true → turn a b x ≡ pos 0 → turn a b y ≡ pos 0 → turn a b z ≡ pos 0 → turn x y z ≡ pos 0
three_on_line a b x y z h e f g = by (point_less a b (before_is_less a b h))
  where
    gap : (m n : ℤ) → m ≡ pos 0 → n ≡ pos 0 → m -ℤ n ≡ pos 0
    gap m n e f = omega (arith, ints)

    none : (j k m n : ℤ) → m ≡ pos 0 → n ≡ pos 0 → (j *ℤ m) -ℤ (k *ℤ n) ≡ pos 0
    none j k m n e f = rw (e, f, *ℤ-zero j, *ℤ-zero k) refl

    by : (a.x <ℤ b.x) ⊎ ((a.x ≡ b.x) × (a.y <ℤ b.y)) → turn x y z ≡ pos 0
    by (inl l) = factor_zero (b.x -ℤ a.x) (turn x y z) (omega (arith, ints)) (turn_by_x a b x y z ∙ none _ _ _ _ (gap _ _ g e) (gap _ _ f e))
    by (inr l) = factor_zero (b.y -ℤ a.y) (turn x y z) (omega (arith, ints, l.1)) (turn_by_y a b x y z ∙ none _ _ _ _ (gap _ _ g e) (gap _ _ f e))

-- ---- a place between the ends of a part is between those of the whole

-- a mean of two points on a line is on it
side_of_mean : (s u : Edge) (m n : ℕ) → side s.a s.b (mean u m n) ≡ (pos n *ℤ turn s.a s.b u.a) +ℤ (pos m *ℤ turn s.a s.b u.b)
side_of_mean s u m n =
    by_ring (coordinates (s.a ∷ s.b ∷ u.a ∷ u.b ∷ []) (pos m ∷ pos n ∷ []))
    (a_side (place 0) (place 1) (record { x = plus (times (var 9) (var 4)) (times (var 8) (var 6)); y = plus (times (var 9) (var 5)) (times (var 8) (var 7)) }) (plus (var 8) (var 9)))
    (plus (times (var 9) (a_turn (place 0) (place 1) (place 2))) (times (var 8) (a_turn (place 0) (place 1) (place 3))))
    refl

mean_on : (s u : Edge) (m n : ℕ) → IsPiece u s → side s.a s.b (mean u m n) ≡ pos 0
mean_on s u m n h = side_of_mean s u m n ∙ none (pos n) (pos m) _ _ h.first_on h.second_on
  where
    none : (j k x y : ℤ) → x ≡ pos 0 → y ≡ pos 0 → (j *ℤ x) +ℤ (k *ℤ y) ≡ pos 0
    none j k x y e f = rw (e, f, *ℤ-zero j, *ℤ-zero k) refl

pub le_then_less : (p q r : Point) → is_le (point_order p q) ≡ true → point_order q r ≡ Less → point_order p r ≡ Less
le_then_less p q r e f = by (point_order p q) refl e
  where
    by : (o : Ordering) → point_order p q ≡ o → is_le o ≡ true → point_order p r ≡ Less
    by Less g h = point_total.trans p q r g f
    by Equal g h = ap (λ z. point_order z r) (point_equal p q g) ∙ f
    by Greater g h = absurd (cc)

pub less_then_le : (p q r : Point) → point_order p q ≡ Less → is_le (point_order q r) ≡ true → point_order p r ≡ Less
less_then_le p q r f e = by (point_order q r) refl e
  where
    by : (o : Ordering) → point_order q r ≡ o → is_le o ≡ true → point_order p r ≡ Less
    by Less g h = point_total.trans p q r f g
    by Equal g h = ap (λ z. point_order p z) (sym (point_equal q r g)) ∙ f
    by Greater g h = absurd (cc)

between_whole : (s u : Edge) (p : RationalPoint) → 0 < p.q → IsPiece u s → side s.a s.b p ≡ pos 0 → IsBetween p u → IsBetween p s
between_whole s u p some h flat k = record {
  flat = flat;
  after = le_then_less (scaled p.q s.a) (scaled p.q u.a) (numerators p) (ap is_le (order_scaled p.q s.a u.a some) ∙ h.from) k.after;
  before = less_then_le (numerators p) (scaled p.q u.b) (scaled p.q s.b) k.before (ap is_le (order_scaled p.q u.b s.b some) ∙ h.to);
}

pub piece_forward : (u s : Edge) → IsPiece u s → is_before s.a s.b ≡ true
piece_forward u s h = ap is_lt (le_then_less s.a u.a s.b h.from (less_then_le u.a u.b s.b (before_is_less u.a u.b h.forward) h.to))

-- ---- the crossing of parts

module _ (s t u v : Edge) (first : IsPiece u s) (second : IsPiece v t) (proper : cross_properly u v ≡ true) where
  some : 0 < (crossing u v).q
  some = crossing_is_common.is_rational u v proper

  on_s : side s.a s.b (crossing u v) ≡ pos 0
  on_s = mean_on s u _ _ first

  on_t : side t.a t.b (crossing u v) ≡ pos 0
  on_t = ap (λ p. side t.a t.b p) (crossing_swapped u v proper) ∙ mean_on t v _ _ second

  inside_s : IsBetween (crossing u v) s
  inside_s = between_whole s u (crossing u v) some first on_s (crossing_inside u v first.forward proper)

  inside_t : IsBetween (crossing u v) t
  inside_t = between_whole t v (crossing u v) some second on_t (crossing_inside_other u v second.forward proper)

  not_level : (m n x y : ℤ) → AreOpposite m n → x -ℤ y ≡ n -ℤ m → x ≡ pos 0 → y ≡ pos 0 → ⊥
  not_level m n x y h e f g = ⊎_elim (λ k. absurd (omega (arith, ints, k.0, k.1))) (λ k. absurd (omega (arith, ints, k.0, k.1))) h

  not_level_back : (m n x y : ℤ) → AreOpposite m n → m -ℤ n ≡ y -ℤ x → x ≡ pos 0 → y ≡ pos 0 → ⊥
  not_level_back m n x y h e f g = ⊎_elim (λ k. absurd (omega (arith, ints, k.0, k.1))) (λ k. absurd (omega (arith, ints, k.0, k.1))) h

  -- one line would hold both parts
  one_line : turn t.a t.b s.a ≡ pos 0 → turn t.a t.b s.b ≡ pos 0 → ⊥
  one_line e f =
      let on_first = three_on_line t.a t.b s.a s.b v.a (piece_forward v t second) e f second.first_on in
      none (turn u.a u.b v.a) (other_apart u v proper).0 (three_on_line s.a s.b u.a u.b v.a (piece_forward u s first) first.first_on first.second_on on_first)
    where
      none : (x : ℤ) → 0 < unsigned_abs x → x ≡ pos 0 → ⊥
      none x h e = let g : 0 < unsigned_abs (pos 0) = rw e at h in omega arith

  pub pieces_cross : cross_properly s t ≡ true
  pieces_cross = by (between_balanced s t (crossing u v) some on_s inside_t) (between_balanced t s (crossing u v) some on_t inside_s)
    where
      by : Balanced (turn s.a s.b t.a) (turn s.a s.b t.b) → Balanced (turn t.a t.b s.a) (turn t.a t.b s.b) → cross_properly s t ≡ true
      by (on_both h) (on_both k) =
          let first = opposite_is (turn s.a s.b t.a) (turn s.a s.b t.b) h in
          let second = opposite_is (turn t.a t.b s.a) (turn t.a t.b s.b) k in
          rw (first, second) refl
      by (on_both h) (on_none e f) = absurd (not_level (turn s.a s.b t.a) (turn s.a s.b t.b) (turn t.a t.b s.a) (turn t.a t.b s.b) h (turns_differ s t) e f)
      by (on_none e f) (on_both h) = absurd (not_level_back (turn t.a t.b s.a) (turn t.a t.b s.b) (turn s.a s.b t.a) (turn s.a s.b t.b) h (turns_differ s t) e f)
      by (on_none e f) (on_none g k) = absurd (one_line g k)

-- ---- two lines that cross have one place in common

meet_x : (s t : Edge) (p r : RationalPoint)
    → (turn s.a s.b t.b -ℤ turn s.a s.b t.a) *ℤ ((p.x *ℤ pos r.q) -ℤ (r.x *ℤ pos p.q))
    ≡ ((t.b.x -ℤ t.a.x) *ℤ ((pos r.q *ℤ side s.a s.b p) -ℤ (pos p.q *ℤ side s.a s.b r))) -ℤ ((s.b.x -ℤ s.a.x) *ℤ ((pos r.q *ℤ side t.a t.b p) -ℤ (pos p.q *ℤ side t.a t.b r)))
meet_x s t p r =
    by_ring (coordinates (s.a ∷ s.b ∷ t.a ∷ t.b ∷ []) (p.x ∷ p.y ∷ r.x ∷ r.y ∷ pos p.q ∷ pos r.q ∷ []))
    (times (minus (a_turn (place 0) (place 1) (place 3)) (a_turn (place 0) (place 1) (place 2))) (minus (times (var 8) (var 13)) (times (var 10) (var 12))))
    (minus
    (times (minus (var 6) (var 4)) (minus (times (var 13) (a_side (place 0) (place 1) (place 4) (var 12))) (times (var 12) (a_side (place 0) (place 1) (place 5) (var 13)))))
    (times (minus (var 2) (var 0)) (minus (times (var 13) (a_side (place 2) (place 3) (place 4) (var 12))) (times (var 12) (a_side (place 2) (place 3) (place 5) (var 13))))))
    refl

meet_y : (s t : Edge) (p r : RationalPoint)
    → (turn s.a s.b t.b -ℤ turn s.a s.b t.a) *ℤ ((p.y *ℤ pos r.q) -ℤ (r.y *ℤ pos p.q))
    ≡ ((t.b.y -ℤ t.a.y) *ℤ ((pos r.q *ℤ side s.a s.b p) -ℤ (pos p.q *ℤ side s.a s.b r))) -ℤ ((s.b.y -ℤ s.a.y) *ℤ ((pos r.q *ℤ side t.a t.b p) -ℤ (pos p.q *ℤ side t.a t.b r)))
meet_y s t p r =
    by_ring (coordinates (s.a ∷ s.b ∷ t.a ∷ t.b ∷ []) (p.x ∷ p.y ∷ r.x ∷ r.y ∷ pos p.q ∷ pos r.q ∷ []))
    (times (minus (a_turn (place 0) (place 1) (place 3)) (a_turn (place 0) (place 1) (place 2))) (minus (times (var 9) (var 13)) (times (var 11) (var 12))))
    (minus
    (times (minus (var 7) (var 5)) (minus (times (var 13) (a_side (place 0) (place 1) (place 4) (var 12))) (times (var 12) (a_side (place 0) (place 1) (place 5) (var 13)))))
    (times (minus (var 3) (var 1)) (minus (times (var 13) (a_side (place 2) (place 3) (place 4) (var 12))) (times (var 12) (a_side (place 2) (place 3) (place 5) (var 13))))))
    refl

pub one_meeting : (s t : Edge) (p r : RationalPoint) → cross_properly s t ≡ true → side s.a s.b p ≡ pos 0 → side t.a t.b p ≡ pos 0 → side s.a s.b r ≡ pos 0 → side t.a t.b r ≡ pos 0 → IsSamePlace p r
one_meeting s t p r e sp tp sr tr = record { x = settle _ _ (meet_x s t p r ∙ none _ _); y = settle _ _ (meet_y s t p r ∙ none _ _) }
  where
    -- the difference of two multiples of 0
    zero_gap : (j k m n : ℤ) → m ≡ pos 0 → n ≡ pos 0 → (j *ℤ m) -ℤ (k *ℤ n) ≡ pos 0
    zero_gap j k m n e f = rw (e, f, *ℤ-zero j, *ℤ-zero k) refl

    none : (x y : ℤ) → (x *ℤ ((pos r.q *ℤ side s.a s.b p) -ℤ (pos p.q *ℤ side s.a s.b r))) -ℤ (y *ℤ ((pos r.q *ℤ side t.a t.b p) -ℤ (pos p.q *ℤ side t.a t.b r))) ≡ pos 0
    none x y = zero_gap x y _ _ (zero_gap (pos r.q) (pos p.q) _ _ sp sr) (zero_gap (pos r.q) (pos p.q) _ _ tp tr)

    apart : AreOpposite (turn s.a s.b t.a) (turn s.a s.b t.b)
    apart = opposite_tells (turn s.a s.b t.a) (turn s.a s.b t.b) (both_true (opposite (turn s.a s.b t.a) (turn s.a s.b t.b)) (opposite (turn t.a t.b s.a) (turn t.a t.b s.b)) e).0

    not_equal : (m n : ℤ) → AreOpposite m n → n -ℤ m ≡ pos 0 → ⊥
    not_equal m n h e = ⊎_elim (λ k. absurd (omega (arith, ints, k.0, k.1))) (λ k. absurd (omega (arith, ints, k.0, k.1))) h

    settle : (x y : ℤ) → (turn s.a s.b t.b -ℤ turn s.a s.b t.a) *ℤ (x -ℤ y) ≡ pos 0 → x ≡ y
    settle x y f = ⊎_elim (λ g. absurd (not_equal _ _ apart g)) (λ g. level x y g) (zero_product (turn s.a s.b t.b -ℤ turn s.a s.b t.a) (x -ℤ y) f)
      where
        level : (x y : ℤ) → x -ℤ y ≡ pos 0 → x ≡ y
        level x y e = omega (arith, ints)

-- ---- equal places

pub same_rounded : (p r : RationalPoint) → 0 < p.q → 0 < r.q → IsSamePlace p r → rounded p ≡ rounded r
same_rounded p r some more h =
    let x = nearest_same p.x r.x p.q r.q some more h.x in
    let y = nearest_same p.y r.y p.q r.q some more h.y in
    λ i. record { x = x i; y = y i }

place_swapped : (p r : RationalPoint) → IsSamePlace p r → IsSamePlace r p
place_swapped p r h = record { x = sym h.x; y = sym h.y }

also_whole : (p r : RationalPoint) → 0 < p.q → 0 < r.q → IsSamePlace p r → is_whole p ≡ true → is_whole r ≡ true
also_whole p r some more h e =
    let k = whole_tells p e in
    let w = rounded p in
    let x = other (w.x) p.x r.x (ap (λ z. z.x) k) h.x in
    let y = other (w.y) p.y r.y (ap (λ z. z.y) k) h.y in
    whole_from r (ap (scaled r.q) (sym (same_rounded p r some more h)) ∙ (λ i. record { x = x i; y = y i }))
  where
    other : (w x y : ℤ) → pos p.q *ℤ w ≡ x → x *ℤ pos r.q ≡ y *ℤ pos p.q → pos r.q *ℤ w ≡ y
    other w x y e f =
        same_of_products (pos p.q) (pos r.q *ℤ w) y (omega (arith, ints))
        (product_left_comm (pos p.q) (pos r.q) w ∙ (ap (λ z. pos r.q *ℤ z) e ∙ (*ℤ_comm (pos r.q) x ∙ (f ∙ *ℤ_comm y (pos p.q)))))

pub same_whole : (p r : RationalPoint) → 0 < p.q → 0 < r.q → IsSamePlace p r → is_whole p ≡ is_whole r
same_whole p r some more h = by (is_whole p) (is_whole r) refl refl
  where
    by : (b c : Bool) → is_whole p ≡ b → is_whole r ≡ c → b ≡ c
    by true c e f = sym (also_whole p r some more h e) ∙ f
    by false true e f = sym e ∙ also_whole r p more some (place_swapped p r h) f
    by false false e f = refl

-- ---- the law

place_same : (s t u v : Edge) → IsPiece u s → IsPiece v t → cross_properly u v ≡ true → IsSamePlace (crossing u v) (crossing s t)
place_same s t u v h k e =
    let f = pieces_cross s t u v h k e in
    one_meeting s t (crossing u v) (crossing s t) f (on_s s t u v h k e) (on_t s t u v h k e) (crossing_is_common.on_first_line s t f) (crossing_is_common.on_second_line s t f)

pub pieces_cross_alike : PiecesCrossAlike
pieces_cross_alike = record {
  cross = pieces_cross;
  place = place_same;
  rounded = λ s t u v h k e. same_rounded (crossing u v) (crossing s t) (crossing_is_common.is_rational u v e) (crossing_is_common.is_rational s t (pieces_cross s t u v h k e)) (place_same s t u v h k e);
  whole = whole_same;
  meets = λ s t u v h k f e. whole_same s t u v h k e ∙ f (pieces_cross s t u v h k e);
  apart = λ s u v h k. by s u v h k (cross_properly u v) refl;
}
  where
    whole_same : (s t u v : Edge) → IsPiece u s → IsPiece v t → cross_properly u v ≡ true → is_whole (crossing u v) ≡ is_whole (crossing s t)
    whole_same s t u v h k e = same_whole (crossing u v) (crossing s t) (crossing_is_common.is_rational u v e) (crossing_is_common.is_rational s t (pieces_cross s t u v h k e)) (place_same s t u v h k e)

    none : (x : ℤ) → 0 < unsigned_abs x → x ≡ pos 0 → ⊥
    none x h e = let g : 0 < unsigned_abs (pos 0) = rw e at h in omega arith

    by : (s u v : Edge) → IsPiece u s → IsPiece v s → (b : Bool) → cross_properly u v ≡ b → b ≡ false
    by s u v h k true e = absurd (none (turn s.a s.b s.a) (ends_apart s s (pieces_cross s s u v h k e)).0 (turn_there_and_back s.a s.b))
    by s u v h k false e = refl
