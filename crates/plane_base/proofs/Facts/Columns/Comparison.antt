-- Parted segments that are live at one column are ordered there.
use Rattle.std.proofs.Common.{◌≡◌, ℕ, ◌<◌, true, false, ℤ, pos, ◌+ℤ◌, ◌-ℤ◌, ◌*ℤ◌, neg_ℤ, ◌≤ℤ◌, ◌<ℤ◌, refl, arith}
use Rattle.std.specs.Prelude.{int_lt}
use Rattle.std.proofs.lemmas.Int.{ints}
use Rattle.plane_base.specs.Plane.{Edge, turn}
use Rattle.plane_base.specs.Segments.{opposite, cross_properly, lift}
use Rattle.plane_base.proofs.Facts.Numbers.Products.{product_positive, product_not_negative, product_negative, product_not_positive, below_of_products, factor_positive, factor_not_negative, factor_negative, negation_product}
use Rattle.std.proofs.Math.IntN.{*ℤ_comm}
use Rattle.plane_base.proofs.Facts.Points.Turns.{width, lift_affine, lift_at_first, lift_at_second, lift_at_third, lift_at_fourth}

-- ---- lifts along a line of columns

-- above 0 at l and not below 0 at r, so above 0 from l up to r
pub rising : (s t : Edge) (l r z : ℤ) (q : ℕ) → 0 < q → (pos q *ℤ l) ≤ℤ z → z <ℤ (pos q *ℤ r) → pos 0 <ℤ lift t s l (pos 1) → pos 0 ≤ℤ lift t s r (pos 1) → pos 0 <ℤ lift t s z (pos q)
rising s t l r z q some from to h k =
    factor_positive (r -ℤ l) (lift t s z (pos q)) (apart l r z from to)
    (sum _ _ _ (lift_affine t.a t.b s.a s.b z (pos q) l r)
    (product_positive ((pos q *ℤ r) -ℤ z) (lift t s l (pos 1)) (omega (arith, ints, to)) h)
    (product_not_negative (z -ℤ (pos q *ℤ l)) (lift t s r (pos 1)) (omega (arith, ints, from)) k))
  where
    sum : (x y z : ℤ) → x ≡ y +ℤ z → pos 0 <ℤ y → pos 0 ≤ℤ z → pos 0 <ℤ x
    sum x y z e h k = omega (arith, ints)

    chain : (x y z : ℤ) → x ≤ℤ y → y <ℤ z → x <ℤ z
    chain x y z h k = omega (arith, ints)

    apart : (l r z : ℤ) → (pos q *ℤ l) ≤ℤ z → z <ℤ (pos q *ℤ r) → pos 0 <ℤ (r -ℤ l)
    apart l r z h k = let below : l <ℤ r = below_of_products (pos q) l r (omega (arith, ints)) (chain _ z _ h k) in omega (arith, ints)

-- not below 0 at l and at r, so not below 0 from l to r
pub not_falling : (s t : Edge) (l r z : ℤ) (q : ℕ) → l <ℤ r → (pos q *ℤ l) ≤ℤ z → z ≤ℤ (pos q *ℤ r) → pos 0 ≤ℤ lift t s l (pos 1) → pos 0 ≤ℤ lift t s r (pos 1) → pos 0 ≤ℤ lift t s z (pos q)
not_falling s t l r z q apart from to h k =
    factor_not_negative (r -ℤ l) (lift t s z (pos q)) (omega (arith, ints))
    (sum _ _ _ (lift_affine t.a t.b s.a s.b z (pos q) l r)
    (product_not_negative ((pos q *ℤ r) -ℤ z) (lift t s l (pos 1)) (omega (arith, ints, to)) h)
    (product_not_negative (z -ℤ (pos q *ℤ l)) (lift t s r (pos 1)) (omega (arith, ints, from)) k))
  where
    sum : (x y z : ℤ) → x ≡ y +ℤ z → pos 0 ≤ℤ y → pos 0 ≤ℤ z → pos 0 ≤ℤ x
    sum x y z e h k = omega (arith, ints)

both_not_positive : (a b : ℤ) → a ≤ℤ pos 0 → b ≤ℤ pos 0 → pos 0 ≤ℤ (a *ℤ b)
both_not_positive a b h k = turned _ _ (negation_product a b) (product_not_positive (neg_ℤ a) b (omega (arith, ints)) k)
  where
    turned : (x y : ℤ) → x ≡ neg_ℤ y → x ≤ℤ pos 0 → pos 0 ≤ℤ y
    turned x y e h = omega (arith, ints)

-- above 0 at l and below 0 at r, so above 0 left of l and below 0 right of r
module _ (s t : Edge) (l r : ℤ) (apart : l <ℤ r) (high : pos 0 <ℤ lift t s l (pos 1)) (low : lift t s r (pos 1) <ℤ pos 0) where
  left_of : (x : ℤ) → x ≤ℤ l → pos 0 <ℤ lift t s x (pos 1)
  left_of x h =
      factor_positive (r -ℤ l) (lift t s x (pos 1)) (omega (arith, ints, apart))
      (sum _ _ _ (lift_affine t.a t.b s.a s.b x (pos 1) l r)
      (product_positive ((pos 1 *ℤ r) -ℤ x) (lift t s l (pos 1)) (omega (arith, ints, apart, h)) high)
      (both_not_positive (x -ℤ (pos 1 *ℤ l)) (lift t s r (pos 1)) (omega (arith, ints, h)) (weak _ low)))
    where
      weak : (x : ℤ) → x <ℤ pos 0 → x ≤ℤ pos 0
      weak x h = omega (arith, ints)

      sum : (x y z : ℤ) → x ≡ y +ℤ z → pos 0 <ℤ y → pos 0 ≤ℤ z → pos 0 <ℤ x
      sum x y z e h k = omega (arith, ints)

  right_of : (x : ℤ) → r ≤ℤ x → lift t s x (pos 1) <ℤ pos 0
  right_of x h =
      factor_negative (r -ℤ l) (lift t s x (pos 1)) (omega (arith, ints, apart))
      (sum _ _ _ (lift_affine t.a t.b s.a s.b x (pos 1) l r)
      (falling ((pos 1 *ℤ r) -ℤ x) (lift t s l (pos 1)) (omega (arith, ints, h)) (weak _ high))
      (product_negative (x -ℤ (pos 1 *ℤ l)) (lift t s r (pos 1)) (omega (arith, ints, apart, h)) low))
    where
      weak : (x : ℤ) → pos 0 <ℤ x → pos 0 ≤ℤ x
      weak x h = omega (arith, ints)

      falling : (a b : ℤ) → a ≤ℤ pos 0 → pos 0 ≤ℤ b → (a *ℤ b) ≤ℤ pos 0
      falling a b h k = rw (*ℤ_comm a b) (product_not_positive b a k h)

      sum : (x y z : ℤ) → x ≡ y +ℤ z → y ≤ℤ pos 0 → z <ℤ pos 0 → x <ℤ pos 0
      sum x y z e h k = omega (arith, ints)

-- ---- tests from facts

pub opposite_down : (m n : ℤ) → pos 0 <ℤ m → n <ℤ pos 0 → opposite m n ≡ true
opposite_down m n h k =
    let e : int_lt (pos 0) m ≡ true = grind (arith, ints) in
    let f : int_lt n (pos 0) ≡ true = grind (arith, ints) in
    rw (e, f) refl

pub opposite_up : (m n : ℤ) → m <ℤ pos 0 → pos 0 <ℤ n → opposite m n ≡ true
opposite_up m n h k =
    let e : int_lt (pos 0) m ≡ false = grind (arith, ints) in
    let f : int_lt m (pos 0) ≡ true = grind (arith, ints) in
    let g : int_lt (pos 0) n ≡ true = grind (arith, ints) in
    rw (e, f, g) refl

-- ---- parted segments don't change sides

-- t above s at l and below it at r, both between all four ends
pub no_fall : (s t : Edge) (l r : ℤ) → s.a.x ≤ℤ l → t.a.x ≤ℤ l → l <ℤ r → r ≤ℤ s.b.x → r ≤ℤ t.b.x → pos 0 <ℤ lift t s l (pos 1) → lift t s r (pos 1) <ℤ pos 0 → cross_properly s t ≡ true
no_fall s t l r sa ta apart sb tb high low =
    let ws : pos 0 <ℤ width s.a s.b = omega (arith, ints) in
    let wt : pos 0 <ℤ width t.a t.b = omega (arith, ints) in
    let left = left_of s t l r apart high low in
    let right = right_of s t l r apart high low in
    let first : opposite (turn s.a s.b t.a) (turn s.a s.b t.b) ≡ true =
    opposite_down _ _ (rise _ _ (lift_at_first t.a t.b s.a s.b) wt (left t.a.x ta)) (fall _ _ (lift_at_second t.a t.b s.a s.b) wt (right t.b.x tb)) in
    let second : opposite (turn t.a t.b s.a) (turn t.a t.b s.b) ≡ true =
    opposite_up _ _ (fall_back _ _ (lift_at_third t.a t.b s.a s.b) ws (left s.a.x sa)) (rise_back _ _ (lift_at_fourth t.a t.b s.a s.b) ws (right s.b.x sb)) in
    rw (first, second) refl
  where
    rise : (w o : ℤ) {x : ℤ} → x ≡ w *ℤ o → pos 0 <ℤ w → pos 0 <ℤ x → pos 0 <ℤ o
    rise w o e h k = factor_positive w o h (rw e at k)

    fall : (w o : ℤ) {x : ℤ} → x ≡ w *ℤ o → pos 0 <ℤ w → x <ℤ pos 0 → o <ℤ pos 0
    fall w o e h k = factor_negative w o h (rw e at k)

    turned_up : (x y : ℤ) → x ≡ neg_ℤ y → pos 0 <ℤ x → y <ℤ pos 0
    turned_up x y e h = omega (arith, ints)

    turned_down : (x y : ℤ) → x ≡ neg_ℤ y → x <ℤ pos 0 → pos 0 <ℤ y
    turned_down x y e h = omega (arith, ints)

    fall_back : (w o : ℤ) {x : ℤ} → x ≡ neg_ℤ (w *ℤ o) → pos 0 <ℤ w → pos 0 <ℤ x → o <ℤ pos 0
    fall_back w o {x} e h k = factor_negative w o h (turned_up x (w *ℤ o) e k)

    rise_back : (w o : ℤ) {x : ℤ} → x ≡ neg_ℤ (w *ℤ o) → pos 0 <ℤ w → x <ℤ pos 0 → pos 0 <ℤ o
    rise_back w o {x} e h k = factor_positive w o h (turned_down x (w *ℤ o) e k)
