-- The order of numbers is that of the ends that they stand for.
use Rattle.std.proofs.Common.{◌≡◌, ℕ, zero, suc, ◌+◌, ◌*◌, ◌/◌, ◌%◌, ◌<◌, ◌≤◌, ◌<ℤ◌, ◌≤ℤ◌, ℤ, pos, neg_ℤ, ◌-ℤ◌, List, All, Ordering, Less, Equal, Greater, int_cmp, refl, sym, ap, nat_eq, ◌∙◌, arith}
use Rattle.std.specs.Ordering.{MatchOrdering, ordering_then, bool_cmp, nat_cmp}
use Rattle.std.specs.Cmp.{nat_cmp_is, int_cmp_is}
use Rattle.std.proofs.Math.Nat.{mul-le-mul_right, mod-lt}
use Rattle.std.proofs.lemmas.Nat.{div-add-mod'}
use Rattle.std.proofs.lemmas.Cmp.{ranked}
use Rattle.std.proofs.lemmas.Int.{ints}
use Rattle.std.proofs.lemmas.List.Elements.{All-weaker}
use Rattle.plane_base.specs.Plane.{Point, Edge, point_order, IsWithin}
use Rattle.plane_base.specs.Segments.{IsEdgeWithin}
use Rattle.segment_arrangement.specs.LinkEnds.{end_order, coordinate_at, point_at, end_at, HasRoomFor, HasRoomForEnds}

-- ---- two parts of a number

-- a number with a part above and a part below k
module _ (k : ℕ) where
  packed_less : (q r p s : ℕ) → r < k → q < p → q * k + r < p * k + s
  packed_less q r p s l m =
      let times : (q + 1) * k ≤ p * k = mul-le-mul_right k (omega (arith, m)) in
      let one_more : (q + 1) * k ≡ q * k + k = omega arith in
      omega (arith, times, one_more, l)

  packed_order : (q r p s : ℕ) → r < k → s < k → nat_cmp (q * k + r) (p * k + s) ≡ ordering_then (nat_cmp q p) (nat_cmp r s)
  packed_order q r p s l m = by (nat_cmp q p) (nat_cmp r s) (ranked q p (nat_cmp q p) refl) (ranked r s (nat_cmp r s) refl)
    where
      by : (o t : Ordering) → MatchOrdering o (q < p) (q ≡ p) (p < q) → MatchOrdering t (r < s) (r ≡ s) (s < r) → nat_cmp (q * k + r) (p * k + s) ≡ ordering_then o t
      by Less t h i = sym (nat_cmp_is (q * k + r) (p * k + s) Less (packed_less q r p s l h))
      by Greater t h i = sym (nat_cmp_is (q * k + r) (p * k + s) Greater (packed_less p s q r m h))
      by Equal Less h i = sym (nat_cmp_is (q * k + r) (p * k + s) Less (omega (arith, ap (λ z. z * k) h, i)))
      by Equal Equal h i = sym (nat_cmp_is (q * k + r) (p * k + s) Equal (omega (arith, ap (λ z. z * k) h, i)))
      by Equal Greater h i = sym (nat_cmp_is (q * k + r) (p * k + s) Greater (omega (arith, ap (λ z. z * k) h, i)))

  split_order : (m n : ℕ) → 0 < k → nat_cmp m n ≡ ordering_then (nat_cmp (m / k) (n / k)) (nat_cmp (m % k) (n % k))
  split_order m n some =
      (λ i. nat_cmp (sym (div-add-mod' m k) i) (sym (div-add-mod' n k) i))
      ∙ packed_order (m / k) (m % k) (n / k) (n % k) (mod-lt m some) (mod-lt n some)

-- ---- the parts of an end

coordinates_order : (half m n : ℕ) → nat_cmp m n ≡ int_cmp (coordinate_at half m) (coordinate_at half n)
coordinates_order half m n = int_cmp_is (coordinate_at half m) (coordinate_at half n) (nat_cmp m n) (by (nat_cmp m n) (ranked m n (nat_cmp m n) refl))
  where
    by : (o : Ordering) → MatchOrdering o (m < n) (m ≡ n) (n < m) → MatchOrdering o (coordinate_at half m <ℤ coordinate_at half n) (coordinate_at half m ≡ coordinate_at half n) (coordinate_at half n <ℤ coordinate_at half m)
    by Less h = omega (arith, ints, h)
    by Equal h = ap (coordinate_at half) h
    by Greater h = omega (arith, ints, h)

points_order : (half m n : ℕ) → 0 < half → nat_cmp m n ≡ point_order (point_at half m) (point_at half n)
points_order half m n wide =
    split_order (2 * half) m n (omega (arith, wide))
    ∙ (λ i. ordering_then (coordinates_order half (m / (2 * half)) (n / (2 * half)) i) (coordinates_order half (m % (2 * half)) (n % (2 * half)) i))

bits_order : (m n : ℕ) → m < 2 → n < 2 → nat_cmp m n ≡ bool_cmp (nat_eq m 1) (nat_eq n 1)
bits_order zero zero l h = refl
bits_order zero (suc zero) l h = refl
bits_order (suc zero) zero l h = refl
bits_order (suc zero) (suc zero) l h = refl
bits_order zero (suc (suc n)) l h = absurd (omega (arith, h))
bits_order (suc zero) (suc (suc n)) l h = absurd (omega (arith, h))
bits_order (suc (suc m)) n l h = absurd (omega (arith, l))

then_assoc : (o p q : Ordering) → ordering_then (ordering_then o p) q ≡ ordering_then o (ordering_then p q)
then_assoc Less p q = refl
then_assoc Equal p q = refl
then_assoc Greater p q = refl

-- numbers stand as the ends that they stand for
pub numbers_order : (half room m n : ℕ) → 0 < half → 0 < room → nat_cmp m n ≡ end_order (end_at half room m) (end_at half room n)
numbers_order half room m n wide some =
    split_order room m n some
    ∙ (ap (λ o. ordering_then o places) (split_order 2 (m / room) (n / room) (omega arith))
    ∙ (then_assoc (nat_cmp (m / room / 2) (n / room / 2)) (nat_cmp (m / room % 2) (n / room % 2)) places
    ∙ (λ i. ordering_then (points_order half (m / room / 2) (n / room / 2) wide i) (ordering_then (bits_order (m / room % 2) (n / room % 2) (mod-lt (m / room) (omega arith)) (mod-lt (n / room) (omega arith)) i) places))))
  where
    places : Ordering
    places = nat_cmp (m % room) (n % room)

-- ---- room for a range

module _ (least greatest : ℤ) (half : ℕ) (low : neg_ℤ (pos half) ≤ℤ least) (high : greatest <ℤ pos half) where
  coordinate_low : (x : ℤ) → least ≤ℤ x → neg_ℤ (pos half) ≤ℤ x
  coordinate_low x h = omega (arith, ints, low, h)

  coordinate_high : (x : ℤ) → x ≤ℤ greatest → x ≤ℤ (pos half -ℤ pos 1)
  coordinate_high x h = omega (arith, ints, high, h)

  point_has_room : (p : Point) → IsWithin least greatest p → HasRoomFor half p
  point_has_room p h = (coordinate_low p.x h.0, coordinate_high p.x h.1, coordinate_low p.y h.2, coordinate_high p.y h.3)

  -- numbers with room for the range have room for the ends that lie in it
  pub ends_have_room : {L : Type 0} (edge : L → Edge) (links : List L)
      → All (λ l. IsEdgeWithin least greatest (edge l)) links → All (λ l. HasRoomForEnds half (edge l)) links
  ends_have_room edge links =
      All-weaker (λ l. IsEdgeWithin least greatest (edge l)) (λ l. HasRoomForEnds half (edge l))
      (λ l h. (point_has_room (edge l).a h.0, point_has_room (edge l).b h.1)) links
