-- What rounding a fraction to a whole number keeps.
use Rattle.std.proofs.Common.{◌≡◌, ℕ, ◌*◌, ◌/◌, ◌<◌, ℤ, pos, negsuc, ◌+ℤ◌, ◌*ℤ◌, neg_ℤ, ◌≤ℤ◌, ◌<ℤ◌, [], ◌∷◌, refl, arith}
use Rattle.std.proofs.lemmas.Int.{ints}
use Rattle.plane_base.specs.Crossing.{floor, nearest}
use Rattle.plane_base.proofs.Facts.Numbers.Products.{product_of_negation, product_monotone, below_of_products, at_most_of_products}
use Rattle.plane_base.proofs.Facts.Numbers.Polynomials.{var, const, plus, times, by_ring}

-- ---- the floor of z / d

pub floor_low : (z : ℤ) (d : ℕ) → 0 < d → (pos d *ℤ floor z d) ≤ℤ z
floor_low (pos a) d h = omega (arith, ints)
floor_low (negsuc a) d h = omega (arith, ints)

pub floor_high : (z : ℤ) (d : ℕ) → 0 < d → z <ℤ (pos d *ℤ (floor z d +ℤ pos 1))
floor_high (pos a) d h = omega (arith, ints)
floor_high (negsuc a) d h =
    let e : negsuc (a / d) +ℤ pos 1 ≡ neg_ℤ (pos (a / d)) = omega (arith, ints) in
    rw (e, product_of_negation (pos d) (pos (a / d))) (omega (arith, ints))

-- a whole number at or below z / d lies at or below its floor
pub floor_at_least : (z n : ℤ) (d : ℕ) → 0 < d → (pos d *ℤ n) ≤ℤ z → n ≤ℤ floor z d
floor_at_least z n d h k =
    next n (floor z d) (below_of_products (pos d) n (floor z d +ℤ pos 1) (omega (arith, ints)) (chain _ _ _ k (floor_high z d h)))
  where
    chain : (x y w : ℤ) → x ≤ℤ y → y <ℤ w → x <ℤ w
    chain x y w k l = omega (arith, ints)

    next : (m f : ℤ) → m <ℤ (f +ℤ pos 1) → m ≤ℤ f
    next m f l = omega (arith, ints)

-- a whole number above z / d lies above its floor
pub floor_below : (z n : ℤ) (d : ℕ) → 0 < d → z <ℤ (pos d *ℤ n) → floor z d <ℤ n
floor_below z n d h k =
    below_of_products (pos d) (floor z d) n (omega (arith, ints)) (chain _ _ _ (floor_low z d h) k)
  where
    chain : (x y w : ℤ) → x ≤ℤ y → y <ℤ w → x <ℤ w
    chain x y w k l = omega (arith, ints)

pub floor_is : (z n : ℤ) (d : ℕ) → 0 < d → (pos d *ℤ n) ≤ℤ z → z <ℤ (pos d *ℤ (n +ℤ pos 1)) → floor z d ≡ n
floor_is z n d h k l = between (floor z d) n (floor_at_least z n d h k) (floor_below z (n +ℤ pos 1) d h l)
  where
    between : (f m : ℤ) → m ≤ℤ f → f <ℤ (m +ℤ pos 1) → f ≡ m
    between f m k l = omega (arith, ints)

-- whole multiples come out
pub floor_moved : (z k : ℤ) (d : ℕ) → 0 < d → floor ((pos d *ℤ k) +ℤ z) d ≡ k +ℤ floor z d
floor_moved z k d h =
    floor_is ((pos d *ℤ k) +ℤ z) (k +ℤ floor z d) d h
    (low _ _ _ _ (split (floor z d)) (floor_low z d h))
    (high _ _ _ _ (split_next (floor z d)) (floor_high z d h))
  where
    split : (f : ℤ) → pos d *ℤ (k +ℤ f) ≡ (pos d *ℤ k) +ℤ (pos d *ℤ f)
    split f = by_ring (pos d ∷ k ∷ f ∷ []) (times (var 0) (plus (var 1) (var 2))) (plus (times (var 0) (var 1)) (times (var 0) (var 2))) refl

    split_next : (f : ℤ) → pos d *ℤ ((k +ℤ f) +ℤ pos 1) ≡ (pos d *ℤ k) +ℤ (pos d *ℤ (f +ℤ pos 1))
    split_next f = by_ring (pos d ∷ k ∷ f ∷ []) (times (var 0) (plus (plus (var 1) (var 2)) (const (pos 1)))) (plus (times (var 0) (var 1)) (times (var 0) (plus (var 2) (const (pos 1))))) refl

    low : (x y w z : ℤ) → x ≡ y +ℤ w → w ≤ℤ z → x ≤ℤ (y +ℤ z)
    low x y w z e l = omega (arith, ints)

    high : (x y w z : ℤ) → x ≡ y +ℤ w → z <ℤ w → (y +ℤ z) <ℤ x
    high x y w z e l = omega (arith, ints)

-- ---- whole numbers

pub floor_whole : (p n : ℤ) (q : ℕ) → 0 < q → pos q *ℤ n ≡ p → floor p q ≡ n
floor_whole p n q h e = floor_is p n q h (omega (arith, ints, e)) (above _ _ one_more e)
  where
    one_more : pos q *ℤ (n +ℤ pos 1) ≡ (pos q *ℤ n) +ℤ pos q
    one_more = by_ring (pos q ∷ n ∷ []) (times (var 0) (plus (var 1) (const (pos 1)))) (plus (times (var 0) (var 1)) (var 0)) refl

    above : (x y : ℤ) → y ≡ x +ℤ pos q → x ≡ p → p <ℤ y
    above x y e k = omega (arith, ints)

pub nearest_whole : (p n : ℤ) (q : ℕ) → 0 < q → pos q *ℤ n ≡ p → nearest p q ≡ n
nearest_whole p n q h e = floor_is ((pos 2 *ℤ p) +ℤ pos q) n (2 * q) (omega arith) (low _ _ doubled e) (high _ _ doubled_next e)
  where
    doubled : pos (2 * q) *ℤ n ≡ pos 2 *ℤ (pos q *ℤ n)
    doubled = by_ring (pos q ∷ n ∷ []) (times (times (const (pos 2)) (var 0)) (var 1)) (times (const (pos 2)) (times (var 0) (var 1))) refl

    doubled_next : pos (2 * q) *ℤ (n +ℤ pos 1) ≡ (pos 2 *ℤ (pos q *ℤ n)) +ℤ (pos 2 *ℤ pos q)
    doubled_next = by_ring (pos q ∷ n ∷ []) (times (times (const (pos 2)) (var 0)) (plus (var 1) (const (pos 1)))) (plus (times (const (pos 2)) (times (var 0) (var 1))) (times (const (pos 2)) (var 0))) refl

    low : (x y : ℤ) → x ≡ pos 2 *ℤ y → y ≡ p → x ≤ℤ ((pos 2 *ℤ p) +ℤ pos q)
    low x y e k = omega (arith, ints)

    high : (x y : ℤ) → x ≡ (pos 2 *ℤ y) +ℤ (pos 2 *ℤ pos q) → y ≡ p → ((pos 2 *ℤ p) +ℤ pos q) <ℤ x
    high x y e k = omega (arith, ints)

-- ---- whole bounds are kept

pub floor_within : (p low high : ℤ) (q : ℕ) → 0 < q → (pos q *ℤ low) ≤ℤ p → p ≤ℤ (pos q *ℤ high) → (low ≤ℤ floor p q) × (floor p q ≤ℤ high)
floor_within p low high q h k l =
    (floor_at_least p low q h k, last (floor p q) high (floor_below p (high +ℤ pos 1) q h (more _ _ _ (one_more high) l)))
  where
    one_more : (z : ℤ) → pos q *ℤ (z +ℤ pos 1) ≡ (pos q *ℤ z) +ℤ pos q
    one_more z = by_ring (pos q ∷ z ∷ []) (times (var 0) (plus (var 1) (const (pos 1)))) (plus (times (var 0) (var 1)) (var 0)) refl

    more : (x y z : ℤ) → x ≡ y +ℤ pos q → z ≤ℤ y → z <ℤ x
    more x y z e l = omega (arith, ints)

    last : (f m : ℤ) → f <ℤ (m +ℤ pos 1) → f ≤ℤ m
    last f m l = omega (arith, ints)

pub nearest_within : (p low high : ℤ) (q : ℕ) → 0 < q → (pos q *ℤ low) ≤ℤ p → p ≤ℤ (pos q *ℤ high) → (low ≤ℤ nearest p q) × (nearest p q ≤ℤ high)
nearest_within p low high q h k l = (
  floor_at_least z low (2 * q) (omega arith) (below _ _ _ (doubled low) k),
  last (nearest p q) high (floor_below z (high +ℤ pos 1) (2 * q) (omega arith) (above _ _ _ (doubled_next high) l)),
)
  where
    z : ℤ
    z = (pos 2 *ℤ p) +ℤ pos q

    doubled : (n : ℤ) → pos (2 * q) *ℤ n ≡ pos 2 *ℤ (pos q *ℤ n)
    doubled n = by_ring (pos q ∷ n ∷ []) (times (times (const (pos 2)) (var 0)) (var 1)) (times (const (pos 2)) (times (var 0) (var 1))) refl

    doubled_next : (n : ℤ) → pos (2 * q) *ℤ (n +ℤ pos 1) ≡ (pos 2 *ℤ (pos q *ℤ n)) +ℤ (pos 2 *ℤ pos q)
    doubled_next n = by_ring (pos q ∷ n ∷ []) (times (times (const (pos 2)) (var 0)) (plus (var 1) (const (pos 1)))) (plus (times (const (pos 2)) (times (var 0) (var 1))) (times (const (pos 2)) (var 0))) refl

    below : (x y p : ℤ) → x ≡ pos 2 *ℤ y → y ≤ℤ p → x ≤ℤ ((pos 2 *ℤ p) +ℤ pos q)
    below x y p e l = omega (arith, ints)

    above : (x y p : ℤ) → x ≡ (pos 2 *ℤ y) +ℤ (pos 2 *ℤ pos q) → p ≤ℤ y → ((pos 2 *ℤ p) +ℤ pos q) <ℤ x
    above x y p e l = omega (arith, ints)

    last : (f m : ℤ) → f <ℤ (m +ℤ pos 1) → f ≤ℤ m
    last f m l = omega (arith, ints)

-- ---- the order of fractions is kept

pub nearest_monotone : (p r : ℤ) (q k : ℕ) → 0 < q → 0 < k → (p *ℤ pos k) ≤ℤ (r *ℤ pos q) → nearest p q ≤ℤ nearest r k
nearest_monotone p r q k some more h =
    floor_at_least ((pos 2 *ℤ r) +ℤ pos k) (nearest p q) (2 * k) (omega arith)
    (at_most_of_products (pos q) (pos (2 * k) *ℤ nearest p q) ((pos 2 *ℤ r) +ℤ pos k) (omega (arith, ints))
    (chain _ _ _ _ _ _ _ (across (nearest p q)) from to h (product_monotone (pos k) _ _ (omega (arith, ints)) (floor_low ((pos 2 *ℤ p) +ℤ pos q) (2 * q) (omega arith)))))
  where
    across : (n : ℤ) → pos q *ℤ (pos (2 * k) *ℤ n) ≡ pos k *ℤ (pos (2 * q) *ℤ n)
    across n =
        by_ring (pos q ∷ pos k ∷ n ∷ [])
        (times (var 0) (times (times (const (pos 2)) (var 1)) (var 2)))
        (times (var 1) (times (times (const (pos 2)) (var 0)) (var 2)))
        refl

    from : pos k *ℤ ((pos 2 *ℤ p) +ℤ pos q) ≡ (pos 2 *ℤ (p *ℤ pos k)) +ℤ (pos k *ℤ pos q)
    from =
        by_ring (p ∷ pos q ∷ pos k ∷ [])
        (times (var 2) (plus (times (const (pos 2)) (var 0)) (var 1)))
        (plus (times (const (pos 2)) (times (var 0) (var 2))) (times (var 2) (var 1)))
        refl

    to : pos q *ℤ ((pos 2 *ℤ r) +ℤ pos k) ≡ (pos 2 *ℤ (r *ℤ pos q)) +ℤ (pos k *ℤ pos q)
    to =
        by_ring (r ∷ pos q ∷ pos k ∷ [])
        (times (var 1) (plus (times (const (pos 2)) (var 0)) (var 2)))
        (plus (times (const (pos 2)) (times (var 0) (var 1))) (times (var 2) (var 1)))
        refl

    chain : (x y u v a b c : ℤ) → x ≡ y → u ≡ (pos 2 *ℤ a) +ℤ c → v ≡ (pos 2 *ℤ b) +ℤ c → a ≤ℤ b → y ≤ℤ u → x ≤ℤ v
    chain x y u v a b c e f g h k = omega (arith, ints)

-- equal fractions are rounded alike
pub nearest_same : (p r : ℤ) (q k : ℕ) → 0 < q → 0 < k → p *ℤ pos k ≡ r *ℤ pos q → nearest p q ≡ nearest r k
nearest_same p r q k some more e =
    same _ _ (nearest_monotone p r q k some more (at_most _ _ e)) (nearest_monotone r p k q more some (at_least _ _ e))
  where
    same : (x y : ℤ) → x ≤ℤ y → y ≤ℤ x → x ≡ y
    same x y h k = omega (arith, ints)

    at_most : (x y : ℤ) → x ≡ y → x ≤ℤ y
    at_most x y e = omega (arith, ints)

    at_least : (x y : ℤ) → x ≡ y → y ≤ℤ x
    at_least x y e = omega (arith, ints)
