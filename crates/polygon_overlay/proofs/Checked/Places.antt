-- In which column and which row of unit squares a fraction lies.
use Rattle.std.proofs.Common.{◌≡◌, ℕ, ◌/◌, ◌<◌, ℤ, pos, negsuc, ◌+ℤ◌, ◌-ℤ◌, ◌*ℤ◌, neg_ℤ, ◌≤ℤ◌, ◌<ℤ◌, ap, ◌∙◌, subst, arith}
use Rattle.std.proofs.lemmas.Int.{ints}
use Rattle.std.specs.Int.{int_div_euclid}
use Rattle.plane_base.proofs.Facts.Numbers.Products.{product_left_comm, product_of_sum, product_of_negation, product_monotone, product_increasing, below_of_products, at_most_of_products}
use Rattle.polygon_overlay.proofs.Tiles.Steps.{at_most, at_most_below, below_at_most}

-- ---- order

pub both_ways : (x y : ℤ) → x ≤ℤ y → y ≤ℤ x → x ≡ y
both_ways x y l m = omega (arith, ints)

-- ---- floors

abbrev pub floor : ℤ → ℕ → ℤ
floor a q = int_div_euclid a (pos q)

pub floor_low : (a : ℤ) (q : ℕ) → 0 < q → (pos q *ℤ floor a q) ≤ℤ a
floor_low (pos a) q h = omega (arith, ints)
floor_low (negsuc a) q h = omega (arith, ints)

pub floor_high : (a : ℤ) (q : ℕ) → 0 < q → a <ℤ (pos q *ℤ (floor a q +ℤ pos 1))
floor_high (pos a) q h = omega (arith, ints)
floor_high (negsuc a) q h =
    let e : negsuc (a / q) +ℤ pos 1 ≡ neg_ℤ (pos (a / q)) = omega (arith, ints) in
    rw (e, product_of_negation (pos q) (pos (a / q))) (omega (arith, ints))

-- a whole number at or below a / q lies at or below its floor
pub floor_at_least : (a n : ℤ) (q : ℕ) → 0 < q → (pos q *ℤ n) ≤ℤ a → n ≤ℤ floor a q
floor_at_least a n q h k =
    next n (floor a q) (below_of_products (pos q) n (floor a q +ℤ pos 1) (omega (arith, ints)) (at_most_below _ _ _ k (floor_high a q h)))
  where
    next : (m f : ℤ) → m <ℤ (f +ℤ pos 1) → m ≤ℤ f
    next m f l = omega (arith, ints)

-- a whole number above a / q lies above its floor
pub floor_below : (a n : ℤ) (q : ℕ) → 0 < q → a <ℤ (pos q *ℤ n) → floor a q <ℤ n
floor_below a n q h k = below_of_products (pos q) (floor a q) n (omega (arith, ints)) (at_most_below _ _ _ (floor_low a q h) k)

pub floor_is : (a n : ℤ) (q : ℕ) → 0 < q → (pos q *ℤ n) ≤ℤ a → a <ℤ (pos q *ℤ (n +ℤ pos 1)) → floor a q ≡ n
floor_is a n q h k l = between (floor a q) n (floor_at_least a n q h k) (floor_below a (n +ℤ pos 1) q h l)
  where
    between : (f m : ℤ) → m ≤ℤ f → f <ℤ (m +ℤ pos 1) → f ≡ m
    between f m k l = omega (arith, ints)

-- whole numbers come out
pub floor_moves : (a k : ℤ) (q : ℕ) → 0 < q → floor (a +ℤ (pos q *ℤ k)) q ≡ floor a q +ℤ k
floor_moves a k q h =
    floor_is (a +ℤ (pos q *ℤ k)) (floor a q +ℤ k) q h
    (low _ _ _ _ (product_of_sum (pos q) (floor a q) k) (floor_low a q h))
    (high _ _ _ _ (later (floor a q)) (floor_high a q h))
  where
    low : (x y w z : ℤ) → x ≡ y +ℤ w → y ≤ℤ z → x ≤ℤ (z +ℤ w)
    low x y w z e l = omega (arith, ints)

    high : (x y w z : ℤ) → x ≡ y +ℤ w → z <ℤ y → (z +ℤ w) <ℤ x
    high x y w z e l = omega (arith, ints)

    order : (f k : ℤ) → (f +ℤ k) +ℤ pos 1 ≡ (f +ℤ pos 1) +ℤ k
    order f k = omega (arith, ints)

    later : (f : ℤ) → pos q *ℤ ((f +ℤ k) +ℤ pos 1) ≡ (pos q *ℤ (f +ℤ pos 1)) +ℤ (pos q *ℤ k)
    later f = ap (λ x. pos q *ℤ x) (order f k) ∙ product_of_sum (pos q) (f +ℤ pos 1) k

-- a greater fraction has no lesser floor
pub floor_rises : (a : ℤ) (q : ℕ) (b : ℤ) (s : ℕ) → 0 < q → 0 < s → (pos s *ℤ a) ≤ℤ (pos q *ℤ b) → floor a q ≤ℤ floor b s
floor_rises a q b s h k l =
    floor_at_least b (floor a q) s k
    (at_most_of_products (pos q) (pos s *ℤ floor a q) b (omega (arith, ints))
    (at_most _ _ _ (subst (λ x. x ≤ℤ (pos s *ℤ a)) (product_left_comm (pos s) (pos q) (floor a q)) (product_monotone (pos s) (pos q *ℤ floor a q) a (omega (arith, ints)) (floor_low a q h))) l))

-- ---- rows, whose tops belong to them

abbrev pub row_of : ℤ → ℕ → ℤ
row_of a q = floor (a -ℤ pos 1) q

pub row_moves : (a k : ℤ) (q : ℕ) → 0 < q → row_of (a +ℤ (pos q *ℤ k)) q ≡ row_of a q +ℤ k
row_moves a k q h = ap (λ x. floor x q) (order a (pos q *ℤ k)) ∙ floor_moves (a -ℤ pos 1) k q h
  where
    order : (a b : ℤ) → (a +ℤ b) -ℤ pos 1 ≡ (a -ℤ pos 1) +ℤ b
    order a b = omega (arith, ints)

pub row_low : (a : ℤ) (q : ℕ) → 0 < q → (pos q *ℤ row_of a q) <ℤ a
row_low a q h = less (pos q *ℤ row_of a q) a (floor_low (a -ℤ pos 1) q h)
  where
    less : (x a : ℤ) → x ≤ℤ (a -ℤ pos 1) → x <ℤ a
    less x a l = omega (arith, ints)

pub row_high : (a : ℤ) (q : ℕ) → 0 < q → a ≤ℤ (pos q *ℤ (row_of a q +ℤ pos 1))
row_high a q h = up_to (pos q *ℤ (row_of a q +ℤ pos 1)) a (floor_high (a -ℤ pos 1) q h)
  where
    up_to : (x a : ℤ) → (a -ℤ pos 1) <ℤ x → a ≤ℤ x
    up_to x a l = omega (arith, ints)

pub row_at_least : (a n : ℤ) (q : ℕ) → 0 < q → (pos q *ℤ n) <ℤ a → n ≤ℤ row_of a q
row_at_least a n q h l = floor_at_least (a -ℤ pos 1) n q h (less (pos q *ℤ n) a l)
  where
    less : (x a : ℤ) → x <ℤ a → x ≤ℤ (a -ℤ pos 1)
    less x a l = omega (arith, ints)

pub row_below : (a n : ℤ) (q : ℕ) → 0 < q → a ≤ℤ (pos q *ℤ n) → row_of a q <ℤ n
row_below a n q h l = floor_below (a -ℤ pos 1) n q h (less (pos q *ℤ n) a l)
  where
    less : (x a : ℤ) → a ≤ℤ x → (a -ℤ pos 1) <ℤ x
    less x a l = omega (arith, ints)

pub row_rises : (a : ℤ) (q : ℕ) (b : ℤ) (s : ℕ) → 0 < q → 0 < s → (pos s *ℤ a) ≤ℤ (pos q *ℤ b) → row_of a q ≤ℤ row_of b s
row_rises a q b s h k l =
    row_at_least b (row_of a q) s k
    (below_of_products (pos q) (pos s *ℤ row_of a q) b (omega (arith, ints))
    (below_at_most _ _ _ (subst (λ x. x <ℤ (pos s *ℤ a)) (product_left_comm (pos s) (pos q) (row_of a q)) (product_increasing (pos s) (pos q *ℤ row_of a q) a (omega (arith, ints)) (row_low a q h))) l))
