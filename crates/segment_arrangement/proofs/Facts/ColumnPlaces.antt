-- The column of a rational point, and the edges that reach over it.
use Rattle.std.proofs.Common.{◌≡◌, ℕ, ◌+◌, ◌*◌, ◌<◌, ◌/◌, ◌%◌, Bool, true, false, ◌&&◌, ℤ, pos, negsuc, ◌+ℤ◌, ◌*ℤ◌, ◌≤ℤ◌, ◌<ℤ◌, int_lt, int_le, refl, sym, ap, ap₂, arith}
use Rattle.std.proofs.lemmas.Int.{ints, by_lt_z}
use Rattle.std.proofs.lemmas.Bool.{and_parts, and_from}
use Rattle.plane_base.specs.Plane.{Edge, RationalPoint, IsRational, spans}
use Rattle.plane_base.specs.ColumnLaws.{IsLive, IsOver}
use Rattle.plane_base.proofs.Facts.Numbers.Products.{product_of_sum, product_monotone}
use Rattle.segment_arrangement.specs.Columns.{is_live}

-- ---- tests

pub same_tests : (b c : Bool) → (b ≡ true → c ≡ true) → (c ≡ true → b ≡ true) → b ≡ c
same_tests true c h k = sym (h refl)
same_tests false true h k = k refl
same_tests false false h k = refl

pub lt_holds : (x y : ℤ) → x <ℤ y → int_lt x y ≡ true
lt_holds x y h = grind (arith, ints)

pub lt_fails : (x y : ℤ) → y ≤ℤ x → int_lt x y ≡ false
lt_fails x y h = grind (arith, ints)

pub lt_tells : (x y : ℤ) → int_lt x y ≡ true → x <ℤ y
lt_tells x y h = omega (arith, ints)

pub lt_tells_not : (x y : ℤ) → int_lt x y ≡ false → y ≤ℤ x
lt_tells_not x y h = omega (arith, ints)

pub le_holds : (x y : ℤ) → x ≤ℤ y → int_le x y ≡ true
le_holds x y h = grind (arith, ints)

pub le_fails : (x y : ℤ) → y <ℤ x → int_le x y ≡ false
le_fails x y h = grind (arith, ints)

pub le_tells : (x y : ℤ) → int_le x y ≡ true → x ≤ℤ y
le_tells x y h = omega (arith, ints)

-- ---- live edges

pub live_tells : (x : ℤ) (s : Edge) → is_live x s ≡ true → IsLive x s
live_tells x s e = let h = and_parts (int_le s.a.x x) (int_lt x s.b.x) e in (le_tells s.a.x x h.0, lt_tells x s.b.x h.1)

pub live_holds : (x : ℤ) (s : Edge) → IsLive x s → is_live x s ≡ true
live_holds x s h = and_from (int_le s.a.x x) (int_lt x s.b.x) (le_holds s.a.x x h.0) (lt_holds x s.b.x h.1)

-- not where it ends, nor before it starts
pub not_live_ended : (x : ℤ) (s : Edge) → s.b.x ≤ℤ x → is_live x s ≡ false
not_live_ended x s h = by (int_le s.a.x x) (int_lt x s.b.x) (lt_fails x s.b.x h)
  where
    by : (b c : Bool) → c ≡ false → b && c ≡ false
    by true c e = e
    by false c e = refl

pub not_live_unstarted : (x : ℤ) (s : Edge) → x <ℤ s.a.x → is_live x s ≡ false
not_live_unstarted x s h = ap (λ b. b && int_lt x s.b.x) (le_fails s.a.x x h)

-- ---- the column of a point

-- the whole number x with x ≤ p.x / q < x + 1
pub record IsColumn (x : ℤ) (p : RationalPoint) : Type 0 where
  pub from : (pos p.q *ℤ x) ≤ℤ p.x
  pub to : p.x <ℤ (pos p.q *ℤ (x +ℤ pos 1))

column_at : (z : ℤ) (q : ℕ) → 0 < q → (x : ℤ) × ((pos q *ℤ x) ≤ℤ z) × (z <ℤ (pos q *ℤ (x +ℤ pos 1)))
column_at (pos n) q some = (pos (n / q), start n q (n / q) (n % q) (by n q some), after n q (n / q) (n % q) (by n q some) (rest n q some))
  where
    by : (n q : ℕ) → 0 < q → n ≡ q * (n / q) + n % q
    by n q h = omega arith

    rest : (n q : ℕ) → 0 < q → n % q < q
    rest n q h = omega arith

    start : (n q m r : ℕ) → n ≡ q * m + r → (pos q *ℤ pos m) ≤ℤ pos n
    start n q m r e = omega (arith, ints)

    after : (n q m r : ℕ) → n ≡ q * m + r → r < q → pos n <ℤ (pos q *ℤ (pos m +ℤ pos 1))
    after n q m r e h = omega (arith, ints, product_of_sum (pos q) (pos m) (pos 1))
column_at (negsuc n) q some = (negsuc (n / q), start n q (n / q) (n % q) (by n q some) (rest n q some), after n q (n / q) (n % q) (by n q some))
  where
    by : (n q : ℕ) → 0 < q → n ≡ q * (n / q) + n % q
    by n q h = omega arith

    rest : (n q : ℕ) → 0 < q → n % q < q
    rest n q h = omega arith

    start : (n q m r : ℕ) → n ≡ q * m + r → r < q → (pos q *ℤ negsuc m) ≤ℤ negsuc n
    start n q m r e h = omega (arith, ints)

    after : (n q m r : ℕ) → n ≡ q * m + r → negsuc n <ℤ (pos q *ℤ (negsuc m +ℤ pos 1))
    after n q m r e = omega (arith, ints, product_of_sum (pos q) (negsuc m) (pos 1))

pub column_of : (p : RationalPoint) → IsRational p → (x : ℤ) × IsColumn x p
column_of p some = let h = column_at p.x p.q some in (h.0, record { from = h.1; to = h.2 })

pub whole_column : (p : RationalPoint) (x : ℤ) → IsRational p → pos p.q *ℤ x ≡ p.x → IsColumn x p
whole_column p x some e = record { from = omega (arith, ints, e); to = next (pos p.q *ℤ x) (pos p.q) (pos p.q *ℤ (x +ℤ pos 1)) (product_of_sum (pos p.q) x (pos 1)) (omega (arith, ints)) e }
  where
    next : (y q z : ℤ) → z ≡ y +ℤ (q *ℤ pos 1) → pos 0 <ℤ q → y ≡ p.x → p.x <ℤ z
    next y q z e h f = omega (arith, ints)

-- an edge spans the point's column where it is live there
pub spans_live : (x : ℤ) (p : RationalPoint) → IsRational p → IsColumn x p → (s : Edge) → spans s.a s.b p ≡ is_live x s
spans_live x p some h s =
    ap₂ (λ b c. b && c)
    (same_tests (int_le (pos p.q *ℤ s.a.x) p.x) (int_le s.a.x x) (λ e. le_holds s.a.x x (begun s.a.x (le_tells (pos p.q *ℤ s.a.x) p.x e))) (λ e. le_holds (pos p.q *ℤ s.a.x) p.x (chain _ _ _ (product_monotone (pos p.q) s.a.x x (omega (arith, ints)) (le_tells s.a.x x e)) h.from)))
    (same_tests (int_lt p.x (pos p.q *ℤ s.b.x)) (int_lt x s.b.x) (λ e. lt_holds x s.b.x (unended s.b.x (lt_tells p.x (pos p.q *ℤ s.b.x) e))) (λ e. lt_holds p.x (pos p.q *ℤ s.b.x) (chain_under _ _ _ h.to (product_monotone (pos p.q) (x +ℤ pos 1) s.b.x (omega (arith, ints)) (after s.b.x (lt_tells x s.b.x e))))))
  where
    chain : (x y z : ℤ) → x ≤ℤ y → y ≤ℤ z → x ≤ℤ z
    chain x y z l m = omega (arith, ints)

    chain_under : (x y z : ℤ) → x <ℤ y → y ≤ℤ z → x <ℤ z
    chain_under x y z l m = omega (arith, ints)

    after : (y : ℤ) → x <ℤ y → (x +ℤ pos 1) ≤ℤ y
    after y l = omega (arith, ints)

    clash : (y z : ℤ) {A : Type 0} → y ≤ℤ z → z <ℤ y → A
    clash y z l m = absurd (omega (arith, ints))

    clash_under : (y z w : ℤ) {A : Type 0} → y ≤ℤ z → z ≤ℤ w → w <ℤ y → A
    clash_under y z w l m n = absurd (omega (arith, ints))

    begun : (y : ℤ) → (pos p.q *ℤ y) ≤ℤ p.x → y ≤ℤ x
    begun y l =
        by_lt_z x y
        (λ m. clash_under _ _ _ (product_monotone (pos p.q) (x +ℤ pos 1) y (omega (arith, ints)) (after y m)) l h.to)
        (λ m. m)

    unended : (y : ℤ) → p.x <ℤ (pos p.q *ℤ y) → x <ℤ y
    unended y l = by_lt_z x y (λ m. m) (λ m. clash_under _ _ _ (product_monotone (pos p.q) y x (omega (arith, ints)) m) h.from l)

pub column_over : (x : ℤ) (p : RationalPoint) → IsColumn x p → IsOver x p
column_over x p h = (h.from, weak p.x (pos p.q *ℤ (x +ℤ pos 1)) h.to)
  where
    weak : (x y : ℤ) → x <ℤ y → x ≤ℤ y
    weak x y l = omega (arith, ints)
