-- What the tests on two segments tell.
--
-- Above, cite `opposite_tells`, `inside_tells` and `inside_apart`; of Bools, `both_true`, `one_true` and `not_true`.
use Rattle.std.proofs.Common.{◌≡◌, ◌≢◌, ◌<◌, Bool, true, false, not, ◌&&◌, ◌||◌, ℤ, pos, negsuc, ◌<ℤ◌, ◌⊎◌, inl, inr, ⊎_elim, refl, sym, arith}
use Rattle.std.specs.Prelude.{int_lt, unsigned_abs}
use Rattle.std.specs.Ordering.{int_eq}
use Rattle.std.proofs.lemmas.Int.{ints}
use Rattle.std.proofs.lemmas.Bool.Decides.{Decides-int_eq}
use Rattle.plane_base.proofs.Facts.Points.Orders.{point_total, point_less, before_is_less, less_apart}
use Rattle.plane_base.specs.Plane.{Point, Edge, turn, is_before}
use Rattle.plane_base.specs.Segments.{opposite, cross_properly, strictly_inside}

pub both_true : (a b : Bool) → a && b ≡ true → (a ≡ true) × (b ≡ true)
both_true true b e = (refl, e)
both_true false b e = absurd (cc)

pub one_true : (a b : Bool) → a || b ≡ true → (a ≡ true) ⊎ (b ≡ true)
one_true true b e = inl refl
one_true false b e = inr e

pub not_true : (a : Bool) → not a ≡ true → a ≡ false
not_true true e = absurd (cc)
not_true false e = refl

-- numbers on the two sides of 0
abbrev pub AreOpposite : ℤ → ℤ → Type 0
AreOpposite m n = ((pos 0 <ℤ m) × (n <ℤ pos 0)) ⊎ ((m <ℤ pos 0) × (pos 0 <ℤ n))

pub less_is : (x y : ℤ) → int_lt x y ≡ true → x <ℤ y
less_is x y e = omega (arith, ints)

pub opposite_tells : (m n : ℤ) → opposite m n ≡ true → AreOpposite m n
opposite_tells m n e =
    ⊎_elim
    (λ h. let p = both_true (int_lt (pos 0) m) (int_lt n (pos 0)) h in inl (less_is (pos 0) m p.0, less_is n (pos 0) p.1))
    (λ h. let p = both_true (int_lt m (pos 0)) (int_lt (pos 0) n) h in inr (less_is m (pos 0) p.0, less_is (pos 0) n p.1))
    (one_true (int_lt (pos 0) m && int_lt n (pos 0)) (int_lt m (pos 0) && int_lt (pos 0) n) e)

some_above : (m : ℤ) → pos 0 <ℤ m → 0 < unsigned_abs m
some_above (pos m) h = omega (arith, ints)
some_above (negsuc m) h = absurd (omega (arith, ints))

some_below : (m : ℤ) → m <ℤ pos 0 → 0 < unsigned_abs m
some_below (pos m) h = absurd (omega (arith, ints))
some_below (negsuc m) h = omega arith

-- neither is 0
pub opposite_apart : (m n : ℤ) → opposite m n ≡ true → (0 < unsigned_abs m) × (0 < unsigned_abs n)
opposite_apart m n e =
    ⊎_elim (λ h. (some_above m h.0, some_below n h.1)) (λ h. (some_below m h.0, some_above n h.1)) (opposite_tells m n e)

-- Where two segments cross properly, no end of the first lies on the line of the second.
pub ends_apart : (s t : Edge) → cross_properly s t ≡ true → (0 < unsigned_abs (turn t.a t.b s.a)) × (0 < unsigned_abs (turn t.a t.b s.b))
ends_apart s t e = opposite_apart (turn t.a t.b s.a) (turn t.a t.b s.b) (both_true (opposite (turn s.a s.b t.a) (turn s.a s.b t.b)) (opposite (turn t.a t.b s.a) (turn t.a t.b s.b)) e).1

-- ---- ends inside

-- left of, or below in one column
abbrev pub IsBefore : Point → Point → Type 0
IsBefore p q = (p.x <ℤ q.x) ⊎ ((p.x ≡ q.x) × (p.y <ℤ q.y))

before_tells : (p q : Point) → is_before p q ≡ true → IsBefore p q
before_tells p q e = point_less p q (before_is_less p q e)

before_apart : (p q : Point) → is_before p q ≡ true → p ≢ q
before_apart p q e = less_apart point_total p q (before_is_less p q e)

-- on the line, after a and before b
pub inside_tells : (p : Point) (s : Edge) → strictly_inside p s ≡ true → (turn s.a s.b p ≡ pos 0) × (IsBefore s.a p) × (IsBefore p s.b)
inside_tells p s e =
    let h = both_true (int_eq (turn s.a s.b p) (pos 0)) (is_before s.a p && is_before p s.b) e in
    let k = both_true (is_before s.a p) (is_before p s.b) h.1 in
    ((Decides-int_eq (turn s.a s.b p) (pos 0)).0 h.0, before_tells s.a p k.0, before_tells p s.b k.1)

pub inside_apart : (p : Point) (s : Edge) → strictly_inside p s ≡ true → (p ≢ s.a) × (p ≢ s.b)
inside_apart p s e =
    let h = both_true (int_eq (turn s.a s.b p) (pos 0)) (is_before s.a p && is_before p s.b) e in
    let k = both_true (is_before s.a p) (is_before p s.b) h.1 in
    ((λ f. before_apart s.a p k.0 (sym f)), before_apart p s.b k.1)
