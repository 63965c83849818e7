-- Equations between polynomials over ℤ, proved by their normal forms.
--
--     by_ring (a ∷ b ∷ []) (times (plus (var 0) (var 1)) (var 0)) (plus (times (var 0) (var 0)) (times (var 1) (var 0))) refl
--         : (a +ℤ b) *ℤ a ≡ (a *ℤ a) +ℤ (b *ℤ a)
use Rattle.std.proofs.Common.{◌≡◌, ℕ, zero, suc, Bool, true, false, ◌&&◌, eqb, ltb, List, [], ◌∷◌, ℤ, pos, negsuc, ◌+ℤ◌, ◌-ℤ◌, ◌*ℤ◌, neg_ℤ, refl, sym, ap, ◌∙◌, arith, eqb-true}
use Rattle.std.proofs.lemmas.Int.{ints}
use Rattle.std.proofs.Math.IntN.{*ℤ-zero, zero-*ℤ}
use Rattle.plane_base.proofs.Facts.Numbers.Products.{product_assoc, product_of_sum, sum_product, product_left_comm}
use Rattle.plane_base.proofs.Facts.Crossings.Tests.{both_true}

pub data Expr : Type 0 where
  var : ℕ → Expr
  const : ℤ → Expr
  plus : Expr → Expr → Expr
  minus : Expr → Expr → Expr
  times : Expr → Expr → Expr
  opposite : Expr → Expr

-- the variable n stands for the number at n in the list
abbrev pub numbered : List ℤ → ℕ → ℤ
numbered [] n = pos 0
numbered (x ∷ xs) zero = x
numbered (x ∷ xs) (suc n) = numbered xs n

abbrev pub value : List ℤ → Expr → ℤ
value xs (var n) = numbered xs n
value xs (const c) = c
value xs (plus a b) = value xs a +ℤ value xs b
value xs (minus a b) = value xs a -ℤ value xs b
value xs (times a b) = value xs a *ℤ value xs b
value xs (opposite a) = neg_ℤ (value xs a)

-- a product of variables, by their numbers in rising order
abbrev power : List ℤ → List ℕ → ℤ
power xs [] = pos 1
power xs (n ∷ m) = numbered xs n *ℤ power xs m

-- a coefficient and a product of variables
pub data Term : Type 0 where
  term : ℤ → List ℕ → Term

abbrev worth : List ℤ → Term → ℤ
worth xs (term c m) = c *ℤ power xs m

-- a sum of terms, their products of variables in rising order
abbrev combined : List ℤ → List Term → ℤ
combined xs [] = pos 0
combined xs (t ∷ p) = worth xs t +ℤ combined xs p

-- ---- the normal form

abbrev same : List ℕ → List ℕ → Bool
same [] [] = true
same [] (b ∷ n) = false
same (a ∷ m) [] = false
same (a ∷ m) (b ∷ n) = eqb a b && same m n

abbrev before : List ℕ → List ℕ → Bool
before [] n = true
before (a ∷ m) [] = false
before (a ∷ m) (b ∷ n) = elim (eqb a b) [ true ↦ before m n | false ↦ ltb a b ]

abbrev with_variable_by : Bool → ℕ → ℕ → List ℕ → List ℕ → List ℕ
with_variable_by true a b n later = a ∷ b ∷ n
with_variable_by false a b n later = b ∷ later

abbrev with_variable : ℕ → List ℕ → List ℕ
with_variable a [] = a ∷ []
with_variable a (b ∷ n) = let later = with_variable a n in with_variable_by (ltb a b) a b n later

abbrev joined : List ℕ → List ℕ → List ℕ
joined [] n = n
joined (a ∷ m) n = with_variable a (joined m n)

abbrev with_term_by : Bool → Bool → ℤ → List ℕ → ℤ → List ℕ → List Term → List Term → List Term
with_term_by true first c m d n p later = term (c +ℤ d) m ∷ p
with_term_by false true c m d n p later = term c m ∷ term d n ∷ p
with_term_by false false c m d n p later = term d n ∷ later

abbrev with_term : ℤ → List ℕ → List Term → List Term
with_term c m [] = term c m ∷ []
with_term c m (term d n ∷ p) = let later = with_term c m p in with_term_by (same m n) (before m n) c m d n p later

abbrev added : List Term → List Term → List Term
added [] q = q
added (term c m ∷ p) q = with_term c m (added p q)

-- c times the variables m times each term, added to a sum
abbrev added_multiple : ℤ → List ℕ → List Term → List Term → List Term
added_multiple c m [] r = r
added_multiple c m (term d n ∷ q) r = with_term (c *ℤ d) (joined m n) (added_multiple c m q r)

abbrev multiplied : List Term → List Term → List Term
multiplied [] q = []
multiplied (term c m ∷ p) q = added_multiple c m q (multiplied p q)

abbrev pub normal : Expr → List Term
normal (var n) = term (pos 1) (n ∷ []) ∷ []
normal (const c) = term c [] ∷ []
normal (plus a b) = added (normal a) (normal b)
normal (minus a b) = added_multiple (negsuc 0) [] (normal b) (normal a)
normal (times a b) = multiplied (normal a) (normal b)
normal (opposite a) = added_multiple (negsuc 0) [] (normal a) []

abbrev is_zero : ℤ → Bool
is_zero (pos n) = eqb n 0
is_zero (negsuc n) = false

-- each coefficient is 0
abbrev pub vanishes : List Term → Bool
vanishes [] = true
vanishes (term c m ∷ p) = is_zero c && vanishes p

-- ---- it has the value of the expression

same_is : (m n : List ℕ) → same m n ≡ true → m ≡ n
same_is [] [] e = refl
same_is [] (b ∷ n) e = cc
same_is (a ∷ m) [] e = cc
same_is (a ∷ m) (b ∷ n) e =
    let p = both_true (eqb a b) (same m n) e in
    let h = eqb-true a b p.0 in
    let t = same_is m n p.1 in cc

one_product : (x : ℤ) → x ≡ pos 1 *ℤ x
one_product x = omega (arith, ints)

module _ (xs : List ℤ) where
  with_variable_value : (a : ℕ) (m : List ℕ) → power xs (with_variable a m) ≡ numbered xs a *ℤ power xs m
  with_variable_value a [] = refl
  with_variable_value a (b ∷ n) = by (ltb a b) (with_variable_value a n)
    where
      by : (first : Bool) → power xs (with_variable a n) ≡ numbered xs a *ℤ power xs n → power xs (with_variable_by first a b n (with_variable a n)) ≡ numbered xs a *ℤ (numbered xs b *ℤ power xs n)
      by true h = refl
      by false h = ap (λ x. numbered xs b *ℤ x) h ∙ product_left_comm (numbered xs b) (numbered xs a) (power xs n)

  joined_value : (m n : List ℕ) → power xs (joined m n) ≡ power xs m *ℤ power xs n
  joined_value [] n = one_product (power xs n)
  joined_value (a ∷ m) n =
      with_variable_value a (joined m n) ∙ ap (λ x. numbered xs a *ℤ x) (joined_value m n) ∙ sym (product_assoc (numbered xs a) (power xs m) (power xs n))

  with_term_value : (c : ℤ) (m : List ℕ) (p : List Term) → combined xs (with_term c m p) ≡ (c *ℤ power xs m) +ℤ combined xs p
  with_term_value c m [] = refl
  with_term_value c m (term d n ∷ p) = by (same m n) (before m n) refl (with_term_value c m p)
    where
      one_more : (u v s t : ℤ) → s ≡ u +ℤ t → v +ℤ s ≡ u +ℤ (v +ℤ t)
      one_more u v s t h = omega (arith, ints)

      together : (u v s t : ℤ) → s ≡ u +ℤ v → s +ℤ t ≡ u +ℤ (v +ℤ t)
      together u v s t h = omega (arith, ints)

      by : (here first : Bool) → same m n ≡ here → combined xs (with_term c m p) ≡ (c *ℤ power xs m) +ℤ combined xs p → combined xs (with_term_by here first c m d n p (with_term c m p)) ≡ (c *ℤ power xs m) +ℤ ((d *ℤ power xs n) +ℤ combined xs p)
      by true first e h =
          together (c *ℤ power xs m) (d *ℤ power xs n) ((c +ℤ d) *ℤ power xs m) (combined xs p)
          (sum_product c d (power xs m) ∙ ap (λ w. (c *ℤ power xs m) +ℤ (d *ℤ power xs w)) (same_is m n e))
      by false true e h = refl
      by false false e h = one_more (c *ℤ power xs m) (d *ℤ power xs n) (combined xs (with_term c m p)) (combined xs p) h

  added_value : (p q : List Term) → combined xs (added p q) ≡ combined xs p +ℤ combined xs q
  added_value [] q = start (combined xs q)
    where
      start : (x : ℤ) → x ≡ pos 0 +ℤ x
      start x = omega (arith, ints)
  added_value (term c m ∷ p) q = next (c *ℤ power xs m) _ (combined xs p) (combined xs q) _ (with_term_value c m (added p q)) (added_value p q)
    where
      next : (u s p q t : ℤ) → t ≡ u +ℤ s → s ≡ p +ℤ q → t ≡ (u +ℤ p) +ℤ q
      next u s p q t e f = omega (arith, ints)

  exchanged : (c d u v : ℤ) → (c *ℤ d) *ℤ (u *ℤ v) ≡ (c *ℤ u) *ℤ (d *ℤ v)
  exchanged c d u v = product_assoc c d (u *ℤ v) ∙ ap (λ x. c *ℤ x) (product_left_comm d u v) ∙ sym (product_assoc c u (d *ℤ v))

  added_multiple_value : (c : ℤ) (m : List ℕ) (q r : List Term) → combined xs (added_multiple c m q r) ≡ ((c *ℤ power xs m) *ℤ combined xs q) +ℤ combined xs r
  added_multiple_value c m [] r = start (c *ℤ power xs m) (combined xs r)
    where
      start : (u x : ℤ) → x ≡ (u *ℤ pos 0) +ℤ x
      start u x = omega (arith, ints)
  added_multiple_value c m (term d n ∷ q) r =
      next _ ((c *ℤ power xs m) *ℤ (d *ℤ power xs n)) ((c *ℤ power xs m) *ℤ combined xs q) (combined xs r) _ _
      (with_term_value (c *ℤ d) (joined m n) (added_multiple c m q r) ∙ ap (λ x. ((c *ℤ d) *ℤ x) +ℤ combined xs (added_multiple c m q r)) (joined_value m n) ∙ ap (λ x. x +ℤ combined xs (added_multiple c m q r)) (exchanged c d (power xs m) (power xs n)))
      (added_multiple_value c m q r)
      (product_of_sum (c *ℤ power xs m) (d *ℤ power xs n) (combined xs q))
    where
      next : (s u v r t w : ℤ) → t ≡ u +ℤ s → s ≡ v +ℤ r → w ≡ u +ℤ v → t ≡ w +ℤ r
      next s u v r t w e f g = omega (arith, ints)

  multiplied_value : (p q : List Term) → combined xs (multiplied p q) ≡ combined xs p *ℤ combined xs q
  multiplied_value [] q = sym (zero-*ℤ (combined xs q))
  multiplied_value (term c m ∷ p) q =
      added_multiple_value c m q (multiplied p q) ∙ ap (λ x. ((c *ℤ power xs m) *ℤ combined xs q) +ℤ x) (multiplied_value p q) ∙ sym (sum_product (c *ℤ power xs m) (combined xs p) (combined xs q))

  normal_value : (a : Expr) → combined xs (normal a) ≡ value xs a
  normal_value (var n) = single (numbered xs n)
    where
      single : (x : ℤ) → (pos 1 *ℤ (x *ℤ pos 1)) +ℤ pos 0 ≡ x
      single x = omega (arith, ints)
  normal_value (const c) = single c
    where
      single : (x : ℤ) → (x *ℤ pos 1) +ℤ pos 0 ≡ x
      single x = omega (arith, ints)
  normal_value (plus a b) = added_value (normal a) (normal b) ∙ (ap (λ x. x +ℤ combined xs (normal b)) (normal_value a) ∙ ap (λ x. value xs a +ℤ x) (normal_value b))
  normal_value (minus a b) =
      added_multiple_value (negsuc 0) [] (normal b) (normal a) ∙ taken (combined xs (normal a)) (combined xs (normal b)) (value xs a) (value xs b) (normal_value a) (normal_value b)
    where
      taken : (x y u v : ℤ) → x ≡ u → y ≡ v → ((negsuc 0 *ℤ pos 1) *ℤ y) +ℤ x ≡ u -ℤ v
      taken x y u v e f = omega (arith, ints)
  normal_value (times a b) = multiplied_value (normal a) (normal b) ∙ (ap (λ x. x *ℤ combined xs (normal b)) (normal_value a) ∙ ap (λ x. value xs a *ℤ x) (normal_value b))
  normal_value (opposite a) =
      added_multiple_value (negsuc 0) [] (normal a) [] ∙ taken (combined xs (normal a)) (value xs a) (normal_value a)
    where
      taken : (x u : ℤ) → x ≡ u → ((negsuc 0 *ℤ pos 1) *ℤ x) +ℤ pos 0 ≡ neg_ℤ u
      taken x u e = omega (arith, ints)

  zero_is : (c : ℤ) → is_zero c ≡ true → c ≡ pos 0
  zero_is (pos n) e = ap pos (eqb-true n 0 e)
  zero_is (negsuc n) e = cc

  vanishing_value : (p : List Term) → vanishes p ≡ true → combined xs p ≡ pos 0
  vanishing_value [] e = refl
  vanishing_value (term c m ∷ p) e =
      let h = both_true (is_zero c) (vanishes p) e in
      next c (power xs m) (combined xs p) (zero_is c h.0) (vanishing_value p h.1)
    where
      next : (c u s : ℤ) → c ≡ pos 0 → s ≡ pos 0 → (c *ℤ u) +ℤ s ≡ pos 0
      next c u s e f = ap (λ x. (x *ℤ u) +ℤ s) e ∙ (ap (λ x. x +ℤ s) (zero-*ℤ u) ∙ (ap (λ x. pos 0 +ℤ x) f))

-- two polynomials whose difference has only zeros for coefficients have equal values at all numbers xs
pub by_ring : (xs : List ℤ) (a b : Expr) → vanishes (normal (minus a b)) ≡ true → value xs a ≡ value xs b
by_ring xs a b e = none (value xs a) (value xs b) (sym (normal_value xs (minus a b)) ∙ vanishing_value xs (normal (minus a b)) e)
  where
    none : (x y : ℤ) → x -ℤ y ≡ pos 0 → x ≡ y
    none x y h = omega (arith, ints)

-- the same where the difference is a multiple of the difference of two others that are known to be equal
pub by_ring_given : (xs : List ℤ) (a b k p q : Expr) → value xs p ≡ value xs q → vanishes (normal (minus (minus a b) (times k (minus p q)))) ≡ true → value xs a ≡ value xs b
by_ring_given xs a b k p q h e =
    none (value xs a) (value xs b) (value xs k) (value xs p) (value xs q) h (by_ring xs (minus a b) (times k (minus p q)) e)
  where
    none : (x y k u v : ℤ) → u ≡ v → x -ℤ y ≡ k *ℤ (u -ℤ v) → x ≡ y
    none x y k u v h d =
        let z : u -ℤ v ≡ pos 0 = omega (arith, ints) in
        let n : x -ℤ y ≡ pos 0 = d ∙ (ap (λ w. k *ℤ w) z ∙ *ℤ-zero k) in
        omega (arith, ints)
