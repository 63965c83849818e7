-- Laws of products over ℤ, and the signs of products.
use Rattle.std.proofs.Common.{◌≡◌, ℕ, ◌*◌, ◌<◌, ℤ, pos, negsuc, ◌+ℤ◌, ◌-ℤ◌, ◌*ℤ◌, neg_ℤ, ◌≤ℤ◌, ◌<ℤ◌, zero, suc, ◌⊎◌, inl, inr, refl, ◌∙◌, sym, ap, arith, mul-pos}
use Rattle.std.proofs.lemmas.Int.{ints, by_lt_z}
use Rattle.std.proofs.Math.IntN.{*ℤ_comm}
use borrow.Author.Differences.{up, down, product_is, sum_is_lem, neg_is, same_in}

scaled : (k m n : ℕ) → m ≡ n → m * k ≡ n * k
scaled k m n e = ap (λ x. x * k) e

pub product_assoc : (a b c : ℤ) → (a *ℤ b) *ℤ c ≡ a *ℤ (b *ℤ c)
product_assoc a b c =
    same_in _ _ (omega (arith, product_is (a *ℤ b) c, product_is a (b *ℤ c), scaled (up c) _ _ (product_is a b).0, scaled (down c) _ _ (product_is a b).0, scaled (up c) _ _ (product_is a b).1, scaled (down c) _ _ (product_is a b).1, scaled (up a) _ _ (product_is b c).0, scaled (down a) _ _ (product_is b c).0, scaled (up a) _ _ (product_is b c).1, scaled (down a) _ _ (product_is b c).1))

pub product_of_sum : (a b c : ℤ) → a *ℤ (b +ℤ c) ≡ (a *ℤ b) +ℤ (a *ℤ c)
product_of_sum a b c =
    same_in _ _ (omega (arith, product_is a (b +ℤ c), product_is a b, product_is a c, sum_is_lem (a *ℤ b) (a *ℤ c), scaled (up a) _ _ (sum_is_lem b c), scaled (down a) _ _ (sum_is_lem b c)))

pub sum_product : (a b c : ℤ) → (a +ℤ b) *ℤ c ≡ (a *ℤ c) +ℤ (b *ℤ c)
sum_product a b c =
    same_in _ _ (omega (arith, product_is (a +ℤ b) c, product_is a c, product_is b c, sum_is_lem (a *ℤ c) (b *ℤ c), scaled (up c) _ _ (sum_is_lem a b), scaled (down c) _ _ (sum_is_lem a b)))

pub product_of_negation : (a b : ℤ) → a *ℤ neg_ℤ b ≡ neg_ℤ (a *ℤ b)
product_of_negation a b =
    same_in _ _ (omega (arith, product_is a (neg_ℤ b), product_is a b, neg_is (a *ℤ b), scaled (up a) _ _ (neg_is b).0, scaled (down a) _ _ (neg_is b).0, scaled (up a) _ _ (neg_is b).1, scaled (down a) _ _ (neg_is b).1))

pub negation_product : (a b : ℤ) → neg_ℤ a *ℤ b ≡ neg_ℤ (a *ℤ b)
negation_product a b =
    same_in _ _ (omega (arith, product_is (neg_ℤ a) b, product_is a b, neg_is (a *ℤ b), scaled (up b) _ _ (neg_is a).0, scaled (down b) _ _ (neg_is a).0, scaled (up b) _ _ (neg_is a).1, scaled (down b) _ _ (neg_is a).1))

pub product_left_comm : (a b c : ℤ) → a *ℤ (b *ℤ c) ≡ b *ℤ (a *ℤ c)
product_left_comm a b c = sym (product_assoc a b c) ∙ ap (λ x. x *ℤ c) (*ℤ_comm a b) ∙ product_assoc b a c

pub product_of_difference : (a b c : ℤ) → a *ℤ (b -ℤ c) ≡ (a *ℤ b) -ℤ (a *ℤ c)
product_of_difference a b c = product_of_sum a b (neg_ℤ c) ∙ ap (λ x. (a *ℤ b) +ℤ x) (product_of_negation a c)

-- for `simp`: a product of sums as a sum of products, each grouped to the right
pub ruleset multiply_out = (product_of_sum, sum_product, product_of_negation, negation_product, product_assoc)

-- ---- the sign of a product

pub product_positive : (a b : ℤ) → pos 0 <ℤ a → pos 0 <ℤ b → pos 0 <ℤ (a *ℤ b)
product_positive (pos a) (pos b) h k = let m : 0 < a * b = mul-pos (omega (arith, ints)) (omega (arith, ints)) in omega (arith, ints)
product_positive (pos a) (negsuc b) h k = absurd (omega (arith, ints))
product_positive (negsuc a) b h k = absurd (omega (arith, ints))

pub product_not_negative : (a b : ℤ) → pos 0 ≤ℤ a → pos 0 ≤ℤ b → pos 0 ≤ℤ (a *ℤ b)
product_not_negative (pos a) (pos b) h k = omega (arith, ints)
product_not_negative (pos a) (negsuc b) h k = absurd (omega (arith, ints))
product_not_negative (negsuc a) b h k = absurd (omega (arith, ints))

pub product_negative : (a b : ℤ) → pos 0 <ℤ a → b <ℤ pos 0 → (a *ℤ b) <ℤ pos 0
product_negative a b h k =
    let m : pos 0 <ℤ (a *ℤ neg_ℤ b) = product_positive a (neg_ℤ b) h (omega (arith, ints)) in
    negated (a *ℤ neg_ℤ b) (a *ℤ b) (product_of_negation a b) m
  where
    negated : (x y : ℤ) → x ≡ neg_ℤ y → pos 0 <ℤ x → y <ℤ pos 0
    negated x y e l = omega (arith, ints)

pub product_not_positive : (a b : ℤ) → pos 0 ≤ℤ a → b ≤ℤ pos 0 → (a *ℤ b) ≤ℤ pos 0
product_not_positive a b h k =
    let m : pos 0 ≤ℤ (a *ℤ neg_ℤ b) = product_not_negative a (neg_ℤ b) h (omega (arith, ints)) in
    negated (a *ℤ neg_ℤ b) (a *ℤ b) (product_of_negation a b) m
  where
    negated : (x y : ℤ) → x ≡ neg_ℤ y → pos 0 ≤ℤ x → y ≤ℤ pos 0
    negated x y e l = omega (arith, ints)

pub product_of_negatives : (a b : ℤ) → a <ℤ pos 0 → b <ℤ pos 0 → pos 0 <ℤ (a *ℤ b)
product_of_negatives (pos a) b h k = absurd (omega (arith, ints))
product_of_negatives (negsuc a) (pos b) h k = absurd (omega (arith, ints))
product_of_negatives (negsuc a) (negsuc b) h k = let m : 0 < suc a * suc b = mul-pos (omega arith) (omega arith) in omega (arith, ints)

pub square_not_negative : (a : ℤ) → pos 0 ≤ℤ (a *ℤ a)
square_not_negative (pos a) = omega (arith, ints)
square_not_negative (negsuc a) = omega (arith, ints)

-- ---- the sign of a factor beside a positive one

pub factor_positive : (a b : ℤ) → pos 0 <ℤ a → pos 0 <ℤ (a *ℤ b) → pos 0 <ℤ b
factor_positive a b h k =
    by_lt_z (pos 0) b (λ l. l) (λ l. apart (a *ℤ b) k (product_not_positive a b (omega (arith, ints)) l))
  where
    apart : (x : ℤ) {P : Type 0} → pos 0 <ℤ x → x ≤ℤ pos 0 → P
    apart x l m = absurd (omega (arith, ints))

pub factor_not_negative : (a b : ℤ) → pos 0 <ℤ a → pos 0 ≤ℤ (a *ℤ b) → pos 0 ≤ℤ b
factor_not_negative a b h k =
    by_lt_z b (pos 0) (λ l. apart (a *ℤ b) k (product_negative a b h l)) (λ l. l)
  where
    apart : (x : ℤ) {P : Type 0} → pos 0 ≤ℤ x → x <ℤ pos 0 → P
    apart x l m = absurd (omega (arith, ints))

pub factor_negative : (a b : ℤ) → pos 0 <ℤ a → (a *ℤ b) <ℤ pos 0 → b <ℤ pos 0
factor_negative a b h k =
    by_lt_z b (pos 0) (λ l. l) (λ l. apart (a *ℤ b) k (product_not_negative a b (omega (arith, ints)) l))
  where
    apart : (x : ℤ) {P : Type 0} → x <ℤ pos 0 → pos 0 ≤ℤ x → P
    apart x l m = absurd (omega (arith, ints))

pub factor_not_positive : (a b : ℤ) → pos 0 <ℤ a → (a *ℤ b) ≤ℤ pos 0 → b ≤ℤ pos 0
factor_not_positive a b h k =
    by_lt_z (pos 0) b (λ l. apart (a *ℤ b) k (product_positive a b h l)) (λ l. l)
  where
    apart : (x : ℤ) {P : Type 0} → x ≤ℤ pos 0 → pos 0 <ℤ x → P
    apart x l m = absurd (omega (arith, ints))

pub factor_zero : (a b : ℤ) → pos 0 <ℤ a → a *ℤ b ≡ pos 0 → b ≡ pos 0
factor_zero a b h e = between b (factor_not_positive a b h (above (a *ℤ b) e)) (factor_not_negative a b h (below (a *ℤ b) e))
  where
    above : (x : ℤ) → x ≡ pos 0 → x ≤ℤ pos 0
    above x e = omega (arith, ints)

    below : (x : ℤ) → x ≡ pos 0 → pos 0 ≤ℤ x
    below x e = omega (arith, ints)

    between : (x : ℤ) → x ≤ℤ pos 0 → pos 0 ≤ℤ x → x ≡ pos 0
    between x l m = omega (arith, ints)

pub zero_product : (a b : ℤ) → a *ℤ b ≡ pos 0 → (a ≡ pos 0) ⊎ (b ≡ pos 0)
zero_product (pos zero) b e = inl refl
zero_product (pos (suc a)) b e = inr (factor_zero (pos (suc a)) b (omega (arith, ints)) e)
zero_product (negsuc a) b e = inr (factor_zero (pos (suc a)) b (omega (arith, ints)) (negated (pos (suc a) *ℤ b) (negsuc a *ℤ b) (negation_product (pos (suc a)) b) e))
  where
    negated : (x y : ℤ) → y ≡ neg_ℤ x → y ≡ pos 0 → x ≡ pos 0
    negated x y e f = omega (arith, ints)

-- ---- order and equations under a product

pub product_monotone : (a b c : ℤ) → pos 0 ≤ℤ a → b ≤ℤ c → (a *ℤ b) ≤ℤ (a *ℤ c)
product_monotone a b c h k =
    from_difference (a *ℤ (c -ℤ b)) (a *ℤ b) (a *ℤ c) (product_of_difference a c b) (product_not_negative a (c -ℤ b) h (omega (arith, ints)))
  where
    from_difference : (d x y : ℤ) → d ≡ y -ℤ x → pos 0 ≤ℤ d → x ≤ℤ y
    from_difference d x y e l = omega (arith, ints)

pub product_increasing : (a b c : ℤ) → pos 0 <ℤ a → b <ℤ c → (a *ℤ b) <ℤ (a *ℤ c)
product_increasing a b c h k =
    from_difference (a *ℤ (c -ℤ b)) (a *ℤ b) (a *ℤ c) (product_of_difference a c b) (product_positive a (c -ℤ b) h (omega (arith, ints)))
  where
    from_difference : (d x y : ℤ) → d ≡ y -ℤ x → pos 0 <ℤ d → x <ℤ y
    from_difference d x y e l = omega (arith, ints)

pub below_of_products : (a b c : ℤ) → pos 0 ≤ℤ a → (a *ℤ b) <ℤ (a *ℤ c) → b <ℤ c
below_of_products a b c h k =
    by_lt_z b c (λ l. l) (λ l. apart (a *ℤ b) (a *ℤ c) k (product_monotone a c b h l))
  where
    apart : (x y : ℤ) {P : Type 0} → x <ℤ y → y ≤ℤ x → P
    apart x y l m = absurd (omega (arith, ints))

pub at_most_of_products : (a b c : ℤ) → pos 0 <ℤ a → (a *ℤ b) ≤ℤ (a *ℤ c) → b ≤ℤ c
at_most_of_products a b c h k =
    by_lt_z c b (λ l. apart (a *ℤ c) (a *ℤ b) (product_increasing a c b h l) k) (λ l. l)
  where
    apart : (x y : ℤ) {P : Type 0} → x <ℤ y → y ≤ℤ x → P
    apart x y l m = absurd (omega (arith, ints))

pub same_of_products : (a b c : ℤ) → pos 0 <ℤ a → a *ℤ b ≡ a *ℤ c → b ≡ c
same_of_products a b c h e =
    same (factor_zero a (b -ℤ c) h (product_of_difference a b c ∙ none (a *ℤ b) (a *ℤ c) e))
  where
    none : (x y : ℤ) → x ≡ y → x -ℤ y ≡ pos 0
    none x y e = omega (arith, ints)

    same : b -ℤ c ≡ pos 0 → b ≡ c
    same e = omega (arith, ints)
