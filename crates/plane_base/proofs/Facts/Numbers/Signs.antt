-- What tests of a number's sign tell of it.
use Rattle.std.proofs.Common.{◌≡◌, ◌≢◌, Bool, true, false, cond, ℤ, pos, refl, sym, ap, ◌∙◌}
use Rattle.std.specs.Prelude.{int_lt}
use Rattle.std.specs.declared.cmp.Ordering.{Ordering}
use Rattle.std.specs.declared.cmp.Ordering.TheVariants.{Less, Equal, Greater}
use Rattle.std.specs.Ordering.{int_cmp, int_eq, is_eq}
use Rattle.std.proofs.lemmas.Bool.{false≢true}
use Rattle.std.proofs.lemmas.Bool.Decides.{Decides-int_eq}

-- ---- whether it is 0

pub zero_told : (n : ℤ) (b : Bool) → b ≡ int_eq n (pos 0) → b ≡ true → n ≡ pos 0
zero_told n b e f = (Decides-int_eq n (pos 0)).0 (sym e ∙ f)

pub not_zero_told : (n : ℤ) (b : Bool) → b ≡ int_eq n (pos 0) → b ≡ false → n ≢ pos 0
not_zero_told n b e f = λ z. false≢true (sym f ∙ (e ∙ (Decides-int_eq n (pos 0)).1 z))

-- ---- its order with 0, by two tests

pub order_level : (n : ℤ) (b : Bool) → b ≡ int_eq n (pos 0) → b ≡ true → Equal ≡ int_cmp n (pos 0)
order_level n b e f = by (int_cmp n (pos 0)) (sym e ∙ f)
  where
    by : (o : Ordering) → is_eq o ≡ true → Equal ≡ o
    by Less h = absurd (cc)
    by Equal h = refl
    by Greater h = absurd (cc)

pub order_below : (n : ℤ) (b : Bool) → b ≡ int_lt n (pos 0) → b ≡ true → Less ≡ int_cmp n (pos 0)
order_below n b e f = sym (ap (λ p. cond p Less (cond (int_lt (pos 0) n) Greater Equal)) (sym e ∙ f))

pub order_above : (n : ℤ) (b c : Bool) → b ≡ int_eq n (pos 0) → b ≡ false → c ≡ int_lt n (pos 0) → c ≡ false → Greater ≡ int_cmp n (pos 0)
order_above n b c e f h k = by (int_lt n (pos 0)) (int_lt (pos 0) n) (sym h ∙ k) (sym e ∙ f)
  where
    by : (p q : Bool) → p ≡ false → is_eq (cond p Less (cond q Greater Equal)) ≡ false → Greater ≡ cond p Less (cond q Greater Equal)
    by true q d h = absurd (cc)
    by false true d h = refl
    by false false d h = absurd (cc)

-- ---- the order of 0 with it

pub level_order : (n : ℤ) (b : Bool) → b ≡ int_eq n (pos 0) → b ≡ true → Equal ≡ int_cmp (pos 0) n
level_order n b e f = sym (ap (λ m. int_cmp (pos 0) m) (zero_told n b e f))

pub above_order : (n : ℤ) (b : Bool) → b ≡ int_lt (pos 0) n → b ≡ true → Less ≡ int_cmp (pos 0) n
above_order n b e f = sym (ap (λ p. cond p Less (cond (int_lt n (pos 0)) Greater Equal)) (sym e ∙ f))

pub below_order : (n : ℤ) (b c : Bool) → b ≡ int_eq n (pos 0) → b ≡ false → c ≡ int_lt (pos 0) n → c ≡ false → Greater ≡ int_cmp (pos 0) n
below_order n b c e f h k = by (int_lt (pos 0) n) (int_lt n (pos 0)) (sym h ∙ k) (sym e ∙ f)
  where
    by : (p q : Bool) → p ≡ false → is_eq (cond q Less (cond p Greater Equal)) ≡ false → Greater ≡ cond p Less (cond q Greater Equal)
    by true q d h = absurd (cc)
    by false true d h = refl
    by false false d h = absurd (cc)
