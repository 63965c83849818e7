-- Sets of owners, by their bits.
use Rattle.std.specs.Prelude.{◌≡◌, ◌↔◌, ◌⊎◌, ◌<◌, ◌*◌, ◌%◌, ◌^◌, ℕ, Bool, true, false, nat_eq, max, bit_or}
use Rattle.std.specs.Int.{bit_at}
use Rattle.std.proofs.Common.{zero, suc, refl, sym, ◌∙◌, subst, inl, inr, arith}
use Rattle.std.proofs.Math.Pow.{pow-lt}
use Rattle.std.proofs.lemmas.Bool.{eqb-true, eqb-false}
use Rattle.std.proofs.lemmas.Nat.Bits.{bit_at_or, bit_at-lt, bit_at-pow_same, bit_at-pow_other}

-- a number that is shifted within its width loses nothing
shifted : (k : ℕ) → k < 64 → 1 * 2 ^ k % 2 ^ 64 ≡ 2 ^ k
shifted k within = omega (arith, pow-lt {i = k} {j = 64} within)

one_place : (n k : ℕ) → bit_at (2 ^ k) n ≡ 1 → n ≡ k
one_place n k is = by (nat_eq n k) refl
  where
    by : (b : Bool) → nat_eq n k ≡ b → n ≡ k
    by true same = eqb-true n k same
    by false other = absurd (omega (arith, sym is ∙ bit_at-pow_other k n (eqb-false n k other)))

pub one_bit : (k n : ℕ) → k < 64 → (bit_at (1 * 2 ^ k % 2 ^ 64) n ≡ 1) ↔ (n ≡ k)
one_bit k n within = (
  λ is. one_place n k (subst (λ m. bit_at m n ≡ 1) (shifted k within) is),
  λ same. subst (λ m. bit_at m n ≡ 1) (sym (shifted k within)) (subst (λ i. bit_at (2 ^ k) i ≡ 1) (sym same) (bit_at-pow_same k)),
)

pub either_bit : (a b n : ℕ) → (bit_at (bit_or a b) n ≡ 1) ↔ ((bit_at a n ≡ 1) ⊎ (bit_at b n ≡ 1))
either_bit a b n = (λ is. from (bit_at a n) (bit_at b n) (bit_at-lt a n) (sym (bit_at_or a b n) ∙ is), λ is. bit_at_or a b n ∙ to (bit_at a n) (bit_at b n) (bit_at-lt a n) (bit_at-lt b n) is)
  where
    from : (x y : ℕ) → x < 2 → max x y ≡ 1 → (x ≡ 1) ⊎ (y ≡ 1)
    from zero y small is = inr (omega (arith, is))
    from (suc zero) y small is = inl refl
    from (suc (suc x)) y small is = absurd (omega (arith, small))

    to : (x y : ℕ) → x < 2 → y < 2 → (x ≡ 1) ⊎ (y ≡ 1) → max x y ≡ 1
    to x y small small' (inl e) = omega (arith, e, small')
    to x y small small' (inr e) = omega (arith, e, small)
