-- Bits of numbers that are joined.
use Rattle.std.specs.Prelude.{◌≡◌, ℕ, max, bit_or}
use Rattle.std.specs.Int.{bit_at}
use Rattle.std.proofs.Common.{ap, sym, ◌∙◌, arith}
use Rattle.std.proofs.lemmas.Nat.Bits.{bit_at_or, same_from_bits}

pub or_assoc : (a b c : ℕ) → bit_or (bit_or a b) c ≡ bit_or a (bit_or b c)
or_assoc a b c =
    same_from_bits (bit_or (bit_or a b) c) (bit_or a (bit_or b c))
    (λ i. bit_at_or (bit_or a b) c i
    ∙ (ap (λ n. max n (bit_at c i)) (bit_at_or a b i)
    ∙ (grouped (bit_at a i) (bit_at b i) (bit_at c i)
    ∙ sym (bit_at_or a (bit_or b c) i ∙ ap (max (bit_at a i)) (bit_at_or b c i)))))
  where
    grouped : (l m n : ℕ) → max (max l m) n ≡ max l (max m n)
    grouped l m n = omega arith
