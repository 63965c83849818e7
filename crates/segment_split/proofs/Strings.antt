-- Masks joined by or.
use Rattle.std.proofs.Common.{◌≡◌, ℕ, zero, suc, ◌<◌, ◌||◌, ℤ, ◌+ℤ◌, bit_or, refl, ◌%◌, ◌==◌, nat_le, arith}
use Rattle.segment_split.specs.Strings.{stringed, masked}

-- a bit is set in a joined mask where it is in one of the two
or_forward : (m n : ℕ) → m < 4 → n < 4 → (bit_or m n % 2 == 1) ≡ ((m % 2 == 1) || (n % 2 == 1))
or_forward zero zero h k = refl
or_forward zero (suc zero) h k = refl
or_forward zero (suc (suc zero)) h k = refl
or_forward zero (suc (suc (suc zero))) h k = refl
or_forward (suc zero) zero h k = refl
or_forward (suc zero) (suc zero) h k = refl
or_forward (suc zero) (suc (suc zero)) h k = refl
or_forward (suc zero) (suc (suc (suc zero))) h k = refl
or_forward (suc (suc zero)) zero h k = refl
or_forward (suc (suc zero)) (suc zero) h k = refl
or_forward (suc (suc zero)) (suc (suc zero)) h k = refl
or_forward (suc (suc zero)) (suc (suc (suc zero))) h k = refl
or_forward (suc (suc (suc zero))) zero h k = refl
or_forward (suc (suc (suc zero))) (suc zero) h k = refl
or_forward (suc (suc (suc zero))) (suc (suc zero)) h k = refl
or_forward (suc (suc (suc zero))) (suc (suc (suc zero))) h k = refl
or_forward (suc (suc (suc (suc m)))) n h k = absurd (omega arith)
or_forward m (suc (suc (suc (suc n)))) h k = absurd (omega arith)

or_back : (m n : ℕ) → m < 4 → n < 4 → nat_le 2 (bit_or m n) ≡ (nat_le 2 m || nat_le 2 n)
or_back zero zero h k = refl
or_back zero (suc zero) h k = refl
or_back zero (suc (suc zero)) h k = refl
or_back zero (suc (suc (suc zero))) h k = refl
or_back (suc zero) zero h k = refl
or_back (suc zero) (suc zero) h k = refl
or_back (suc zero) (suc (suc zero)) h k = refl
or_back (suc zero) (suc (suc (suc zero))) h k = refl
or_back (suc (suc zero)) zero h k = refl
or_back (suc (suc zero)) (suc zero) h k = refl
or_back (suc (suc zero)) (suc (suc zero)) h k = refl
or_back (suc (suc zero)) (suc (suc (suc zero))) h k = refl
or_back (suc (suc (suc zero))) zero h k = refl
or_back (suc (suc (suc zero))) (suc zero) h k = refl
or_back (suc (suc (suc zero))) (suc (suc zero)) h k = refl
or_back (suc (suc (suc zero))) (suc (suc (suc zero))) h k = refl
or_back (suc (suc (suc (suc m)))) n h k = absurd (omega arith)
or_back m (suc (suc (suc (suc n)))) h k = absurd (omega arith)

pub masks_join : (sum s t : ℤ) (m n : ℕ) → sum ≡ s +ℤ t → m < 4 → n < 4 → masked sum (bit_or m n) ≡ stringed.join (masked s m) (masked t n)
masks_join sum s t m n is h k = λ i. record { subject = is i; forward = or_forward m n h k i; back = or_back m n h k i }
