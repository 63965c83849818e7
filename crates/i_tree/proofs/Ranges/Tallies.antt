-- Sums over the numbers below a bound.
use Rattle.std.proofs.Common.{◌≡◌, ℕ, zero, suc, ◌+◌, ◌≤◌, ◌<◌, ◌⊎◌, inl, inr, Bool, true, false, refl, sym, ap, ◌∙◌, arith}
use Rattle.std.proofs.lemmas.Bool.{cases_lt}
use Rattle.i_tree.proofs.Ranges.Masks.{bit_of}

-- the sum of f over the numbers below n
unfoldable pub tally : (ℕ → ℕ) → ℕ → ℕ
tally f zero = 0
tally f (suc n) = f n + tally f n

pub tally_le : (f g : ℕ → ℕ) (n : ℕ) → ((i : ℕ) → i < n → f i ≤ g i) → tally f n ≤ tally g n
unfolding tally
tally_le f g zero h = omega arith
tally_le f g (suc n) h = omega (arith, h n (omega arith), tally_le f g n (λ i k. h i (omega arith)))

pub tally-nothing : (n : ℕ) → tally (λ i. 0) n ≡ 0
unfolding tally
tally-nothing zero = refl
tally-nothing (suc n) = omega (arith, tally-nothing n)

pub tally-sum : (f g : ℕ → ℕ) (n : ℕ) → tally (λ i. f i + g i) n ≡ tally f n + tally g n
unfolding tally
tally-sum f g zero = refl
tally-sum f g (suc n) = omega (arith, tally-sum f g n)

-- a sum over pairs may be taken in either order
pub tally-swap : (f : ℕ → ℕ → ℕ) (m n : ℕ) → tally (λ i. tally (f i) m) n ≡ tally (λ j. tally (λ i. f i j) n) m
unfolding tally
tally-swap f m zero = sym (tally-nothing m)
tally-swap f m (suc n) = ap (λ k. tally (f n) m + k) (tally-swap f m n) ∙ sym (tally-sum (f n) (λ j. tally (λ i. f i j) n) m)

-- a part is no more than the sum
pub tally-part : (f : ℕ → ℕ) (n i : ℕ) → i < n → f i ≤ tally f n
unfolding tally
tally-part f zero i h = absurd (omega arith)
tally-part f (suc n) i h = by (cases_lt i n) (tally-part f n i) where
  by : (i < n) ⊎ (n ≤ i) → (i < n → f i ≤ tally f n) → f i ≤ f n + tally f n
  by (inl k) rest = omega (arith, rest k)
  by (inr k) rest = let same : i ≡ n = omega arith in rw same (omega arith)

-- of tests that at most one number passes the sum is at most one
pub tally_one : (test : ℕ → Bool) (n : ℕ) → ((i j : ℕ) → i < n → j < n → test i ≡ true → test j ≡ true → i ≡ j) → tally (λ i. bit_of (test i)) n ≤ 1
unfolding tally
tally_one test zero h = omega arith
tally_one test (suc n) h = by (test n) refl (tally_one test n (λ i j k l. h i j (omega arith) (omega arith))) where
  none : test n ≡ true → (i : ℕ) → i < n → bit_of (test i) ≤ 0
  none e i k = step (test i) refl where
    step : (b : Bool) → test i ≡ b → bit_of b ≤ 0
    step false f = omega arith
    step true f = absurd (let same : i ≡ n = h i n (omega arith) (omega arith) f e in omega arith)

  by : (b : Bool) → test n ≡ b → tally (λ i. bit_of (test i)) n ≤ 1 → bit_of b + tally (λ i. bit_of (test i)) n ≤ 1
  by false e rest = omega (arith, rest)
  by true e rest = omega (arith, tally_le (λ i. bit_of (test i)) (λ i. 0) n (none e), tally-nothing n)
