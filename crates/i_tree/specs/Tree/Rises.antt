-- The bound on comparisons: which power it has, and that it rises.
use Rattle.std.specs.Prelude.{◌≡◌, ℕ, zero, suc, ◌+◌, ◌^◌, ◌≤◌, Bool, true, false, nat_le, refl}
use Rattle.std.proofs.Common.{◌<◌, ◌⊎◌, inl, inr, arith}
use Rattle.std.proofs.lemmas.Bool.{cases_order}
use Rattle.std.proofs.lemmas.Bool.Decides.{nat_tests}
use Rattle.i_tree.specs.TreeBound.{greatest_power, most_comparisons}

pub greatest_power-le : (k n : ℕ) → greatest_power k n ≤ k
unfolding greatest_power
greatest_power-le zero n = omega arith
greatest_power-le (suc k) n = by (nat_le (2 ^ suc k) n) refl (greatest_power-le k n) where
  by : (b : Bool) → nat_le (2 ^ suc k) n ≡ b → greatest_power k n ≤ k → greatest_power (suc k) n ≤ suc k
  by true e rest = rw e (omega arith)
  by false e rest = rw e (omega arith)

-- its power is one of those below the second number
pub power-greatest : (k n : ℕ) → 1 ≤ n → 2 ^ greatest_power k n ≤ n
unfolding greatest_power
power-greatest zero n some = omega arith
power-greatest (suc k) n some = by (nat_le (2 ^ suc k) n) refl (power-greatest k n some) where
  by : (b : Bool) → nat_le (2 ^ suc k) n ≡ b → 2 ^ greatest_power k n ≤ n → 2 ^ greatest_power (suc k) n ≤ n
  by true e rest = rw e (grind (arith, nat_tests))
  by false e rest = rw e rest

-- and no greater one is
below_next : (k n j : ℕ) → j ≤ suc k → 2 ^ j ≤ n → nat_le (2 ^ suc k) n ≡ false → j ≤ k
below_next k n j le small e = by (cases_order j (suc k)) where
  by : (j ≡ suc k) ⊎ ((j < suc k) ⊎ (suc k < j)) → j ≤ k
  by (inl same) = absurd (let small_too : 2 ^ suc k ≤ n = rw (← same) small in grind (arith, nat_tests))
  by (inr (inl less)) = omega arith
  by (inr (inr more)) = omega arith

pub greatest_power-most : (k n j : ℕ) → j ≤ k → 2 ^ j ≤ n → j ≤ greatest_power k n
unfolding greatest_power
greatest_power-most zero n j le small = omega arith
greatest_power-most (suc k) n j le small = by (nat_le (2 ^ suc k) n) refl (λ (less : j ≤ k). greatest_power-most k n j less small) where
  by : (b : Bool) → nat_le (2 ^ suc k) n ≡ b → (j ≤ k → j ≤ greatest_power k n) → j ≤ greatest_power (suc k) n
  by true e rest = rw e le
  by false e rest = rw e (rest (below_next k n j le small e))

-- with more entries the bound is no lower
pub most_comparisons-rise : (m n : ℕ) → m ≤ n → most_comparisons m ≤ most_comparisons n
most_comparisons-rise m n le =
    let few : greatest_power m (m + 1) ≤ m = greatest_power-le m (m + 1) in
    let power : 2 ^ greatest_power m (m + 1) ≤ m + 1 = power-greatest m (m + 1) (omega arith) in
    let more : greatest_power m (m + 1) ≤ greatest_power n (n + 1) = greatest_power-most n (n + 1) (greatest_power m (m + 1)) (omega arith) (omega arith) in
    omega arith
