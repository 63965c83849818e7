-- The greatest power of two up to a number.
use Rattle.std.proofs.Common.{ℕ, zero, suc, ◌+◌, ◌^◌, ◌≤◌, ◌<◌, arith, pow-suc}
use Rattle.i_tree.specs.TreeBound.{greatest_power}
use Rattle.i_tree.specs.Tree.Rises.{greatest_power-most}

below-power : (k : ℕ) → k < 2 ^ k
below-power zero = omega arith
below-power (suc k) = let h = below-power k in rw pow-suc (omega arith)

-- a bound of n on the exponent leaves out no power up to n + 1
pub power-half : (k n : ℕ) → 2 ^ k ≤ n + 1 → k ≤ greatest_power n (n + 1)
power-half k n h = let b = below-power k in greatest_power-most n (n + 1) k (omega arith) h
