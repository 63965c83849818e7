-- How many comparisons a way down a red-black tree takes.
use Rattle.std.specs.Prelude.{ℕ, zero, suc, ◌+◌, ◌*◌, ◌^◌, nat_le, if◌then◌else◌}

-- the greatest k, up to the first number, with 2 ^ k at most the second
unfoldable pub greatest_power : ℕ → ℕ → ℕ
greatest_power zero n = 0
greatest_power (suc k) n = if nat_le (2 ^ suc k) n then suc k else greatest_power k n

-- twice the greatest k with 2 ^ k ≤ n + 1
abbrev pub most_comparisons : ℕ → ℕ
most_comparisons n = 2 * greatest_power n (n + 1)
