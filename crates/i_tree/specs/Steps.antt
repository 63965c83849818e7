-- What a counter of steps has counted.
use Rattle.std.specs.Prelude.{◌≡◌, ℕ, ◌+◌, ◌≤◌}

-- the comparisons made and the pairs looked at
pub record Counts : Type 0 where
  pub comparisons : ℕ
  pub pairs : ℕ

-- exactly n comparisons came to the old counts, and no pair
pub record CountsExactly (old new : Counts) (n : ℕ) : Type 0 where
  pub comparisons : new.comparisons ≡ old.comparisons + n
  pub pairs : new.pairs ≡ old.pairs

-- at most n comparisons came to the old counts, and no pair
pub record CountsAtMost (old new : Counts) (n : ℕ) : Type 0 where
  pub never_falls : old.comparisons ≤ new.comparisons
  pub bound : new.comparisons ≤ old.comparisons + n
  pub pairs : new.pairs ≡ old.pairs
