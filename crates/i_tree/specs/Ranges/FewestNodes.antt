-- The fewest nodes whose buckets are together just those of an interval.
use Rattle.std.specs.Prelude.{◌≡◌, ℕ, ◌<◌, ◌≤◌, true, count_ones}
use Rattle.std.specs.Int.{bit_at}
use Rattle.i_tree.specs.Ranges.Masks.{first_bucket, last_bucket, lies_in}

-- the buckets of the mask's nodes are together just those of the interval
pub record MakesUp (first last mask : ℕ) : Type 0 where
  pub inside : (node : ℕ) → bit_at mask node ≡ 1 → (node < 63) × (lies_in first last node ≡ true)
  pub whole : (bucket : ℕ) → first ≤ bucket → bucket ≤ last → (node : ℕ) × (bit_at mask node ≡ 1) × (first_bucket node ≤ bucket) × (bucket ≤ last_bucket node)

-- the mask's nodes make up the interval, and no fewer nodes do
pub record IsFewest (first last mask : ℕ) : Type 0 where
  pub makes_up : MakesUp first last mask
  pub fewest : (other : ℕ) → MakesUp first last other → count_ones mask ≤ count_ones other
