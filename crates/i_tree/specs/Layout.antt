-- How the values of a range fall into 32 buckets.
use Rattle.std.specs.Prelude.{◌≡◌, ℕ, ◌/◌, ◌^◌, ◌≤◌, ℤ, ◌-ℤ◌, ◌≤ℤ◌, unsigned_abs}

-- the least and the greatest value, and how many values a bucket has
pub record Buckets : Type 0 where
  pub min : ℤ
  pub max : ℤ
  pub width : ℕ

-- how far a value that isn't below the least one is above it
abbrev pub offset_of : ℤ → ℤ → ℕ
offset_of min value = unsigned_abs (value -ℤ min)

-- the bucket of a value: its offset divided by the width, rounded down
abbrev pub bucket_of : Buckets → ℤ → ℕ
bucket_of buckets value = offset_of buckets.min value / buckets.width

-- the width is the least power of two with which the bucket of the greatest value is at most 31
pub record IsWidth (span width : ℕ) : Type 0 where
  pub power : (k : ℕ) × (width ≡ 2 ^ k)
  pub fits : span / width ≤ 31
  pub least : (k : ℕ) → span / 2 ^ k ≤ 31 → width ≤ 2 ^ k

-- the buckets of the values from min to max
pub record AreBuckets (min max : ℤ) (buckets : Buckets) : Type 0 where
  pub min_is : buckets.min ≡ min
  pub max_is : buckets.max ≡ max
  pub width_is : IsWidth (offset_of min max) buckets.width

-- a greater value has no lesser bucket, and a value of the range has one of the 32
pub record BucketsRise (buckets : Buckets) : Type 0 where
  pub rise : (a b : ℤ) → buckets.min ≤ℤ a → a ≤ℤ b → bucket_of buckets a ≤ bucket_of buckets b
  pub within : (a : ℤ) → buckets.min ≤ℤ a → a ≤ℤ buckets.max → bucket_of buckets a ≤ 31

-- the range's ends are in order, and each has a bucket
pub record IsAccepted (min max : ℤ) (buckets : Buckets) : Type 0 where
  pub from : buckets.min ≤ℤ min
  pub ordered : min ≤ℤ max
  pub to : max ≤ℤ buckets.max
