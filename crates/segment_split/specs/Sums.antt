-- Counts that are just how often subject and clip run along a segment.
use Rattle.std.specs.Prelude.{◌≡◌, ℤ, Bool}
use Rattle.plane_base.specs.Counts.{Count, Counting, boolean}
use Rattle.segment_split.specs.Kinds.{count_fits}
use Rattle.segment_split.specs.RedrawLaws.{IsCountMap}

-- the count of so many subject and clip edges
abbrev pub of_count : {C : Type 0} → (ℤ → ℤ → C) → Count → C
of_count of c = of c.subject c.clip

-- Counts are added as their two numbers are, and are in their range where these are.
pub record IsAdded {C : Type 0} (kind : Counting C) (fits : C → Bool) (of : ℤ → ℤ → C) : Type 0 where
  pub map : IsCountMap boolean kind (of_count of)
  pub in_range : (c : Count) → fits (of_count of c) ≡ count_fits c
