-- Contours and shapes laid flat: all points in one list, and ranges of it.
use Rattle.std.specs.Prelude.{◌≡◌, ℕ, ◌+◌, ◌-◌, ◌≤◌, List, [], ◌∷◌, length, map, flat_map, All, take, drop}
use Rattle.std.specs.declared.ops.Range.{Range}

-- the part of a list that a range marks out
abbrev pub part : {A : Type 0} → List A → Range ℕ → List A
part xs r = take (r.end - r.start) (drop r.start xs)

-- The range lies in a list of this length.
abbrev pub IsRangeOf : ℕ → Range ℕ → Type 0
IsRangeOf n r = (r.start ≤ r.end) × (r.end ≤ n)

abbrev pub AreRangesOf : ℕ → List (Range ℕ) → Type 0
AreRangesOf n rs = All (IsRangeOf n) rs

-- There is one range, and it lies in a list of this length.
abbrev pub IsOneRangeOf : ℕ → List (Range ℕ) → Type 0
IsOneRangeOf n rs = (length rs ≡ 1) × AreRangesOf n rs

-- the parts that ranges mark out, in order
abbrev pub parts : {A : Type 0} → List A → List (Range ℕ) → List (List A)
parts xs rs = map (part xs) rs

-- for each group the parts that its ranges mark out, the groups themselves marked out of the list of all ranges
abbrev pub parts_of_parts : {A : Type 0} → List A → List (Range ℕ) → List (Range ℕ) → List (List (List A))
parts_of_parts xs rs groups = map (parts xs) (parts rs groups)

-- the ranges of lists of these lengths, one after another from this start
abbrev pub ranges_from : ℕ → List ℕ → List (Range ℕ)
ranges_from start [] = []
ranges_from start (n ∷ ns) = record { start = start; end = start + n } ∷ ranges_from (start + n) ns

-- The lists are laid one after another, with nothing between them, and there is a range for each.
pub record AreLaid {A : Type 0} (lists : List (List A)) (all : List A) (rs : List (Range ℕ)) : Type 0 where
  pub elements : all ≡ flat_map (λ list. list) lists
  pub ranges : rs ≡ ranges_from 0 (map length lists)
