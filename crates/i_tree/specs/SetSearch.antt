-- A search from the front, as `SetList` does it.
use Rattle.std.specs.Prelude.{ℕ, ◌+◌, List, [], ◌∷◌, if◌then◌else◌, length, min}
use Rattle.std.specs.Ordering.{is_gt}
use Rattle.std.specs.declared.cmp.Ordering.{Ordering}

-- how many values stand before the first whose key `by` calls Greater
abbrev pub leading : {K V : Type 0} → (V → K) → (K → Ordering) → List V → ℕ
leading key by [] = 0
leading key by (value ∷ rest) = if is_gt (by (key value)) then 0 else leading key by rest + 1

-- how many comparisons a search makes: one with each of those values, and one with the next if there is one
abbrev pub set_comparisons_of : {K V : Type 0} → (V → K) → (K → Ordering) → List V → ℕ
set_comparisons_of key by values = min (leading key by values + 1) (length values)
