-- A search from the front of a list, as `KeyExpList` does it.
use Rattle.std.specs.Prelude.{ℕ, zero, suc, ◌+◌, List, [], ◌∷◌, length, min, Result, Ok, Err}
use Rattle.std.specs.declared.cmp.Ordering.{Ordering}
use Rattle.std.specs.declared.cmp.Ordering.TheVariants.{Less, Equal, Greater}

-- one place further
abbrev pub after_one : Result ℕ ℕ → Result ℕ ℕ
after_one (Ok at) = Ok (at + 1)
after_one (Err at) = Err (at + 1)

-- what a search answers that looked at this entry, and at the rest where it is Less
abbrev pub seen : Ordering → Result ℕ ℕ → Result ℕ ℕ
seen Less rest = after_one rest
seen Equal rest = Ok 0
seen Greater rest = Err 0

-- Ok of the first place that isn't Less where it is Equal, and else Err of it; Err of the length where all are Less
abbrev pub place_of : {K V : Type 0} → (K → Ordering) → List (K × V) → Result ℕ ℕ
place_of by [] = Err 0
place_of by (entry ∷ rest) = seen (by entry.0) (place_of by rest)

-- where a search stopped
abbrev pub stop_of : Result ℕ ℕ → ℕ
stop_of (Ok at) = at
stop_of (Err at) = at

-- how many of so many entries were compared: those before the place where the search stopped, and the one there
abbrev pub compared : ℕ → Result ℕ ℕ → ℕ
compared length place = min (stop_of place + 1) length

-- how many comparisons a search makes
abbrev pub comparisons_of : {K V : Type 0} → (K → Ordering) → List (K × V) → ℕ
comparisons_of by entries = compared (length entries) (place_of by entries)

-- the value just before a place, or the default at the first place
abbrev pub value_before_place : {K V : Type 0} → V → List (K × V) → ℕ → V
value_before_place default entries zero = default
value_before_place default [] (suc at) = default
value_before_place default (entry ∷ rest) (suc at) = value_before_place entry.1 rest at
