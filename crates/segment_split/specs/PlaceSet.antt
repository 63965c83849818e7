-- Sets of places by the bits of words, with words above that tell which ones aren't empty.
use Rattle.std.specs.Prelude.{◌≡◌, ◌≢◌, ℕ, ◌*◌, ◌/◌, ◌%◌, ◌<◌, ◌≤◌, ◌==◌, Bool, true, false, List, length, map, nat_lt, slice_index, slice_index_or}
use Rattle.std.specs.List.{range_with_len, count_by}
use Rattle.std.specs.Int.{bit_at}

-- ---- what contracts see of a set

-- whether a place is a member
abbrev pub is_member : List Bool → ℕ → Bool
is_member members place = slice_index_or members place false

-- how many members there are
abbrev pub members : List Bool → ℕ
members set = count_by (λ is_in. is_in) set

-- Of the places before a bound, this one is the last that passes.
pub record IsLastBefore (passes : ℕ → Bool) (bound place : ℕ) : Type 0 where
  pub before : place < bound
  pub found : passes place ≡ true
  pub between : (k : ℕ) → place < k → k < bound → passes k ≡ false

-- No place before a bound passes.
abbrev pub IsNoneBefore : (ℕ → Bool) → ℕ → Type 0
IsNoneBefore passes bound = (k : ℕ) → k < bound → passes k ≡ false

-- ---- words of 64 bits

-- The bit of a word is set, and none above it.
pub record IsHighestBit (word bit : ℕ) : Type 0 where
  pub within : bit < 64
  pub set : bit_at word bit ≡ 1
  pub above : (k : ℕ) → bit < k → bit_at word k ≡ 0

-- whether the bit of a place is set
abbrev pub is_set : List ℕ → ℕ → Bool
is_set words place = bit_at (slice_index words (place / 64)) (place % 64) == 1

-- No place before a bound has its bit set in the word with the bound's own.
abbrev pub IsNoneBeside : List ℕ → ℕ → Type 0
IsNoneBeside words bound = (k : ℕ) → bound / 64 * 64 ≤ k → k < bound → is_set words k ≡ false

-- the members among so many places: those whose bit is set
abbrev pub members_of : ℕ → List ℕ → List Bool
members_of places words = map (is_set words) (range_with_len 0 places)

-- The bits of the upper words tell which of the words aren't empty.
abbrev pub Tells : List ℕ → List ℕ → Type 0
Tells upper words = (i : ℕ) → is_set upper i ≡ nat_lt 0 (slice_index words i)

-- The bit of one place is given, and each other one is as it was.
pub record ChangesBit (old new : List ℕ) (place : ℕ) (bit : Bool) : Type 0 where
  pub many : length new ≡ length old
  pub here : is_set new place ≡ bit
  pub others : (k : ℕ) → k ≢ place → is_set new k ≡ is_set old k
  pub words : (i : ℕ) → i ≢ place / 64 → slice_index new i ≡ slice_index old i

-- Each place has its bit, no bit from the last place on is set, and each level tells of the one below.
pub record IsSound (places : ℕ) (words groups tops : List ℕ) : Type 0 where
  pub words_reach : places ≤ length words * 64
  pub groups_reach : places ≤ length groups * 4096
  pub tops_reach : places ≤ length tops * 262144
  pub none_past : (k : ℕ) → places ≤ k → is_set words k ≡ false
  pub groups_tell : Tells groups words
  pub tops_tell : Tells tops groups
