-- The indexed set: what a set of values stands for that are named by indexes and sorted by their keys.
--
-- K and V are the types of keys and values. `cmp` orders keys, and `key` is the key of a value.
use Rattle.std.specs.Prelude.{◌≡◌, ◌≢◌, ℕ, ◌-◌, ◌^◌, ◌<◌, ◌≤◌, List, [], ◌∷◌, map, filter, Bool, not, ◌==◌, if◌then◌else◌, All, Contains, ◌⊎◌, length}
use Rattle.std.specs.Prelude.{slice_index}
use denote.Ref.{Bor}
use Rattle.std.specs.Ordering.{is_lt, is_le, ordering_index}
use Rattle.std.specs.declared.cmp.Ordering.{Ordering}
use Rattle.std.specs.declared.cmp.Ordering.TheVariants.{Less, Equal}

-- the insertions since the set was made, and the values with their indexes in the order of their keys
pub record IndexedSet (V : Type 0) : Type 0 where
  pub insertions : ℕ
  pub entries : List (ℕ × V)

-- the set was made
abbrev pub empty_set : {V : Type 0} → IndexedSet V
empty_set = record { insertions = 0; entries = [] }

-- the values in order
abbrev pub values_of : {V : Type 0} → IndexedSet V → List V
values_of set = map (λ entry. entry.1) set.entries

-- some value has the index
abbrev pub HasIndex : {V : Type 0} → IndexedSet V → ℕ → Type 0
HasIndex set index = Contains (map (λ entry. entry.0) set.entries) index

-- the indexes in order
abbrev pub indexes_of : {V : Type 0} → IndexedSet V → List ℕ
indexes_of set = map (λ entry. entry.0) set.entries

-- what is true of every set: each index names one value, the given one none, and no more values than insertions
pub record IsNamed {V : Type 0} (none : ℕ) (set : IndexedSet V) : Type 0 where
  pub apart : (j k : ℕ) → j < length set.entries → k < length set.entries → slice_index (indexes_of set) j ≡ slice_index (indexes_of set) k → j ≡ k
  pub named : (j : ℕ) → j < length set.entries → slice_index (indexes_of set) j ≢ none
  pub few : length set.entries ≤ set.insertions

-- fewer than 2^31 - 1 insertions since the set was made
abbrev pub SetHasRoom : {V : Type 0} → IndexedSet V → Type 0
SetHasRoom set = set.insertions < 2 ^ 31 - 1

-- the keys rise: each is below every later one
abbrev pub AreRising : {K V : Type 0} → (K → K → Ordering) → (V → K) → List V → Type 0
AreRising cmp key [] = Unit {0}
AreRising cmp key (value ∷ rest) = All (λ later. cmp (key value) (key later) ≡ Less) rest × AreRising cmp key rest

-- the key of no value is equal to this one
abbrev pub IsNewSetKey : {K V : Type 0} → (K → K → Ordering) → (V → K) → K → List V → Type 0
IsNewSetKey cmp key new values = All (λ value. cmp (key value) new ≢ Equal) values

-- the values with one more, which goes before the first that isn't below it
abbrev pub with_value : {K V : Type 0} → (K → K → Ordering) → (V → K) → V → List V → List V
with_value cmp key new [] = new ∷ []
with_value cmp key new (value ∷ rest) = if is_lt (cmp (key value) (key new)) then value ∷ with_value cmp key new rest else new ∷ value ∷ rest

-- the values but the one with the index
abbrev pub values_without : {V : Type 0} → ℕ → IndexedSet V → List V
values_without index set = map (λ entry. entry.1) (filter (λ entry. not (entry.0 == index)) set.entries)

-- the index of the value just before the one with this index, or `none` for the first
abbrev pub index_just_before : {V : Type 0} → ℕ → ℕ → List (ℕ × V) → ℕ
index_just_before none index [] = none
index_just_before none index (entry ∷ rest) = if entry.0 == index then none else index_just_before entry.0 index rest

-- the index of the last value that passes the test, or `none`
abbrev pub last_index_where : {V : Type 0} → (V → Bool) → ℕ → List (ℕ × V) → ℕ
last_index_where test none [] = none
last_index_where test none (entry ∷ rest) = last_index_where test (if test entry.1 then entry.0 else none) rest

-- the index of the last value whose key `by` calls Less or Equal, or `none`; along keys on which `by` says Less, then
-- Equal, then Greater that is the last that it calls Equal, and where there is none the last that it calls Less
abbrev pub index_sought : {K V : Type 0} → (V → K) → (K → Ordering) → ℕ → List (ℕ × V) → ℕ
index_sought key by none entries = last_index_where (λ value. is_le (by (key value))) none entries

-- along the values' keys `by` says Less, then Equal, then Greater
abbrev pub IsMonotoneBy : {K V : Type 0} → (V → K) → (K → Ordering) → List V → Type 0
IsMonotoneBy key by [] = Unit {0}
IsMonotoneBy key by (value ∷ rest) = All (λ later. ordering_index (by (key value)) ≤ ordering_index (by (key later))) rest × IsMonotoneBy key by rest

-- the closure takes a reference to the key of each value
abbrev pub TakesKeys : {K V : Type 0} → (V → K) → (Bor K → Type 0) → List V → Type 0
TakesKeys {K} key takes values = All (λ value. (k : Bor K) → k.now ≡ key value → takes k) values

-- at the keys of these values the closure depends on the key alone: each of its possible results is that of `by` there
abbrev pub DependsOnSetKey : {K V : Type 0} → (V → K) → (K → Ordering → Type 0) → (K → Ordering) → List V → Type 0
DependsOnSetKey key gives by values = All (λ value. (r : Ordering) → gives (key value) r → r ≡ by (key value)) values

-- no value has the index, or the one that has it is unlike the key
abbrev pub IsUnlike : {K V : Type 0} → (K → K → Ordering) → (V → K) → ℕ → K → IndexedSet V → Type 0
IsUnlike {K} {V} cmp key index other set = (HasIndex set index → ⊥) ⊎ ((value : V) × (Contains set.entries (index, value) × (cmp (key value) other ≢ Equal)))

-- the set with the value at an index written over
abbrev pub with_value_at : {V : Type 0} → ℕ → V → IndexedSet V → IndexedSet V
with_value_at index value set = record { insertions = set.insertions; entries = map (λ entry. if entry.0 == index then (index, value) else entry) set.entries }
