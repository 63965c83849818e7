-- What the queries of a collection answer from its live entries.
use Rattle.std.specs.Prelude.{◌≡◌, ◌≢◌, ◌≤◌, List, [], ◌∷◌, Bool, if◌then◌else◌, All, Any, Contains}
use Rattle.std.specs.Ordering.{is_lt, ordering_index}
use Rattle.std.specs.declared.cmp.Ordering.{Ordering}
use Rattle.std.specs.declared.cmp.Ordering.TheVariants.{Less, Equal, Greater}

-- the value of the last entry whose key passes the test, or the default where none does
abbrev pub last_where : {K V : Type 0} → (K → Bool) → V → List (K × V) → V
last_where test default [] = default
last_where test default (entry ∷ rest) = last_where test (if test entry.0 then entry.1 else default) rest

-- the value of the last entry below the key, or the default
abbrev pub last_below : {K V : Type 0} → (K → K → Ordering) → K → V → List (K × V) → V
last_below order key default entries = last_where (λ k. is_lt (order k key)) default entries

-- some entry has a key equal to this one
abbrev pub HasEqualKey : {K V : Type 0} → (K → K → Ordering) → K → List (K × V) → Type 0
HasEqualKey order key entries = Any (λ entry. order entry.0 key ≡ Equal) entries

-- at these entries the closure depends on the key alone: each of its possible results is that of `by` at the key
abbrev pub DependsOnKey : {K V : Type 0} → (K → Ordering → Type 0) → (K → Ordering) → List (K × V) → Type 0
DependsOnKey gives by entries = All (λ entry. (r : Ordering) → gives entry.0 r → r ≡ by entry.0) entries

-- along the entries `by` says Less, then Equal, then Greater
abbrev pub IsMonotone : {K V : Type 0} → (K → Ordering) → List (K × V) → Type 0
IsMonotone by [] = Unit {0}
IsMonotone by (entry ∷ rest) = All (λ later. ordering_index (by entry.0) ≤ ordering_index (by later.0)) rest × IsMonotone by rest

-- the value of an entry that `by` calls Equal, and where there is none, of the last that it calls Less, or the default
pub data IsAnswer {K V : Type 0} (by : K → Ordering) (default : V) (entries : List (K × V)) (answer : V) : Type 0 where
  equal : (k : K) → Contains entries (k, answer) → by k ≡ Equal → IsAnswer by default entries answer
  less : All (λ entry. by entry.0 ≢ Equal) entries → answer ≡ last_where (λ k. is_lt (by k)) default entries → IsAnswer by default entries answer

-- what stands before a place are live entries whose keys `by` calls Less, and what stands after it are ones that it calls Greater
pub record IsPlace {K V : Type 0} (by : K → Ordering) (live before after : List (K × V)) : Type 0 where
  pub less : All (λ entry. Contains live entry × (by entry.0 ≡ Less)) before
  pub greater : All (λ entry. Contains live entry × (by entry.0 ≡ Greater)) after
