-- The live list: what a collection of expiring keys stands for.
--
-- K, E and V are the types of keys, times and values. `cmp` orders times, `expires` is the time at which a
-- key expires, and `order` compares keys. An entry is a key with its value.
use Rattle.std.specs.Prelude.{◌≡◌, ◌≢◌, ℕ, ◌+◌, ◌-◌, ◌^◌, ◌<◌, ◌≤◌, List, [], ◌∷◌, length, Bool, if◌then◌else◌, filter, All, Contains, ◌⊎◌, Option, Some, None}
use Rattle.std.specs.Option.{ForSome}
use Rattle.std.specs.Ordering.{is_gt, is_lt, ordering_reverse}
use Rattle.std.specs.declared.cmp.Ordering.{Ordering}
use Rattle.std.specs.declared.cmp.Ordering.TheVariants.{Less, Equal}

-- what a collection keeps: the latest time that a call named, the insertions since it was made or cleared, the
-- entries that take a place, and the entries live at the latest time in the order of their keys
pub record LiveList (K E V : Type 0) : Type 0 where
  pub latest_time : Option E
  pub insertions : ℕ
  pub stored : ℕ
  pub entries : List (K × V)

-- what a collection keeps when it was made or cleared
abbrev pub nothing_kept : {K E V : Type 0} → LiveList K E V
nothing_kept = record { latest_time = None; insertions = 0; stored = 0; entries = [] }

-- a key is live as long as its expiration is after the time
abbrev pub is_live : {K E : Type 0} → (E → E → Ordering) → (K → E) → E → K → Bool
is_live cmp expires time key = is_gt (cmp (expires key) time)

-- the entries that are live at the time
abbrev pub live_at : {K E V : Type 0} → (E → E → Ordering) → (K → E) → E → List (K × V) → List (K × V)
live_at cmp expires time entries = filter (λ entry. is_live cmp expires time entry.0) entries

-- the entries with one more, which goes before the first that isn't below it
abbrev pub placed : {K V : Type 0} → (K → K → Ordering) → K × V → List (K × V) → List (K × V)
placed order new [] = new ∷ []
placed order new (entry ∷ rest) = if is_lt (order entry.0 new.0) then entry ∷ placed order new rest else new ∷ entry ∷ rest

-- the entries live at the time, and the new one in its place if it is live
abbrev pub live_with : {K E V : Type 0} → (E → E → Ordering) → (K → E) → (K → K → Ordering) → K × V → E → List (K × V) → List (K × V)
live_with cmp expires order new time entries =
    if is_live cmp expires time new.0 then placed order new (live_at cmp expires time entries) else live_at cmp expires time entries

-- the keys rise: each is below every later one
abbrev pub IsRising : {K V : Type 0} → (K → K → Ordering) → List (K × V) → Type 0
IsRising order [] = Unit {0}
IsRising order (entry ∷ rest) = All (λ later. order entry.0 later.0 ≡ Less) rest × IsRising order rest

-- what is true of every collection
pub record IsSound {K E V : Type 0} (cmp : E → E → Ordering) (expires : K → E) (order : K → K → Ordering) (kept : LiveList K E V) : Type 0 where
  pub at_most_insertions : kept.stored ≤ kept.insertions
  pub at_least_live : length kept.entries ≤ kept.stored
  pub all_live : ForSome kept.latest_time (λ time. live_at cmp expires time kept.entries ≡ kept.entries)
  pub no_time : kept.latest_time ≡ None → kept.entries ≡ []
  pub rising : IsRising order kept.entries

-- times don't go back: the time isn't before the latest one
abbrev pub IsNotBefore : {K E V : Type 0} → (E → E → Ordering) → E → LiveList K E V → Type 0
IsNotBefore cmp time kept = ForSome kept.latest_time (λ latest. cmp time latest ≢ Less)

-- fewer than 2^31 - 1 insertions since the collection was made or cleared
abbrev pub HasRoom : {K E V : Type 0} → LiveList K E V → Type 0
HasRoom kept = kept.insertions < 2 ^ 31 - 1

-- the key itself, or the key of an entry
abbrev pub IsAmong : {K V : Type 0} → K → List (K × V) → K → Type 0
IsAmong {K} {V} key entries k = (k ≡ key) ⊎ ((v : V) × Contains entries (k, v))

-- the order is lawful among the key and the keys of the entries; nothing is asked of other keys
pub record IsLawful {K V : Type 0} (order : K → K → Ordering) (key : K) (entries : List (K × V)) : Type 0 where
  pub reversed : (j k : K) → IsAmong key entries j → IsAmong key entries k → order j k ≡ ordering_reverse (order k j)
  pub through : (i j k : K) → IsAmong key entries i → IsAmong key entries j → IsAmong key entries k → order i j ≡ Less → order j k ≡ Less → order i k ≡ Less

-- the key is unlike the key of every entry
abbrev pub IsNewKey : {K V : Type 0} → (K → K → Ordering) → K → List (K × V) → Type 0
IsNewKey order key entries = All (λ entry. order entry.0 key ≢ Equal) entries

-- after a call at this time what was live then is kept, and nothing else, now and at every later time
pub record IsAdvanced {K E V : Type 0} (cmp : E → E → Ordering) (expires : K → E) (time : E) (old new : LiveList K E V) : Type 0 where
  pub latest_time : new.latest_time ≡ Some time
  pub insertions : new.insertions ≡ old.insertions
  pub stored : new.stored ≤ old.stored
  pub entries : new.entries ≡ live_at cmp expires time old.entries
  pub later : (t : E) → cmp t time ≢ Less → live_at cmp expires t new.entries ≡ live_at cmp expires t old.entries

-- after an insertion at this time what was live then is kept with the new entry in its place, now and at every
-- later time as long as each is live
pub record IsInserted {K E V : Type 0} (cmp : E → E → Ordering) (expires : K → E) (order : K → K → Ordering) (entry : K × V) (time : E)
    (old new : LiveList K E V) : Type 0 where
  pub latest_time : new.latest_time ≡ Some time
  pub insertions : new.insertions ≡ old.insertions + 1
  pub stored : new.stored ≤ old.stored + 1
  pub entries : new.entries ≡ live_with cmp expires order entry time old.entries
  pub later : (t : E) → cmp t time ≢ Less → live_at cmp expires t new.entries ≡ live_with cmp expires order entry t old.entries
