-- A live list in a row: a sorted vector in which expired entries stay for a while, and the places in it.
use Rattle.std.specs.Prelude.{◌≡◌, ℕ, ◌+◌, ◌-◌, ◌<◌, ◌≤◌, min, List, ◌∷◌, ◌++◌, length, take, drop, slice_index_or, true, false, All, Option, Result, Ok, Err}
use Rattle.std.specs.declared.cmp.Ordering.{Ordering}
use Rattle.std.specs.declared.cmp.Ordering.TheVariants.{Less, Greater}
use Rattle.i_tree.specs.declared.key.row.RowPlace.{RowPlace}
use Rattle.i_tree.specs.declared.key.search.Way.{Way}
use Rattle.i_tree.specs.declared.key.search.Way.TheVariants.{Equal as WayEqual, Vacant as WayVacant}
use Rattle.i_tree.specs.LiveList.{LiveList, is_live, live_at}
use Rattle.i_tree.specs.Tree.Kept.{live_since}

-- the latest time that a call named, the insertions, and all entries that are stored, live or not
pub record Row (K E V : Type 0) : Type 0 where
  pub latest_time : Option E
  pub insertions : ℕ
  pub entries : List (K × V)

-- what a row keeps: those of its entries that are live at the latest time
abbrev pub kept_in : {K E V : Type 0} → (E → E → Ordering) → (K → E) → Row K E V → LiveList K E V
kept_in cmp expires row = record {
  latest_time = row.latest_time;
  insertions = row.insertions;
  stored = length row.entries;
  entries = live_since cmp expires row.latest_time row.entries;
}

-- where a place of a row with so many entries begins, and where it ends
abbrev pub end_in : ℕ → RowPlace → ℕ
end_in n place = min place.end n

abbrev pub from_in : ℕ → RowPlace → ℕ
from_in n place = min place.from (end_in n place)

-- the live entries before a place, and those after it
abbrev pub before_in : {K E V : Type 0} → (E → E → Ordering) → (K → E) → Row K E V → RowPlace → List (K × V)
before_in cmp expires row place = live_since cmp expires row.latest_time (take (from_in (length row.entries) place) row.entries)

abbrev pub after_in : {K E V : Type 0} → (E → E → Ordering) → (K → E) → Row K E V → RowPlace → List (K × V)
after_in cmp expires row place = live_since cmp expires row.latest_time (drop (end_in (length row.entries) place) row.entries)

-- the live entries before the first place are Less, and those from the second on are Greater
pub record IsParted {K E V : Type 0} (cmp : E → E → Ordering) (expires : K → E) (by : K → Ordering) (time : E) (entries : List (K × V))
    (from to : ℕ) : Type 0 where
  pub less : All (λ entry. by entry.0 ≡ Less) (live_at cmp expires time (take from entries))
  pub greater : All (λ entry. by entry.0 ≡ Greater) (live_at cmp expires time (drop to entries))

-- an entry was put at a place, and those from there on moved up as far as one that had expired, or all
pub record IsPut {K E V : Type 0} (cmp : E → E → Ordering) (expires : K → E) (time : E) (old new : List (K × V)) (at : ℕ) (entry : K × V)
    (filled : ℕ) : Type 0 where
  pub from : at ≤ filled
  pub within : filled ≤ length old
  pub expired : (d : K × V) → filled < length old → is_live cmp expires time (slice_index_or old filled d).0 ≡ false
  pub is : new ≡ take at old ++ (entry ∷ (take (filled - at) (drop at old) ++ drop (filled + 1) old))

-- what was found: the value of an equal key, or that of the last key below, if there is one
abbrev pub way_of : {V : Type 0} → Result V (Option V) → Way V
way_of (Ok v) = WayEqual v
way_of (Err below) = WayVacant 0 true below
