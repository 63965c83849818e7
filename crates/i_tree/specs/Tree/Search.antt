-- What a search in a tree of expiring keys comes to.
use Rattle.std.specs.Prelude.{◌≡◌, ◌≢◌, ℕ, suc, ◌≤◌, List, [], ◌∷◌, ◌++◌, length, Bool, true, All, Contains, Option, Some, unwrap_or, slice_get}
use Rattle.std.specs.Ordering.{is_lt}
use Rattle.std.specs.declared.cmp.Ordering.{Ordering}
use Rattle.std.specs.declared.cmp.Ordering.TheVariants.{Less, Equal, Greater}
use Rattle.i_tree.specs.declared.key.search.Way.{Way}
use Rattle.i_tree.specs.declared.key.search.Way.TheVariants.{Equal as WayEqual, Vacant as WayVacant}
use Rattle.i_tree.specs.Tree.Pool.{places}
use Rattle.i_tree.specs.Tree.Entries.{EntryTree, IsTree, Place, IsAtPlace, tree_entries_of, unnamed}
use Rattle.i_tree.specs.LiveList.{is_live, live_at}
use Rattle.i_tree.specs.KeyAnswers.{last_where}
use Rattle.i_tree.specs.Steps.{Counts, CountsExactly}

-- some expired entries at or below a place were dropped, and what is there now is live; the place may lie deeper
pub record IsCleared {K E V : Type 0} (cmp : E → E → Ordering) (expires : K → E) (time : E) (old new : EntryTree (K × V)) (parent : ℕ) (side : Bool) (deep : ℕ)
    (before here after : List (ℕ × (K × V))) (at : ℕ) : Type 0 where
  pub deeper : ℕ
  pub not_less : deep ≤ deeper
  pub left_here : List (ℕ × (K × V))
  pub fewer : length left_here ≤ length here
  pub live_same : live_at cmp expires time (unnamed left_here) ≡ live_at cmp expires time (unnamed here)
  pub place : Place new parent side deeper before left_here after
  pub at_place : IsAtPlace new parent side deeper before left_here after at
  pub live : (entry : K × V) → slice_get new.entries at ≡ Some entry → is_live cmp expires time entry.0 ≡ true
  pub same_places : places new.pool ≡ places old.pool

-- some expired entries were dropped
pub record IsSearched {K E V : Type 0} (cmp : E → E → Ordering) (expires : K → E) (time : E) (old new : EntryTree (K × V)) : Type 0 where
  pub tree : IsTree new
  pub live_same : live_at cmp expires time (unnamed (tree_entries_of new)) ≡ live_at cmp expires time (unnamed (tree_entries_of old))
  pub fewer : length (tree_entries_of new) ≤ length (tree_entries_of old)
  pub same_places : places new.pool ≡ places old.pool

-- so many comparisons tell a key's place among these entries: each is with one of those that are left, and leaves
-- those after it where it is Less and those before it where it is Greater, until one is Equal or none is left
pub data Narrows {K V : Type 0} (by : K → Ordering) : List (K × V) → ℕ → Type 0 where
  none_left : Narrows by [] 0
  ends : (before : List (K × V)) (entry : K × V) (after : List (K × V)) → by entry.0 ≡ Equal → Narrows by (before ++ (entry ∷ after)) 1
  leaves_after : (before : List (K × V)) (entry : K × V) (after : List (K × V)) (n : ℕ) → by entry.0 ≡ Less → Narrows by after n →
      Narrows by (before ++ (entry ∷ after)) (suc n)
  leaves_before : (before : List (K × V)) (entry : K × V) (after : List (K × V)) (n : ℕ) → by entry.0 ≡ Greater → Narrows by before n →
      Narrows by (before ++ (entry ∷ after)) (suc n)

-- exactly as many comparisons were counted as some search among these entries takes
pub record CountsNarrowing {K V : Type 0} (by : K → Ordering) (entries : List (K × V)) (old new : Counts) : Type 0 where
  pub number : ℕ
  pub exact : CountsExactly old new number
  pub narrows : Narrows by entries number

-- a live key that `by` calls Equal, with its value, or a vacant place with the keys that `by` calls Less on its left
-- and those that it calls Greater on its right, and the value of the last on its left, if there is one
pub data IsWay {K E V : Type 0} (cmp : E → E → Ordering) (expires : K → E) (by : K → Ordering) (time : E) (tree : EntryTree (K × V)) : Way V → Type 0 where
  equal : (k : K) (v : V) → Contains (live_at cmp expires time (unnamed (tree_entries_of tree))) (k, v) → by k ≡ Equal →
      IsWay cmp expires by time tree (WayEqual v)
  vacant : (parent : ℕ) (left : Bool) (below : Option V) (deep : ℕ) (before after : List (ℕ × (K × V))) → Place tree parent left deep before [] after →
      All (λ entry. by entry.0 ≡ Less) (live_at cmp expires time (unnamed before)) →
      All (λ entry. by entry.0 ≡ Greater) (live_at cmp expires time (unnamed after)) →
      ((default : V) → unwrap_or below default ≡ last_where (λ k. true) default (live_at cmp expires time (unnamed before))) →
      IsWay cmp expires by time tree (WayVacant parent left below)

-- what a way says of the live entries: the value of one that `by` calls Equal, or there is none, and the value of the
-- last that it calls Less, if there is one
pub data IsFound {K V : Type 0} (by : K → Ordering) (live : List (K × V)) : Way V → Type 0 where
  equal : (k : K) (v : V) → Contains live (k, v) → by k ≡ Equal → IsFound by live (WayEqual v)
  vacant : (parent : ℕ) (left : Bool) (below : Option V) → All (λ entry. by entry.0 ≢ Equal) live →
      ((default : V) → unwrap_or below default ≡ last_where (λ k. is_lt (by k)) default live) → IsFound by live (WayVacant parent left below)

-- the value found, or the default
abbrev pub value_or : {V : Type 0} → Way V → V → V
value_or (WayEqual v) default = v
value_or (WayVacant parent left below) default = unwrap_or below default
