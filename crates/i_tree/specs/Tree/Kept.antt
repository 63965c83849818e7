-- The live list behind a red-black tree.
use Rattle.std.specs.Prelude.{◌≤◌, ℕ, List, length, Option, Some, None}
use Rattle.std.specs.declared.cmp.Ordering.{Ordering}
use Rattle.i_tree.specs.Tree.Pool.{places}
use Rattle.i_tree.specs.Tree.Entries.{EntryTree, IsTree, tree_entries_of, unnamed}
use Rattle.i_tree.specs.LiveList.{LiveList, live_at, IsSound}

-- the entries that are live at the latest time, and all where there was none
abbrev pub live_since : {K E V : Type 0} → (E → E → Ordering) → (K → E) → Option E → List (K × V) → List (K × V)
live_since cmp expires None entries = entries
live_since cmp expires (Some time) entries = live_at cmp expires time entries

-- what a tree keeps
abbrev pub kept_by : {K E V : Type 0} → (E → E → Ordering) → (K → E) → Option E → ℕ → EntryTree (K × V) → LiveList K E V
kept_by cmp expires latest insertions tree = record {
  latest_time = latest;
  insertions = insertions;
  stored = length (tree_entries_of tree);
  entries = live_since cmp expires latest (unnamed (tree_entries_of tree));
}

-- the tree is one, no more places than insertions, and the live entries rise; without a time there is no entry
pub record IsKept {K E V : Type 0} (cmp : E → E → Ordering) (expires : K → E) (order : K → K → Ordering) (latest : Option E) (insertions : ℕ)
    (tree : EntryTree (K × V)) : Type 0 where
  pub is_tree : IsTree tree
  pub few : places tree.pool ≤ insertions
  pub sound : IsSound cmp expires order (kept_by cmp expires latest insertions tree)
