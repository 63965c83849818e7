-- The indexed set behind a red-black tree, whose spare places hold no value.
use Rattle.std.specs.Prelude.{◌≡◌, ℕ, ◌-◌, ◌^◌, ◌<◌, ◌≤◌, List, [], ◌∷◌, map, Option, Some, None, All, IsSome, slice_get}
use Rattle.i_tree.specs.Tree.Pool.{places, count_in}
use Rattle.i_tree.specs.Tree.Entries.{EntryTree, IsTree, tree_names, tree_entries_of}
use Rattle.i_tree.specs.IndexedSet.{IndexedSet}

-- an entry that holds a value, before others
abbrev pub held_before : {V : Type 0} → ℕ → Option V → List (ℕ × V) → List (ℕ × V)
held_before i None rest = rest
held_before i (Some value) rest = (i, value) ∷ rest

-- the values that entries hold, each with its entry's name
abbrev pub held : {V : Type 0} → List (ℕ × Option V) → List (ℕ × V)
held [] = []
held (entry ∷ rest) = held_before entry.0 entry.1 (held rest)

-- the values that the tree's entries hold, from left to right
abbrev pub values_in : {V : Type 0} → EntryTree (Option V) → List V
values_in tree = map (λ entry. entry.1) (held (tree_entries_of tree))

-- an index names a node
abbrev pub set_of : {V : Type 0} → EntryTree (Option V) → ℕ → IndexedSet V
set_of tree insertions = record { insertions = insertions; entries = held (tree_entries_of tree) }

-- the tree is one, its nodes' places are those that hold a value, and no more places than insertions
pub record IsSetTree {V : Type 0} (tree : EntryTree (Option V)) (insertions : ℕ) : Type 0 where
  pub is_tree : IsTree tree
  pub each_node : All (λ entry. IsSome entry.1) (tree_entries_of tree)
  pub each_value : (i : ℕ) (value : V) → slice_get tree.entries i ≡ Some (Some value) → 0 < count_in i (tree_names tree.pool)
  pub few : places tree.pool ≤ insertions
  pub bounded : insertions ≤ 2 ^ 31 - 1
