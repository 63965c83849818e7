-- A red-black tree with an entry at each node, and its entries round a place.
use Rattle.std.specs.Prelude.{◌≡◌, ◌≢◌, ℕ, suc, ◌+◌, ◌<◌, ◌≤◌, List, [], ◌∷◌, ◌++◌, length, map, Bool, true, false, Option, Some, None, slice_get}
use Rattle.std.specs.Prelude.{slice_set, nat_eq, if◌then◌else◌}
use Rattle.i_tree.specs.declared.tree.pool.TheConstants.{NO_NODE}
use Rattle.i_tree.specs.Tree.Shape.{Tree, Context, join, names, names_before, names_after}
use Rattle.i_tree.specs.Tree.Pool.{Nodes, no_nodes, places, links_at, child_of, parent_of, IsOnSide}
use Rattle.i_tree.specs.Tree.Insertion.{depth, IsTreeBalanced}
use Rattle.i_tree.specs.Tree.Removal.{IsFilled}
use Rattle.i_tree.specs.Tree.Addition.{names_below}

-- a pool, and the entry at each place of it
pub record EntryTree (T : Type 0) : Type 0 where
  pub pool : Nodes
  pub entries : List T

-- one with no place
abbrev pub no_entries : {T : Type 0} → EntryTree T
no_entries = record { pool = no_nodes; entries = [] }

-- the names of a pool's tree from left to right
abbrev pub tree_names : Nodes → List ℕ
tree_names pool = names_below (places pool) pool pool.root

-- a name with its entry, if there is one, before others
abbrev pub before_others : {T : Type 0} → ℕ → Option T → List (ℕ × T) → List (ℕ × T)
before_others i None rest = rest
before_others i (Some entry) rest = (i, entry) ∷ rest

-- the entries that go by these names, each with its name
unfoldable pub entries_at : {T : Type 0} → List T → List ℕ → List (ℕ × T)
entries_at entries [] = []
entries_at entries (i ∷ rest) = before_others i (slice_get entries i) (entries_at entries rest)

-- the tree's entries from left to right, each with its name
abbrev pub tree_entries_of : {T : Type 0} → EntryTree T → List (ℕ × T)
tree_entries_of tree = entries_at tree.entries (tree_names tree.pool)

-- entries without their names
abbrev pub unnamed : {T : Type 0} → List (ℕ × T) → List T
unnamed entries = map (λ entry. entry.1) entries

-- the pool's tree is red-black, and each place has an entry
pub record IsTree {T : Type 0} (tree : EntryTree T) : Type 0 where
  pub spare : List ℕ
  pub balanced : IsTreeBalanced tree.pool spare (tree_names tree.pool)
  pub each_place : length tree.entries ≡ places tree.pool

-- a place below this parent on this side, so deep, with the entries before it, at or below it, and after it
pub record Place {T : Type 0} (tree : EntryTree T) (parent : ℕ) (side : Bool) (deep : ℕ) (before here after : List (ℕ × T)) : Type 0 where
  pub spare : List ℕ
  pub context : Context
  pub subtree : Tree
  pub filled : IsFilled tree.pool spare context subtree
  pub each_place : length tree.entries ≡ places tree.pool
  pub parent_is : parent_of context ≡ parent
  pub side_is : IsOnSide side context
  pub deep_is : depth context ≡ deep
  pub before_is : entries_at tree.entries (names_before context) ≡ before
  pub here_is : entries_at tree.entries (names subtree) ≡ here
  pub after_is : entries_at tree.entries (names_after context) ≡ after

-- how many nodes are at or below a place, read from the links
unfoldable pub held_below : Nodes → ℕ → Bool → ℕ
held_below pool parent side = length (names_below (places pool) pool (if nat_eq parent NO_NODE then pool.root else child_of side (links_at pool parent)))

-- a node at such a place, with the entries below it to its left and to its right
pub record Node {T : Type 0} (tree : EntryTree T) (parent : ℕ) (side : Bool) (deep : ℕ) (before near : List (ℕ × T)) (at : ℕ) (entry : T)
    (far after : List (ℕ × T)) : Type 0 where
  pub spare : List ℕ
  pub context : Context
  pub red : Bool
  pub left : Tree
  pub right : Tree
  pub filled : IsFilled tree.pool spare context (join true at red left right)
  pub each_place : length tree.entries ≡ places tree.pool
  pub parent_is : parent_of context ≡ parent
  pub side_is : IsOnSide side context
  pub deep_is : depth context ≡ deep
  pub before_is : entries_at tree.entries (names_before context) ≡ before
  pub near_is : entries_at tree.entries (names left) ≡ near
  pub entry_is : slice_get tree.entries at ≡ Some entry
  pub far_is : entries_at tree.entries (names right) ≡ far
  pub after_is : entries_at tree.entries (names_after context) ≡ after

-- what stands round a node: its parent and side, how deep it is, and the entries before it, below it to its left, at it, below it to
-- its right, and after it
pub record Site (T : Type 0) : Type 0 where
  pub parent : ℕ
  pub side : Bool
  pub deep : ℕ
  pub before : List (ℕ × T)
  pub near : List (ℕ × T)
  pub entry : T
  pub far : List (ℕ × T)
  pub after : List (ℕ × T)

-- a node stands so
abbrev pub IsSite : {T : Type 0} → EntryTree T → ℕ → Site T → Type 0
IsSite tree at s = Node tree s.parent s.side s.deep s.before s.near at s.entry s.far s.after

-- what is at a place: nothing, or a node, with a place on each side below it
pub data IsAtPlace {T : Type 0} (tree : EntryTree T) (parent : ℕ) (side : Bool) (deep : ℕ) (before here after : List (ℕ × T)) (at : ℕ) : Type 0 where
  vacant : at ≡ NO_NODE → here ≡ [] → IsAtPlace tree parent side deep before here after at
  node : (near : List (ℕ × T)) (entry : T) (far : List (ℕ × T)) → here ≡ near ++ ((at, entry) ∷ far) →
      Node tree parent side deep before near at entry far after → Place tree at true (suc deep) before near ((at, entry) ∷ (far ++ after)) →
      Place tree at false (suc deep) (before ++ (near ++ ((at, entry) ∷ []))) far after → IsAtPlace tree parent side deep before here after at

-- the entries without the one at a node, which is gone, or the next one is, whose entry then goes by the node's name
pub data IsWithout {T : Type 0} (near : List (ℕ × T)) (at : ℕ) (far : List (ℕ × T)) (gone : ℕ) : List (ℕ × T) → Type 0 where
  itself : gone ≡ at → IsWithout near at far gone (near ++ far)
  next : (entry : T) (rest : List (ℕ × T)) → far ≡ (gone, entry) ∷ rest → IsWithout near at far gone (near ++ ((at, entry) ∷ rest))

-- a node's entry was taken out, and all else is in its order; the place may lie deeper
pub record IsTakenFrom {T : Type 0} (old new : EntryTree T) (parent : ℕ) (side : Bool) (deep : ℕ) (before near : List (ℕ × T)) (at : ℕ)
    (far after : List (ℕ × T)) (gone : ℕ) : Type 0 where
  pub deeper : ℕ
  pub not_less : deep ≤ deeper
  pub here : List (ℕ × T)
  pub without : IsWithout near at far gone here
  pub place : Place new parent side deeper before here after
  pub same_places : places new.pool ≡ places old.pool
  pub at_gone : slice_get new.entries gone ≡ slice_get old.entries at
  pub elsewhere : (j : ℕ) → j ≢ at → j ≢ gone → slice_get new.entries j ≡ slice_get old.entries j

-- the entry of a node that stood so was taken out
abbrev pub IsTakenOut : {T : Type 0} → EntryTree T → EntryTree T → ℕ → Site T → ℕ → Type 0
IsTakenOut old new at s gone = IsTakenFrom old new s.parent s.side s.deep s.before s.near at s.far s.after gone

-- two entries were exchanged, and the others stay
pub record IsSwapped {T : Type 0} (old new : List T) (i j : ℕ) : Type 0 where
  pub same_length : length new ≡ length old
  pub first : slice_get new i ≡ slice_get old j
  pub second : slice_get new j ≡ slice_get old i
  pub elsewhere : (k : ℕ) → k ≢ i → k ≢ j → slice_get new k ≡ slice_get old k

-- an entry came to a place, where each place has one
pub record IsEntered {T : Type 0} (old new : EntryTree T) (i : ℕ) (entry : T) : Type 0 where
  pub each_place : length new.entries ≡ places new.pool
  pub there : slice_get new.entries i ≡ Some entry
  pub elsewhere : (j : ℕ) → j ≢ i → slice_get new.entries j ≡ slice_get old.entries j

-- an entry was added at a vacant place, which is a spare one where there are more places than entries
pub record IsAddedTo {T : Type 0} (old new : EntryTree T) (before : List (ℕ × T)) (added : ℕ × T) (after : List (ℕ × T)) : Type 0 where
  pub tree : IsTree new
  pub entries_are : tree_entries_of new ≡ before ++ (added ∷ after)
  pub one_more : places new.pool ≤ places old.pool + 1
  pub reuses : length (tree_entries_of old) < places old.pool → places new.pool ≡ places old.pool
  pub elsewhere : (j : ℕ) → j ≢ added.0 → slice_get new.entries j ≡ slice_get old.entries j

-- the name of the last entry, or `none`
abbrev pub last_named : {T : Type 0} → ℕ → List (ℕ × T) → ℕ
last_named none [] = none
last_named none (entry ∷ rest) = last_named entry.0 rest

-- the entry at a node was replaced
abbrev pub with_entry : {T : Type 0} → EntryTree T → ℕ → T → EntryTree T
with_entry tree at entry = record { pool = tree.pool; entries = slice_set tree.entries at entry }
