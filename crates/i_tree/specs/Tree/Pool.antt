-- How nodes in a pool make a tree.
use Rattle.std.specs.Prelude.{◌≡◌, ◌≢◌, ℕ, ◌+◌, ◌%◌, ◌^◌, ◌<◌, ◌≤◌, List, [], ◌∷◌, length, Bool, true, false, nat_le, slice_index_or}
use Rattle.i_tree.specs.declared.tree.pool.TheConstants.{NO_NODE}
use Rattle.i_tree.specs.declared.tree.pool.Links.{Links}
use Rattle.i_tree.specs.Tree.Shape.{Tree, leaf, fork, Context, top, under, join, plug, one, count, count_around, size}

-- what a pool shows: the links at each place, the root and the first spare place
pub record Nodes : Type 0 where
  pub nodes : List Links
  pub root : ℕ
  pub spare : ℕ

-- a pool with no place
abbrev pub no_nodes : Nodes
no_nodes = record { nodes = []; root = NO_NODE; spare = NO_NODE }

-- how many places a pool has
unfoldable pub places : Nodes → ℕ
places pool = length pool.nodes

-- the word for a parent's name and a node's colour
unfoldable pub word_of : ℕ → Bool → ℕ
word_of parent true = parent + 2 ^ 31
word_of parent false = parent

-- what a node's words name: the colour is above the parent's name
unfoldable pub links_of : ℕ → ℕ → ℕ → Links
links_of left right word = record { parent = word % 2 ^ 31; left = left; right = right; red = nat_le (2 ^ 31) word }

-- the links at a place
unfoldable pub links_at : Nodes → ℕ → Links
links_at pool i = slice_index_or pool.nodes i (record { parent = 0; left = 0; right = 0; red = false })

-- a node's links by the child on one side, and the child on the other
unfoldable pub wired : Bool → ℕ → Bool → ℕ → ℕ → Links
wired true parent red near far = record { parent = parent; left = near; right = far; red = red }
wired false parent red near far = record { parent = parent; left = far; right = near; red = red }

-- the child on one side
unfoldable pub child_of : Bool → Links → ℕ
child_of true links = links.left
child_of false links = links.right

-- the links with another child on one side
unfoldable pub with_child : Bool → ℕ → Links → Links
with_child true i links = record links { left = i }
with_child false i links = record links { right = i }

-- the name of a tree's root
unfoldable pub root_of : Tree → ℕ
root_of leaf = NO_NODE
root_of (fork name red left right) = name

-- the name of a subtree's parent
abbrev pub parent_of : Context → ℕ
parent_of top = NO_NODE
parent_of (under above on_left name red sibling) = name

-- the side that the subtree hangs on, where it has a parent
abbrev pub IsOnSide : Bool → Context → Type 0
IsOnSide s top = Unit {0}
IsOnSide s (under above on_left name red sibling) = s ≡ on_left

-- the place has these links
pub record IsNode (pool : Nodes) (i : ℕ) (links : Links) : Type 0 where
  pub within : i < places pool
  pub is : links_at pool i ≡ links

-- the nodes of the tree have the links that they should, its root this parent
unfoldable pub IsAt : Nodes → ℕ → Tree → Type 0
IsAt pool parent leaf = Unit {0}
IsAt pool parent (fork name red left right) =
    IsNode pool name (wired true parent red (root_of left) (root_of right)) × (IsAt pool name left × IsAt pool name right)

-- the nodes round a subtree have the links that they should, with this name for the subtree's root
abbrev pub IsAround : Nodes → Context → ℕ → Type 0
IsAround pool top i = pool.root ≡ i
IsAround pool (under above on_left name red sibling) i =
    IsNode pool name (wired on_left (parent_of above) red i (root_of sibling)) × (IsAt pool name sibling × IsAround pool above name)

-- these places are spare, the first of them this one
abbrev pub AreSpare : Nodes → ℕ → List ℕ → Type 0
AreSpare pool first [] = first ≡ NO_NODE
AreSpare pool first (i ∷ rest) = (first ≡ i) × ((i < places pool) × AreSpare pool (links_at pool i).left rest)

-- how often a name stands in a list
abbrev pub count_in : ℕ → List ℕ → ℕ
count_in i [] = 0
count_in i (name ∷ rest) = one name i + count_in i rest

-- the pool holds this tree, and every other place is spare
pub record Stands (pool : Nodes) (spare : List ℕ) (tree : Tree) : Type 0 where
  pub root : pool.root ≡ root_of tree
  pub at : IsAt pool NO_NODE tree
  pub spares : AreSpare pool pool.spare spare
  pub once : (i : ℕ) → count i tree + count_in i spare ≤ 1
  pub all : size tree + length spare ≡ places pool
  pub fits : places pool ≤ NO_NODE

-- the links changed only at names that are counted
pub record ChangesOnly (counted : ℕ → ℕ) (old new : Nodes) : Type 0 where
  pub places : places new ≡ places old
  pub elsewhere : (i : ℕ) → counted i ≡ 0 → links_at new i ≡ links_at old i

-- one place has new links
pub record IsPut (old new : Nodes) (i : ℕ) (links : Links) : Type 0 where
  pub there : links_at new i ≡ links
  pub only : ChangesOnly (one i) old new
  pub root : new.root ≡ old.root
  pub spare : new.spare ≡ old.spare

-- a node of the pool's tree, and what is round it
pub record Focus (pool : Nodes) (i : ℕ) : Type 0 where
  pub spare : List ℕ
  pub context : Context
  pub tree : Tree
  pub stands : Stands pool spare (plug context tree)
  pub root_is : root_of tree ≡ i
  pub there : i ≢ NO_NODE

-- a subtree by its root's name, which may be NO_NODE
pub record Subtree (pool : Nodes) (i : ℕ) : Type 0 where
  pub tree : Tree
  pub parent : ℕ
  pub at : IsAt pool parent tree
  pub root_is : root_of tree ≡ i
  pub once : (j : ℕ) → count j tree ≤ 1
  pub fits : places pool ≤ NO_NODE

-- a subtree got another parent
pub record IsAdopted (old new : Nodes) (parent : ℕ) (tree : Tree) : Type 0 where
  pub at : IsAt new parent tree
  pub only : ChangesOnly (λ i. count i tree) old new
  pub root : new.root ≡ old.root
  pub spare : new.spare ≡ old.spare

-- where a subtree can hang: by its parent's name and the side
pub record Hangs (pool : Nodes) (parent : ℕ) (side : Bool) : Type 0 where
  pub context : Context
  pub child : ℕ
  pub around : IsAround pool context child
  pub parent_is : parent_of context ≡ parent
  pub side_is : IsOnSide side context
  pub once : (j : ℕ) → count_around j context ≤ 1
  pub fits : places pool ≤ NO_NODE

-- the place below a context got another subtree
pub record IsHung (old new : Nodes) (context : Context) (child : ℕ) : Type 0 where
  pub around : IsAround new context child
  pub only : ChangesOnly (λ i. count_around i context) old new
  pub spare : new.spare ≡ old.spare

-- a node with a child on this side
pub record Lifts (pool : Nodes) (parent : ℕ) (side : Bool) : Type 0 where
  pub spare : List ℕ
  pub context : Context
  pub parent_red : Bool
  pub child : ℕ
  pub child_red : Bool
  pub outer : Tree
  pub inner : Tree
  pub sibling : Tree
  pub stands : Stands pool spare (plug context (join side parent parent_red (join side child child_red outer inner) sibling))

-- the tree with that child above its parent, each with the other's colour
abbrev pub lifted : {pool : Nodes} {parent : ℕ} {side : Bool} → Lifts pool parent side → Tree
lifted {pool} {parent} {side} l = plug l.context (join side l.child l.parent_red l.outer (join side parent l.child_red l.inner l.sibling))

-- one more place, and all else as it was
pub record Grows (old new : Nodes) : Type 0 where
  pub root : new.root ≡ old.root
  pub spare : new.spare ≡ old.spare
  pub one_more : places new ≡ places old + 1
  pub elsewhere : (i : ℕ) → i < places old → links_at new i ≡ links_at old i

-- a place where a leaf can hang: below this parent on this side
pub record Vacant (pool : Nodes) (parent : ℕ) (side : Bool) : Type 0 where
  pub spare : List ℕ
  pub context : Context
  pub stands : Stands pool spare (plug context leaf)
  pub parent_is : parent_of context ≡ parent
  pub side_is : IsOnSide side context

-- the pool holds this tree, every other place but one is spare, and that one is neither
pub record StandsBeside (pool : Nodes) (spare : List ℕ) (loose : ℕ) (tree : Tree) : Type 0 where
  pub root : pool.root ≡ root_of tree
  pub at : IsAt pool NO_NODE tree
  pub spares : AreSpare pool pool.spare spare
  pub once : (i : ℕ) → one loose i + (count i tree + count_in i spare) ≤ 1
  pub all : 1 + (size tree + length spare) ≡ places pool
  pub fits : places pool ≤ NO_NODE
  pub within : loose < places pool

-- a new node's place is the first spare one, and where none is spare, one more after those there were
pub data IsPlaceOfNew (spare before after : ℕ) (i : ℕ) : Type 0 where
  reused : spare ≢ NO_NODE → i ≡ spare → i < before → after ≡ before → IsPlaceOfNew spare before after i
  one_more : spare ≡ NO_NODE → i ≡ before → after ≡ before + 1 → IsPlaceOfNew spare before after i

-- a place was taken for a node
pub record TakesPlace (old new : Nodes) (tree : Tree) (loose : ℕ) : Type 0 where
  pub spare : List ℕ
  pub stands : StandsBeside new spare loose tree
  pub place : IsPlaceOfNew old.spare (places old) (places new) loose

-- a red node with no child hangs at the vacant place
pub record IsAttached (old new : Nodes) (context : Context) (i : ℕ) : Type 0 where
  pub spare : List ℕ
  pub stands : Stands new spare (plug context (join true i true leaf leaf))
  pub place : IsPlaceOfNew old.spare (places old) (places new) i

-- a node with no child on this side
pub record Cuts (pool : Nodes) (i : ℕ) (side : Bool) : Type 0 where
  pub spare : List ℕ
  pub context : Context
  pub red : Bool
  pub child : Tree
  pub stands : Stands pool spare (plug context (join side i red leaf child))
