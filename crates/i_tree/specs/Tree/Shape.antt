-- Red-black trees of named nodes, and what is round a subtree.
use Rattle.std.specs.Prelude.{◌≡◌, ℕ, ◌+◌, ◌≤◌, List, [], ◌∷◌, ◌++◌, Bool, true, false, if◌then◌else◌, nat_eq}

-- a tree of nodes, each with its name and whether it is red
pub data Tree : Type 0 where
  leaf : Tree
  fork : (name : ℕ) (red : Bool) (left right : Tree) → Tree

-- what is round a subtree, from its parent upward: whether the subtree is its parent's left child, the parent's name
-- and colour, and the parent's other child
pub data Context : Type 0 where
  top : Context
  under : (above : Context) (on_left : Bool) (name : ℕ) (red : Bool) (sibling : Tree) → Context

-- a node with its child on one side, and the child on the other
unfoldable pub join : Bool → ℕ → Bool → Tree → Tree → Tree
join true name red near far = fork name red near far
join false name red near far = fork name red far near

-- the whole tree, with this subtree in its context
abbrev pub plug : Context → Tree → Tree
plug top t = t
plug (under above on_left name red sibling) t = plug above (join on_left name red t sibling)

-- the names from left to right
unfoldable pub names : Tree → List ℕ
names leaf = []
names (fork name red left right) = names left ++ (name ∷ names right)

-- the names to the left of a subtree, and those to its right
unfoldable pub names_before : Context → List ℕ
names_before top = []
names_before (under above true name red sibling) = names_before above
names_before (under above false name red sibling) = names_before above ++ (names sibling ++ (name ∷ []))

unfoldable pub names_after : Context → List ℕ
names_after top = []
names_after (under above true name red sibling) = (name ∷ names sibling) ++ names_after above
names_after (under above false name red sibling) = names_after above

-- 1 where the two names are the same, else 0
unfoldable pub one : ℕ → ℕ → ℕ
one name i = if nat_eq name i then 1 else 0

-- how often a name stands in a tree, and round a subtree
unfoldable pub count : ℕ → Tree → ℕ
count i leaf = 0
count i (fork name red left right) = one name i + (count i left + count i right)

abbrev pub count_around : ℕ → Context → ℕ
count_around i top = 0
count_around i (under above on_left name red sibling) = one name i + (count i sibling + count_around i above)

-- how many nodes a tree has
unfoldable pub size : Tree → ℕ
size leaf = 0
size (fork name red left right) = 1 + (size left + size right)

abbrev pub size_around : Context → ℕ
size_around top = 0
size_around (under above on_left name red sibling) = 1 + (size sibling + size_around above)

-- 1 for a red node, else 0
abbrev pub redness : Bool → ℕ
redness true = 1
redness false = 0

-- 1 for a black node, else 0
abbrev pub blackness : Bool → ℕ
blackness true = 0
blackness false = 1

-- 1 where the root is red
unfoldable pub root_redness : Tree → ℕ
root_redness leaf = 0
root_redness (fork name red left right) = redness red

-- each way down has this many black nodes, and no red node has a red child
unfoldable pub IsRedBlack : ℕ → Tree → Type 0
IsRedBlack height leaf = height ≡ 0
IsRedBlack height (fork name red left right) =
    (below : ℕ) × ((height ≡ below + blackness red) × ((root_redness left + redness red ≤ 1) ×
    ((root_redness right + redness red ≤ 1) × (IsRedBlack below left × IsRedBlack below right))))

-- the whole is a red-black tree with a black root, where the subtree is one of this height and root colour
abbrev pub Fits : Context → ℕ → ℕ → Type 0
Fits top height redness_of_root = redness_of_root ≡ 0
Fits (under above on_left name red sibling) height redness_of_root =
    (redness_of_root + redness red ≤ 1) × ((root_redness sibling + redness red ≤ 1) ×
    (IsRedBlack height sibling × Fits above (height + blackness red) (redness red)))
