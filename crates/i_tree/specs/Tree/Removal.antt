-- How a red-black tree is mended where a black node is missing.
use Rattle.std.specs.Prelude.{◌≡◌, ℕ, ◌+◌, ◌<◌, List, [], ◌∷◌, ◌++◌, Bool, true, false}
use Rattle.i_tree.specs.Tree.Shape.{Tree, leaf, Context, top, under, join, plug, names, names_before, root_redness, IsRedBlack, Fits}
use Rattle.i_tree.specs.Tree.Pool.{Nodes, Stands}
use Rattle.i_tree.specs.Tree.Insertion.{depth}

-- the context of a subtree of a subtree
abbrev pub append : Context → Context → Context
append top outer = outer
append (under above on_left name red sibling) outer = under (append above outer) on_left name red sibling

-- whether a subtree's parent is red
abbrev pub parent_red : Context → Bool
parent_red top = false
parent_red (under above on_left name red sibling) = red

-- the nodes above stay above, on the same sides and in the same order, and more may come between them
pub data Grown : Context → Context → Type 0 where
  same : (c : Context) → Grown c c
  keep : (c d : Context) (s : Bool) (i : ℕ) (r q : Bool) (t u : Tree) → Grown c d → names u ≡ names t → Grown (under c s i r t) (under d s i q u)
  more : (c : Context) (s : Bool) (i j : ℕ) (r q p : Bool) (t u v : Tree) → names (join s j q u v) ≡ names t →
      Grown (under c s i r t) (under (under c s j q v) s i p u)
  trans : (c d e : Context) → Grown c d → Grown d e → Grown c e

-- the pool holds this subtree in its context, which wants a subtree with one more black node on each way down
pub record Lacks (pool : Nodes) (spare : List ℕ) (context : Context) (tree : Tree) : Type 0 where
  pub height : ℕ
  pub stands : Stands pool spare (plug context tree)
  pub good : IsRedBlack height tree
  pub black : root_redness tree ≡ 0
  pub fits : Fits context (height + 1) 0

-- the pool holds this subtree in its context, and all is red-black with a black root
pub record IsFilled (pool : Nodes) (spare : List ℕ) (context : Context) (tree : Tree) : Type 0 where
  pub height : ℕ
  pub stands : Stands pool spare (plug context tree)
  pub good : IsRedBlack height (plug context tree)
  pub black : root_redness (plug context tree) ≡ 0

-- a lack below a node, on this side
pub record LacksBelow (pool : Nodes) (i : ℕ) (side : Bool) : Type 0 where
  pub spare : List ℕ
  pub above : Context
  pub red : Bool
  pub sibling : Tree
  pub tree : Tree
  pub lacks : Lacks pool spare (under above side i red sibling) tree

-- a lack below a node whose other child is black
pub record LacksByBlack (pool : Nodes) (i : ℕ) (side : Bool) : Type 0 where
  pub below : LacksBelow pool i side
  pub sibling_black : root_redness (LacksBelow.sibling below) ≡ 0

-- the same, and the sibling's outer child is red
pub record LacksByRed (pool : Nodes) (i : ℕ) (side : Bool) : Type 0 where
  pub spare : List ℕ
  pub above : Context
  pub red : Bool
  pub sibling : ℕ
  pub inner : Tree
  pub outer : Tree
  pub tree : Tree
  pub lacks : Lacks pool spare (under above side i red (join side sibling false inner outer)) tree
  pub outer_red : root_redness outer ≡ 1

-- the same, and both children of the sibling are black
pub record LacksByBoth (pool : Nodes) (i sibling : ℕ) (side : Bool) : Type 0 where
  pub spare : List ℕ
  pub above : Context
  pub red : Bool
  pub inner : Tree
  pub outer : Tree
  pub tree : Tree
  pub lacks : Lacks pool spare (under above side i red (join side sibling false inner outer)) tree
  pub inner_black : root_redness inner ≡ 0
  pub outer_black : root_redness outer ≡ 0

-- the lack is filled, or it is the node's own
pub data IsRefilled (pool : Nodes) (spare : List ℕ) (context : Context) (tree : Tree) (i : ℕ) : Bool → Type 0 where
  filled : (c : Context) → Grown context c → IsFilled pool spare c tree → IsRefilled pool spare context tree i true
  passed : (above : Context) (s : Bool) (sibling : Tree) → parent_red context ≡ false → depth above < depth context →
      Grown context (under above s i false sibling) → Lacks pool spare above (join s i false tree sibling) → IsRefilled pool spare context tree i false

-- the lack is filled in a context that has grown
pub record FillsIn (pool : Nodes) (spare : List ℕ) (context : Context) (tree : Tree) : Type 0 where
  pub grown : Context
  pub grows : Grown context grown
  pub filled : IsFilled pool spare grown tree

-- a node of a red-black tree with no child on this side
pub record TakesNodeOut (pool : Nodes) (i : ℕ) (side : Bool) : Type 0 where
  pub spare : List ℕ
  pub context : Context
  pub red : Bool
  pub child : Tree
  pub filled : IsFilled pool spare context (join side i red leaf child)

-- the node is gone, its place is spare, and all else is in its order
pub record IsTakenOut (pool : Nodes) (spare : List ℕ) (context : Context) (child : Tree) : Type 0 where
  pub grown : Context
  pub grows : Grown context grown
  pub tree : Tree
  pub names_are : names tree ≡ names child
  pub filled : IsFilled pool spare grown tree

-- the list without this node, or without the next one, which then goes by this one's name
pub data Removes (i : ℕ) : ℕ → List ℕ → List ℕ → Type 0 where
  itself : (a b : List ℕ) → Removes i i (a ++ (i ∷ b)) (a ++ b)
  next : (j : ℕ) (a b : List ℕ) → Removes i j (a ++ (i ∷ j ∷ b)) (a ++ (i ∷ b))

-- one node fewer in this subtree, and all else in its order
pub record IsRemoved (pool : Nodes) (spare : List ℕ) (context : Context) (ns : List ℕ) (i j : ℕ) : Type 0 where
  pub grown : Context
  pub grows : Grown context grown
  pub tree : Tree
  pub removes : Removes i j ns (names tree)
  pub filled : IsFilled pool (j ∷ spare) grown tree

-- the leftmost node of a tree
pub record IsFirst (tree : Tree) (i : ℕ) : Type 0 where
  pub inner : Context
  pub red : Bool
  pub right : Tree
  pub is : tree ≡ plug inner (join true i red leaf right)
  pub none_before : names_before inner ≡ []
