-- How a new red node finds its place in a red-black tree.
use Rattle.std.specs.Prelude.{◌≡◌, ℕ, suc, ◌+◌, ◌<◌, List, Bool, true, false}
use Rattle.i_tree.specs.declared.tree.pool.TheConstants.{NO_NODE}
use Rattle.i_tree.specs.Tree.Shape.{Tree, Context, top, under, join, plug, names, root_redness, IsRedBlack, Fits}
use Rattle.i_tree.specs.Tree.Pool.{Nodes, Stands}

-- how many nodes are above a subtree
abbrev pub depth : Context → ℕ
depth top = 0
depth (under above on_left name red sibling) = suc (depth above)

-- the pool holds a red-black tree with a black root and these names
pub record IsTreeBalanced (pool : Nodes) (spare ns : List ℕ) : Type 0 where
  pub tree : Tree
  pub height : ℕ
  pub stands : Stands pool spare tree
  pub red_black : IsRedBlack height tree
  pub black : root_redness tree ≡ 0
  pub names_are : names tree ≡ ns

-- a red node with black children of this height, from this side
pub record IsRedFork (s : Bool) (i height : ℕ) (tree : Tree) : Type 0 where
  pub near : Tree
  pub far : Tree
  pub is : tree ≡ join s i true near far
  pub near_is : IsRedBlack height near
  pub far_is : IsRedBlack height far
  pub near_black : root_redness near ≡ 0
  pub far_black : root_redness far ≡ 0

-- the pool holds a tree with these names that is red-black but for this red node, whose parent may be red
pub record IsRedAt (pool : Nodes) (spare ns : List ℕ) (deep i : ℕ) : Type 0 where
  pub context : Context
  pub tree : Tree
  pub height : ℕ
  pub stands : Stands pool spare (plug context tree)
  pub opens : (s : Bool) → IsRedFork s i height tree
  pub fits : Fits context height 0
  pub names_are : names (plug context tree) ≡ ns
  pub deep_is : depth context ≡ deep

-- after one step all is well, or a node further up is red
pub data IsMended (pool : Nodes) (spare ns : List ℕ) (deep i : ℕ) : Type 0 where
  done : i ≡ NO_NODE → IsTreeBalanced pool spare ns → IsMended pool spare ns deep i
  goes_on : (higher : ℕ) → higher < deep → IsRedAt pool spare ns higher i → IsMended pool spare ns deep i

-- a black node with two red children
pub record Reddens (pool : Nodes) (i : ℕ) (side : Bool) : Type 0 where
  pub spare : List ℕ
  pub context : Context
  pub near_side : Bool
  pub near : ℕ
  pub far_side : Bool
  pub far : ℕ
  pub a : Tree
  pub b : Tree
  pub c : Tree
  pub d : Tree
  pub stands : Stands pool spare (plug context (join side i false (join near_side near true a b) (join far_side far true c d)))

-- the tree with that node red and its children black
abbrev pub reddened : {pool : Nodes} {i : ℕ} {side : Bool} → Reddens pool i side → Tree
reddened {pool} {i} {side} r = plug r.context (join side i true (join r.near_side r.near false r.a r.b) (join r.far_side r.far false r.c r.d))

-- a red node under a red one, with a black uncle: the uncle's brother hangs on this side of the node above
pub record IsRedTwice (pool : Nodes) (spare ns : List ℕ) (deep : ℕ) (side : Bool) (above parent i : ℕ) : Type 0 where
  pub context : Context
  pub uncle : Tree
  pub inner_side : Bool
  pub sibling : Tree
  pub tree : Tree
  pub height : ℕ
  pub stands : Stands pool spare (plug (under (under context side above false uncle) inner_side parent true sibling) tree)
  pub opens : (s : Bool) → IsRedFork s i height tree
  pub sibling_is : IsRedBlack height sibling
  pub sibling_black : root_redness sibling ≡ 0
  pub uncle_is : IsRedBlack height uncle
  pub fits : Fits context (height + 1) 0
  pub names_are : names (plug (under (under context side above false uncle) inner_side parent true sibling) tree) ≡ ns
  pub deep_is : suc (suc (depth context)) ≡ deep

-- the same, the red node on the outer side
pub record IsRedOuter (pool : Nodes) (spare ns : List ℕ) (side : Bool) (above : ℕ) : Type 0 where
  pub context : Context
  pub uncle : Tree
  pub parent : ℕ
  pub sibling : Tree
  pub tree : Tree
  pub height : ℕ
  pub stands : Stands pool spare (plug context (join side above false (join side parent true tree sibling) uncle))
  pub tree_is : IsRedBlack height tree
  pub sibling_is : IsRedBlack height sibling
  pub sibling_black : root_redness sibling ≡ 0
  pub uncle_is : IsRedBlack height uncle
  pub uncle_black : root_redness uncle ≡ 0
  pub fits : Fits context (height + 1) 0
  pub names_are : names (plug context (join side above false (join side parent true tree sibling) uncle)) ≡ ns

-- a red node under a red one, with a black uncle
pub record IsTwisted (pool : Nodes) (spare ns : List ℕ) (side : Bool) (above parent i : ℕ) : Type 0 where
  pub deep : ℕ
  pub twice : IsRedTwice pool spare ns deep side above parent i
  pub uncle_black : root_redness (IsRedTwice.uncle twice) ≡ 0
