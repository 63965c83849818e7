-- A place for a new node of a red-black tree, and the names in order.
use Rattle.std.specs.Prelude.{◌≡◌, ℕ, zero, suc, List, [], ◌∷◌, ◌++◌, Bool, if◌then◌else◌, nat_eq}
use Rattle.i_tree.specs.declared.tree.pool.TheConstants.{NO_NODE}
use Rattle.i_tree.specs.Tree.Shape.{leaf, Context, names_before, names_after}
use Rattle.i_tree.specs.Tree.Pool.{Nodes, places, links_at, parent_of, IsOnSide, IsPlaceOfNew}
use Rattle.i_tree.specs.Tree.Insertion.{IsTreeBalanced}
use Rattle.i_tree.specs.Tree.Removal.{IsFilled}

-- a vacant place of a red-black tree: below this parent on this side, or the whole tree's
pub record Gap (pool : Nodes) (parent : ℕ) (side : Bool) : Type 0 where
  pub spare : List ℕ
  pub context : Context
  pub filled : IsFilled pool spare context leaf
  pub parent_is : parent_of context ≡ parent
  pub side_is : IsOnSide side context

-- the tree is red-black and has one more node, at that place
pub record IsAdded (old new : Nodes) (context : Context) (i : ℕ) : Type 0 where
  pub spare : List ℕ
  pub balanced : IsTreeBalanced new spare (names_before context ++ (i ∷ names_after context))
  pub place : IsPlaceOfNew old.spare (places old) (places new) i

-- the names at or below a node from left to right, down to some depth
unfoldable pub names_below : ℕ → Nodes → ℕ → List ℕ
names_below zero pool i = []
names_below (suc n) pool i =
    if nat_eq i NO_NODE then [] else names_below n pool (links_at pool i).left ++ (i ∷ names_below n pool (links_at pool i).right)
