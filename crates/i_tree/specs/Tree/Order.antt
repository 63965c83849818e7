-- The order of the nodes of a tree.
use Rattle.std.specs.Prelude.{◌≡◌, ℕ, List, [], ◌∷◌, Bool, true}
use Rattle.i_tree.specs.Tree.Shape.{Tree, leaf, Context, join, plug, names_after}
use Rattle.i_tree.specs.Tree.Pool.{Nodes, Stands}

-- the last name, or `none`
abbrev pub last_of : ℕ → List ℕ → ℕ
last_of none [] = none
last_of none (name ∷ rest) = last_of name rest

-- the rightmost node of a tree
pub record IsLast (tree : Tree) (i : ℕ) : Type 0 where
  pub inner : Context
  pub red : Bool
  pub left : Tree
  pub is : tree ≡ plug inner (join true i red left leaf)
  pub none_after : names_after inner ≡ []

-- a node of the pool's tree, with what is below it
pub record Fork (pool : Nodes) (i : ℕ) : Type 0 where
  pub spare : List ℕ
  pub context : Context
  pub red : Bool
  pub left : Tree
  pub right : Tree
  pub stands : Stands pool spare (plug context (join true i red left right))
