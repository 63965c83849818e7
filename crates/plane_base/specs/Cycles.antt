-- A cycle is a list up to rotation.
use Rattle.std.specs.Prelude.{◌≡◌, List, ◌++◌}

-- the second list is the first, begun at another place
pub record SameCycle {A : Type 0} (c d : List A) : Type 0 where
  pub front : List A
  pub back : List A
  pub first : c ≡ front ++ back
  pub second : d ≡ back ++ front
