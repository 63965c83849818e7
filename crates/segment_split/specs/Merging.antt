-- Two maps of entries joined to one.
use Rattle.std.specs.Prelude.{◌≡◌, Bool, false, List, All, AllPairs, Some}
use Rattle.std.specs.declared.cmp.Ordering.TheVariants.{Less}
use Rattle.plane_base.specs.Plane.{Edge, edge_order}
use Rattle.plane_base.specs.Counts.{Counting, Entry, count_at}

-- Edges rise, and no count is empty.
pub record IsMap {C : Type 0} (kind : Counting C) (es : List (Entry C)) : Type 0 where
  pub rising : AllPairs (λ e f. edge_order e.edge f.edge ≡ Less) es
  pub counted : All (λ e. kind.is_empty e.count ≡ false) es

-- The counts that the two have for one edge leave the range when they are joined.
pub record Clashes {C : Type 0} (kind : Counting C) (fits : C → Bool) (es fs : List (Entry C)) : Type 0 where
  pub edge : Edge
  pub one : C
  pub other : C
  pub of_one : count_at es edge ≡ Some one
  pub of_other : count_at fs edge ≡ Some other
  pub too_much : fits (kind.join one other) ≡ false
