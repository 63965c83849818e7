-- What a `SetList` stands for.
use Rattle.std.specs.Prelude.{ℕ}
use Rattle.std.specs.Vec.{with_item}
use Rattle.std.specs.List.{enumerate_from}
use Rattle.i_tree.specs.declared.set.list.SetList.{SetList}
use Rattle.i_tree.specs.IndexedSet.{IndexedSet}

-- an index is a position
abbrev pub set_of : {V : Type 0} → SetList V → IndexedSet V
set_of list = record { insertions = list.insertions; entries = enumerate_from 0 list.values.items }

-- the list after the value at a position was written over
abbrev pub list_written : {V : Type 0} → SetList V → ℕ → V → SetList V
list_written list index value = record list { values = with_item list.values index value }
