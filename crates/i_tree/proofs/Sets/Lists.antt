-- What a write at a position of a `SetList` does.
use Rattle.std.proofs.Common.{◌≡◌, ℕ, ◌-◌, ◌^◌, ◌≤◌, vec_len, refl}
use Rattle.std.proofs.Props.{props}
use Rattle.std.specs.Vec.{with_item}
use Rattle.i_tree.specs.declared.set.list.SetList.{SetList}
use Rattle.i_tree.specs.SetListView.{list_written}

-- the facts that a list keeps have one proof
pub list_written-same : {V : Type 0} (list : SetList V) (index : ℕ) (value : V) (few : vec_len (with_item list.values index value) ≤ list.insertions) (bounded : list.insertions ≤ 2 ^ 31 - 1) → record { values = with_item list.values index value; insertions = list.insertions; few = few; bounded = bounded } ≡ list_written list index value
list_written-same list index value few bounded =
    let one : IsProp (vec_len (with_item list.values index value) ≤ list.insertions) = hlevel props in
    let two : IsProp (list.insertions ≤ 2 ^ 31 - 1) = hlevel props in
    let first : few ≡ list.few = one few list.few in
    let second : bounded ≡ list.bounded = two bounded list.bounded in
    rw (first, second) refl
