-- What a search in the tree of a set comes to.
use Rattle.std.specs.Prelude.{◌≡◌, ℕ, List, [], map, Bool, true, false, Option, All}
use Rattle.std.specs.Ordering.{is_le}
use Rattle.std.specs.declared.cmp.Ordering.{Ordering}
use Rattle.i_tree.specs.declared.TheConstants.{EMPTY_REF}
use Rattle.i_tree.specs.Tree.Entries.{EntryTree, Place, tree_entries_of, last_named}
use Rattle.i_tree.specs.IndexedSet.{IsMonotoneBy}
use Rattle.i_tree.specs.Tree.SetView.{held}

-- `by` calls the keys before Less or Equal, and those after Greater
pub record IsParted {K V : Type 0} (key : V → K) (by : K → Ordering) (before after : List (ℕ × Option V)) : Type 0 where
  pub below : All (λ entry. is_le (by (key entry.1)) ≡ true) (held before)
  pub above : All (λ entry. is_le (by (key entry.1)) ≡ false) (held after)

-- a vacant place, so deep, with the index of the value before it; what tells of the closure parts the keys there
pub record IsGap {K V : Type 0} (tells : (K → Ordering) → Type 0) (key : V → K) (tree : EntryTree (Option V)) (parent : ℕ) (side : Bool)
    (deep index : ℕ) : Type 0 where
  pub before : List (ℕ × Option V)
  pub after : List (ℕ × Option V)
  pub place : Place tree parent side deep before [] after
  pub index_is : index ≡ last_named EMPTY_REF before
  pub parted : (by : K → Ordering) → tells by → IsMonotoneBy key by (map (λ entry. entry.1) (held (tree_entries_of tree))) → IsParted key by before after
