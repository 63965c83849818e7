-- What becomes of the indexes of a set as one value comes or goes.
use Rattle.std.specs.Prelude.{◌≡◌, ℕ, List, ◌∷◌, ◌++◌}
use Rattle.i_tree.specs.IndexedSet.{IndexedSet}

-- a value came, and all others keep their indexes
pub record AddsOne {V : Type 0} (value : V) (old new : IndexedSet V) : Type 0 where
  pub before : List (ℕ × V)
  pub index : ℕ
  pub after : List (ℕ × V)
  pub old_is : old.entries ≡ before ++ after
  pub new_is : new.entries ≡ before ++ ((index, value) ∷ after)

-- the value with the index went, and all others keep theirs, or the one after it took the index and the rest keep theirs
pub data DropsOne {V : Type 0} (index : ℕ) (old new : IndexedSet V) : Type 0 where
  dropped : (before : List (ℕ × V)) (value : V) (after : List (ℕ × V)) → old.entries ≡ before ++ ((index, value) ∷ after) → new.entries ≡ before ++ after →
      DropsOne index old new
  moved : (before : List (ℕ × V)) (value : V) (left : ℕ) (next : V) (after : List (ℕ × V)) → old.entries ≡ before ++ ((index, value) ∷ (left, next) ∷ after) →
      new.entries ≡ before ++ ((index, next) ∷ after) → DropsOne index old new
