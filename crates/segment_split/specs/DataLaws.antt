-- What passes and redrawing do with data.
use Rattle.std.specs.Prelude.{◌≡◌, ℕ, List, [], ◌∷◌, ◌++◌, map, Some, IsPermutation}
use Rattle.plane_base.specs.Plane.{Edge}
use Rattle.plane_base.specs.Counts.{Counting, Entry, count_at, IsNormal, normal}
use Rattle.segment_split.specs.Passes.{edges_of, marks_in, MarksSome, pass}
use Rattle.segment_split.specs.Redrawing.{iterate, redrawn, MarksInPass}
use Rattle.segment_split.specs.Refusals.{steps_in, counts_on}
use Rattle.segment_split.specs.Data.{carried, without_data, normal_with_data, pass_with_data, iterate_with_data, redrawn_with_data}
use Rattle.segment_split.specs.declared.solver.Precision.{Precision}

-- Data apart, a map with data is the map of the entries without their data.
pub record ForgetsData {C D : Type 0} (kind : Counting C) (join : D → D → D) (precision : Precision) : Type 0 where
  pub of_normal : (es : List (Entry (C × D))) → without_data (normal_with_data kind join es) ≡ normal kind (without_data es)
  pub of_pass : (es : List (Entry (C × D))) (k : ℕ) → without_data (pass_with_data kind join precision es k) ≡ pass kind precision (without_data es) k
  pub of_iterate : (es : List (Entry (C × D))) (n : ℕ) → without_data (iterate_with_data kind join precision es n) ≡ iterate kind precision (without_data es) n
  pub of_redrawn : (es : List (Entry (C × D))) → without_data (redrawn_with_data kind join precision es) ≡ redrawn kind precision (without_data es)

-- Entries may be given in any order, and some of them joined among themselves before the others, as long as what then counts for nothing
-- stays. A map is its own map with data.
pub record JoinsInAnyOrder {C D : Type 0} (kind : Counting C) (join : D → D → D) : Type 0 where
  pub permuted : (es fs : List (Entry (C × D))) → IsPermutation es fs → normal_with_data kind join fs ≡ normal_with_data kind join es
  pub in_parts : (es fs : List (Entry (C × D))) → normal_with_data kind join (es ++ normal (carried kind join) fs) ≡ normal_with_data kind join (es ++ fs)
  pub of_map : (es : List (Entry (C × D))) → IsNormal kind (without_data es) → normal_with_data kind join es ≡ es

-- A pass that marks nothing leaves the data too. The redrawn map with data is that before any pass that marks nothing.
pub record DataComeToRest {C D : Type 0} (kind : Counting C) (join : D → D → D) (precision : Precision) : Type 0 where
  pub unmarked :
      (es : List (Entry (C × D))) (k : ℕ) → IsNormal kind (without_data es) → (MarksSome (marks_in precision k) (edges_of es) → ⊥)
      → pass_with_data kind join precision es k ≡ es
  pub at_each :
      (es : List (Entry (C × D))) (n : ℕ) → IsNormal kind (without_data es) → (MarksInPass kind precision (without_data es) n → ⊥)
      → redrawn_with_data kind join precision es ≡ iterate_with_data kind join precision es n

-- ---- the datum of an edge

-- the data that entries lay on an edge, in their order
abbrev pub data_on : {C D : Type 0} → Edge → List (Entry (C × D)) → List D
data_on s es = map (λ c. c.1) (counts_on s es)

-- a datum and those after it, joined
abbrev pub all_data_joined : {D : Type 0} → (D → D → D) → D → List D → D
all_data_joined join d [] = d
all_data_joined join d (e ∷ es) = all_data_joined join (join d e) es

-- There are some data, and the datum is the join of them all.
pub record IsJoinOf {D : Type 0} (join : D → D → D) (ds : List D) (joined : D) : Type 0 where
  pub first : D
  pub others : List D
  pub are : ds ≡ first ∷ others
  pub is : joined ≡ all_data_joined join first others

-- An edge's datum is the join of the data of all entries on it, in whatever order they are taken, and after a pass of all steps on it.
pub record DataIsOfSteps {C D : Type 0} (kind : Counting C) (join : D → D → D) (precision : Precision) : Type 0 where
  pub of_normal :
      (es ordered : List (Entry (C × D))) (s : Edge) (c : C) (d : D) → IsPermutation es ordered → count_at (normal_with_data kind join es) s ≡ Some (c, d)
      → IsJoinOf join (data_on s ordered) d
  pub of_pass :
      (es ordered : List (Entry (C × D))) (k : ℕ) (s : Edge) (c : C) (d : D) → IsPermutation (steps_in (carried kind join) precision es k) ordered
      → count_at (pass_with_data kind join precision es k) s ≡ Some (c, d) → IsJoinOf join (data_on s ordered) d
