-- When redrawing is refused.
use Rattle.std.specs.Prelude.{◌≡◌, ⊤, ◌⊎◌, ℕ, ◌^◌, ◌≤◌, Bool, false, List, [], ◌∷◌, ◌++◌, length, map, filter, flat_map, IsPermutation}
use Rattle.std.specs.Ordering.{is_eq}
use Rattle.plane_base.specs.Plane.{Edge, edge_order}
use Rattle.plane_base.specs.Counts.{Counting, Entry, normal}
use Rattle.plane_base.specs.declared.fault.Fault.{Fault}
use Rattle.plane_base.specs.declared.fault.Fault.TheVariants.{Memory, Count, Edges, Failed}
use Rattle.segment_split.specs.Passes.{edges_of, marks_in, cut}
use Rattle.segment_split.specs.Redrawing.{iterate}
use Rattle.segment_split.specs.declared.solver.Precision.{Precision}

-- the steps that the entries become in pass k, before any are joined
abbrev pub steps_in : {C : Type 0} → Counting C → Precision → List (Entry C) → ℕ → List (Entry C)
steps_in kind precision es k = flat_map (cut kind (marks_in precision k) (edges_of es)) es

-- ---- counts out of range

-- the counts that entries lay on an edge
abbrev pub counts_on : {C : Type 0} → Edge → List (Entry C) → List C
counts_on s es = map (λ e. e.count) (filter (λ e. is_eq (edge_order e.edge s)) es)

-- a count and those after it, joined
abbrev pub all_joined : {C : Type 0} → Counting C → C → List C → C
all_joined kind c [] = c
all_joined kind c (d ∷ ds) = all_joined kind (kind.join c d) ds

-- Of the counts that entries lay on one edge, taken in some order, some in a row leave the range when they are joined.
pub record IsOverfull {C : Type 0} (kind : Counting C) (fits : C → Bool) (es : List (Entry C)) : Type 0 where
  pub edge : Edge
  pub ordered : List (Entry C)
  pub reordered : IsPermutation es ordered
  pub before : List C
  pub first : C
  pub others : List C
  pub after : List C
  pub laid : counts_on edge ordered ≡ before ++ (first ∷ (others ++ after))
  pub too_much : fits (all_joined kind first others) ≡ false

-- the counts of the steps of some pass are too great
abbrev pub PassesTooMuch : {C : Type 0} → Counting C → (C → Bool) → Precision → List (Entry C) → Type 0
PassesTooMuch kind fits precision es = (k : ℕ) × IsOverfull kind fits (steps_in kind precision (iterate kind precision es k) k)

-- the counts of the given entries are, or those of the steps of some pass
abbrev pub CountsTooMuch : {C : Type 0} → Counting C → (C → Bool) → Precision → List (Entry C) → Type 0
CountsTooMuch kind fits precision given = IsOverfull kind fits given ⊎ PassesTooMuch kind fits precision (normal kind given)

-- ---- too many edges

-- some pass lays 2^31 steps or more
abbrev pub LaysTooMany : {C : Type 0} → Counting C → Precision → List (Entry C) → Type 0
LaysTooMany kind precision es = (k : ℕ) × (2 ^ 31 ≤ length (steps_in kind precision (iterate kind precision es k) k))

-- ----

-- Memory may always be refused, `Count` and `Edges` only for these reasons. There is no other refusal.
abbrev pub IsRefusal : Type 0 → Type 0 → Fault → Type 0
IsRefusal too_much too_many Memory = ⊤
IsRefusal too_much too_many Count = too_much
IsRefusal too_much too_many Edges = too_many
IsRefusal too_much too_many Failed = ⊥

-- a refusal to lay these steps and join them: of their counts, or of their number
abbrev pub IsRefusalOf : {C : Type 0} → Counting C → (C → Bool) → List (Entry C) → Fault → Type 0
IsRefusalOf kind fits steps = IsRefusal (IsOverfull kind fits steps) (2 ^ 31 ≤ length steps)
