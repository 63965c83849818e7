-- Redrawing: passes until one marks nothing.
use Rattle.std.specs.Prelude.{◌≢◌, ◌⊎◌, ◌≤◌, ℕ, zero, suc, ◌+◌, ◌*◌, ◌-ℤ◌, unsigned_abs, List, map, sum, AllPairs}
use Rattle.plane_base.specs.Plane.{Edge}
use Rattle.plane_base.specs.Counts.{Counting, Entry, normal}
use Rattle.segment_split.specs.Passes.{early_passes, edges_of, marks_in, MarksSome, pass}
use Rattle.segment_split.specs.declared.solver.Precision.{Precision}

-- the map before pass n, when nothing was marked in vain before
abbrev pub iterate : {C : Type 0} → Counting C → Precision → List (Entry C) → ℕ → List (Entry C)
iterate kind precision es zero = es
iterate kind precision es (suc n) = pass kind precision (iterate kind precision es n) n

-- the way from one end to the other, along x and then along y
abbrev pub taxicab : Edge → ℕ
taxicab s = unsigned_abs (s.b.x -ℤ s.a.x) + unsigned_abs (s.b.y -ℤ s.a.y)

-- A late pass that marks anything lowers this number.
abbrev pub spread : List Edge → ℕ
spread es = sum (map (λ s. taxicab s * taxicab s) es)

-- The redrawn map: that before the first pass that marks nothing. After so many passes as here nothing is marked any more,
-- and a pass that marks nothing leaves the map as it is.
abbrev pub redrawn : {C : Type 0} → Counting C → Precision → List (Entry C) → List (Entry C)
redrawn kind precision es =
    iterate kind precision es (early_passes + spread (edges_of (iterate kind precision es early_passes)))

-- pass k marks the map that is before it
abbrev pub MarksInPass : {C : Type 0} → Counting C → Precision → List (Entry C) → ℕ → Type 0
MarksInPass kind precision es k = MarksSome (marks_in precision k) (edges_of (iterate kind precision es k))

-- Each pass that marks nothing is this one or a later one.
abbrev pub AllMarkedBefore : {C : Type 0} → Counting C → Precision → List (Entry C) → ℕ → Type 0
AllMarkedBefore kind precision es k = (n : ℕ) → (MarksInPass kind precision es n → ⊥) → k ≤ n

-- Of entries as they are given: two lie on one edge, or some pass marks.
abbrev pub IsChanged : {C : Type 0} → Counting C → Precision → List (Entry C) → Type 0
IsChanged kind precision given =
    (AllPairs (λ e f. e.edge ≢ f.edge) given → ⊥) ⊎ ((k : ℕ) × MarksInPass kind precision (normal kind given) k)
