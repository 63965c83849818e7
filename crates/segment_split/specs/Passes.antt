-- A pass: each edge is cut at the marks that all edges lay on it, and what then lies on one pair of ends is joined.
use Rattle.std.specs.Prelude.{◌≢◌, ℕ, ◌+◌, ◌*◌, ◌^◌, min, nat_lt, cond, List, map, flat_map, Contains}
use Rattle.plane_base.specs.Plane.{Point, Edge}
use Rattle.plane_base.specs.Counts.{Counting, Entry, normal}
use Rattle.plane_base.specs.Given.{laid_path}
use Rattle.plane_base.specs.Crossing.{Marks, no_marks, cross_marks, late_marks}
use Rattle.segment_split.specs.Paths.{path}
use Rattle.segment_split.specs.declared.solver.Precision.{Precision}

-- In pass k a crossing off the grid goes to an end that is so near to it: a squared distance.
abbrev pub radius : Precision → ℕ → ℕ
radius precision k = 2 ^ min (precision.start + k * precision.progression) 60

-- so many passes look for near ends; those from then on are late, and round every crossing to the nearest whole point
abbrev pub early_passes : ℕ
early_passes = 256

-- what a pair of edges lays on each of the two in pass k
abbrev pub marks_in : Precision → ℕ → Edge → Edge → Marks
marks_in precision k s t = cond (nat_lt k early_passes) (cross_marks s t (radius precision k)) (late_marks s t)

-- ---- one pass, by whatever marks pairs lay

abbrev pub edges_of : {C : Type 0} → List (Entry C) → List Edge
edges_of es = map (λ e. e.edge) es

-- what the edges of the list lay on s
abbrev pub marks_on : (Edge → Edge → Marks) → List Edge → Edge → List Point
marks_on marks es s = flat_map (λ t. (marks s t).first) es

-- what an entry becomes: its count on each step of its path, negated where the step is turned
abbrev pub cut : {C : Type 0} → Counting C → (Edge → Edge → Marks) → List Edge → Entry C → List (Entry C)
cut kind marks es e = laid_path kind e.count (path e.edge (marks_on marks es e.edge))

-- the entries, each cut at points that are told of its edge
abbrev pub all_cut_at : {C : Type 0} → Counting C → (Edge → List Point) → List (Entry C) → List (Entry C)
all_cut_at kind base es = flat_map (λ e. laid_path kind e.count (path e.edge (base e.edge))) es

-- the entries of one list, cut where the edges of another mark them
abbrev pub all_cut : {C : Type 0} → Counting C → (Edge → Edge → Marks) → List Edge → List (Entry C) → List (Entry C)
all_cut kind marks ss es = flat_map (cut kind marks ss) es

abbrev pub pass_by : {C : Type 0} → Counting C → (Edge → Edge → Marks) → List (Entry C) → List (Entry C)
pass_by kind marks es = normal kind (flat_map (cut kind marks (edges_of es)) es)

-- Two edges of the list lay a mark.
abbrev pub MarksSome : (Edge → Edge → Marks) → List Edge → Type 0
MarksSome marks es = (s : Edge) × (t : Edge) × Contains es s × Contains es t × (marks s t ≢ no_marks)

-- ---- the pass k

abbrev pub pass : {C : Type 0} → Counting C → Precision → List (Entry C) → ℕ → List (Entry C)
pass kind precision es k = pass_by kind (marks_in precision k) es
