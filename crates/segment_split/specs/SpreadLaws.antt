-- What late passes do to the spread.
use Rattle.std.specs.Prelude.{ℕ, ◌+◌, ◌*◌, ◌≤◌, Bool, nat_lt, List, length, count_by}
use Rattle.plane_base.specs.Plane.{Edge}
use Rattle.plane_base.specs.Counts.{Counting, Entry, IsNormal}
use Rattle.plane_base.specs.Crossing.{Marks}
use Rattle.segment_split.specs.Passes.{early_passes, edges_of, marks_on, marks_in, MarksSome, pass}
use Rattle.segment_split.specs.Redrawing.{spread}
use Rattle.segment_split.specs.declared.solver.Precision.{Precision}

-- the edges of the list lay a mark on s
abbrev pub is_marked : (Edge → Edge → Marks) → List Edge → Edge → Bool
is_marked marks es s = nat_lt 0 (length (marks_on marks es s))

-- how many edges of the list are marked
abbrev pub marked_count : (Edge → Edge → Marks) → List Edge → ℕ
marked_count marks es = count_by (is_marked marks es) es

-- A late pass lowers the spread by at least 2 for each edge that it marks, so by at least 2 where it marks anything.
pub record LatePassesLower {C : Type 0} (kind : Counting C) : Type 0 where
  pub by_marked : (precision : Precision) (es : List (Entry C)) (k : ℕ) → IsNormal kind es → early_passes ≤ k
      → spread (edges_of (pass kind precision es k)) + 2 * marked_count (marks_in precision k) (edges_of es) ≤ spread (edges_of es)
  pub by_two : (precision : Precision) (es : List (Entry C)) (k : ℕ) → IsNormal kind es → early_passes ≤ k
      → MarksSome (marks_in precision k) (edges_of es) → spread (edges_of (pass kind precision es k)) + 2 ≤ spread (edges_of es)
