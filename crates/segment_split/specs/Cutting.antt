-- What a pass makes of a map before anything is joined.
use Rattle.std.specs.Prelude.{ℕ, ℤ, List, ◌++◌, IsPermutation}
use Rattle.plane_base.specs.Counts.{Counting, Entry}
use Rattle.segment_split.specs.Passes.{edges_of, marks_in}
use Rattle.segment_split.specs.Refusals.{steps_in}
use Rattle.segment_split.specs.Merging.{IsMap}
use Rattle.segment_split.specs.MarkLists.{LaidMark, AreMarks, AreUnmarked}
use Rattle.segment_split.specs.declared.solver.Precision.{Precision}

-- Of the entries of a map those that pass k leaves unmarked are kept, as a map, and the others are cut to pieces.
pub record AreParts {C : Type 0} (kind : Counting C) (precision : Precision) (k : ℕ) (es kept pieces : List (Entry C)) : Type 0 where
  pub steps : IsPermutation (steps_in kind precision es k) (kept ++ pieces)
  pub unmarked : AreUnmarked (marks_in precision k) (edges_of es) (edges_of kept)
  pub map : IsMap kind kept

-- In whatever pass these are the marks, the entries are kept or cut as in that pass.
abbrev pub IsCut : {C : Type 0} → ℤ → ℤ → ℤ → Counting C → List LaidMark → List (Entry C) → List (Entry C) → List (Entry C) → Type 0
IsCut stride least greatest kind laid es kept pieces =
    (precision : Precision) (k : ℕ) → AreMarks stride least greatest (marks_in precision k) (edges_of es) laid → AreParts kind precision k es kept pieces
