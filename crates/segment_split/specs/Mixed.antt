-- Maps in which a few slanted edges stand among horizontal and vertical ones: which pairs their first pass looks at, and what becomes of each kind.
use Rattle.std.specs.Prelude.{◌≡◌, ◌<◌, ◌≤◌, ◌&&◌, ◌++◌, ◌∷◌, [], ℕ, ℤ, Bool, true, false, not, List, length, map, filter, All, Contains, IsPermutation}
use Rattle.i_tree.specs.Steps.{Counts}
use Rattle.plane_base.specs.Plane.{Point, Edge}
use Rattle.plane_base.specs.Counts.{Count, Counting, Entry}
use Rattle.plane_base.specs.Given.{laid_path}
use Rattle.segment_split.specs.LineLaws.{is_rectilinear}
use Rattle.segment_split.specs.MarkLists.{LaidMark, IsAt, IsLaid, HasPair}
use Rattle.segment_split.specs.Passes.{edges_of, marks_in, all_cut, all_cut_at}
use Rattle.segment_split.specs.RedrawLaws.{with_counts}
use Rattle.segment_split.specs.Rows.{is_old, CountsPairsUpTo}
use Rattle.segment_split.specs.StepBounds.{pairs_by, share_point, x_range}
use Rattle.segment_split.specs.TurnLaws.{AreFirstCuts}
use Rattle.segment_split.specs.WholeLaws.{AllMeetWhole, MeetsAllWhole}
use Rattle.segment_split.specs.declared.solver.Precision.{Precision}
use Rattle.segment_split.specs.declared.solver.Solver.{Solver}
use Rattle.segment_split.specs.declared.solver.Strategy.TheVariants as strategy

-- The numbers tell of an edge that it is old exactly where the test does.
abbrev pub TellsOld : (Edge → Bool) → List Edge → List ℕ → Type 0
TellsOld old es next_new = (n : ℕ) (t : Edge) → IsAt es n t → is_old next_new n ≡ old t

-- The segment j follows i, and both are new.
abbrev pub AreBothNew : List ℕ → ℕ → ℕ → Type 0
AreBothNew next_new i j = (i < j) × (is_old next_new i ≡ false) × (is_old next_new j ≡ false)

-- Pairs pass the test of which both are new, if they share an x.
abbrev pub TakesBothNew : List Edge → List ℕ → (Edge → Edge → Bool) → Type 0
TakesBothNew es next_new test =
    (i j : ℕ) (s t : Edge) → AreBothNew next_new i j → IsAt es i s → IsAt es j t → share_point (x_range s) (x_range t) ≡ true → test s t ≡ true

-- One of two edges at least is slanted.
abbrev pub is_one_slanted : Edge → Edge → Bool
is_one_slanted s t = not (is_rectilinear s && is_rectilinear t)

-- the pairs of these that share an x
abbrev pub slanted_pairs : List Edge → ℕ
slanted_pairs es = pairs_by (λ s t. is_one_slanted s t && share_point (x_range s) (x_range t)) es

-- ---- the first pass

-- The list has what pairs with a slanted edge lay on each other in pass k, and nothing that no pair lays.
pub record AreSlantedMarks (stride least greatest : ℤ) (precision : Precision) (k : ℕ) (es : List Edge) (laid : List LaidMark) : Type 0 where
  pub only : All (IsLaid stride least greatest (marks_in precision k) es) laid
  pub all :
      (i j : ℕ) (s t : Edge) → i < j → IsAt es i s → IsAt es j t → is_one_slanted s t ≡ true → HasPair laid i j (marks_in precision k s t)

-- These marks were found, by so many looks, in a map for which `Auto` looks by columns. No horizontal or vertical edge is crossed off the grid,
-- and if that is told, no edge is.
pub record IsSearched (stride least greatest : ℤ) (solver : Solver) {C : Type 0} (es : List (Entry C)) (laid : List LaidMark) (is_last : Bool)
    (first now : Counts) : Type 0 where
  pub auto : solver.strategy ≡ strategy.Auto
  pub many : 64 ≤ length es
  pub found : AreSlantedMarks stride least greatest solver.precision 0 (edges_of es) laid
  pub lines : (s : Edge) → Contains (edges_of es) s → is_rectilinear s ≡ true → MeetsAllWhole (edges_of es) s
  pub last : is_last ≡ true → AllMeetWhole (edges_of es)
  pub looks : CountsPairsUpTo first now (slanted_pairs (edges_of es))

-- horizontal and vertical entries, and slanted ones
abbrev pub lines_among : {C : Type 0} → List (Entry C) → List (Entry C)
lines_among es = filter (λ e. is_rectilinear e.edge) es

abbrev pub slanted_among : {C : Type 0} → List (Entry C) → List (Entry C)
slanted_among es = filter (λ e. not (is_rectilinear e.edge)) es

-- what an entry becomes through laid marks
abbrev pub laid_through : {C : Type 0} → Counting C → Entry C → List LaidMark → List (Entry C)
laid_through kind e laid = laid_path kind e.count (e.edge.a ∷ (map (λ m. m.point) laid ++ (e.edge.b ∷ [])))

-- Horizontal and vertical entries are cut so at first in pass k, and not joined; slanted ones apart from them, as in that pass. Counts of the
-- first are sums.
pub record ArePartsApart {C : Type 0} (kind : Counting C) (of : Count → C) (precision : Precision) (k : ℕ) (es : List (Entry C))
    (lines : List (Entry Count)) (others : List (Entry C)) : Type 0 where
  pub base : Edge → List Point
  pub first : AreFirstCuts precision k (edges_of es) (edges_of (lines_among es)) (edges_of (slanted_among es)) base
  pub lines_are : IsPermutation (all_cut_at kind base (lines_among es)) (with_counts of lines)
  pub others_are : others ≡ all_cut kind (marks_in precision k) (edges_of es) (slanted_among es)

-- In whatever pass these are the marks of pairs with a slanted edge, entries are cut apart as in that pass.
abbrev pub IsCutApart : {C : Type 0} → ℤ → ℤ → ℤ → Counting C → (Count → C) → List LaidMark → List (Entry C) → List (Entry Count) → List (Entry C) → Type 0
IsCutApart stride least greatest kind of laid es lines others =
    (precision : Precision) (k : ℕ) → AreSlantedMarks stride least greatest precision k (edges_of es) laid
    → ArePartsApart kind of precision k es lines others
