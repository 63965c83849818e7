-- What passes and redrawing keep to.
use Rattle.std.specs.Prelude.{◌≡◌, ◌↔◌, ℕ, suc, ◌+◌, ◌<◌, ◌≤◌, ℤ, Bool, true, cond, ◌&&◌, nat_lt, List, [], length, map, flat_map, All, Contains}
use Rattle.std.specs.List.{list_any}
use Rattle.plane_base.specs.Plane.{Point, Edge}
use Rattle.plane_base.specs.Segments.{parted, MeetsInEnds}
use Rattle.plane_base.specs.Counts.{Count, Counting, Entry, IsNormal, normal}
use Rattle.plane_base.specs.Given.{laid_path}
use Rattle.plane_base.specs.Balance.{IsAdditive, fall, IsBalanced, IsBalancedForAll}
use Rattle.plane_base.specs.Crossing.{Marks}
use Rattle.segment_split.specs.Passes.{edges_of, marks_in, marks_on, MarksSome, pass}
use Rattle.segment_split.specs.Redrawing.{iterate, redrawn, MarksInPass}
use Rattle.segment_split.specs.WholeLaws.{AllMeetWhole}
pub use Rattle.segment_split.specs.Groups.{Bounds, LiesWithin, EndsLieWithin}
use Rattle.segment_split.specs.declared.solver.Precision.{Precision}

-- ---- what a map keeps

-- A change of maps leaves a map, in which as much falls along all edges as before, and which no box has to grow for.
pub record Rearranges {C : Type 0} (kind : Counting C) (change : List (Entry C) → List (Entry C)) : Type 0 where
  pub is_normal : (es : List (Entry C)) → IsNormal kind es → IsNormal kind (change es)
  pub falls : (n : C → ℤ) → IsAdditive kind n → (f : Point → ℤ) (es : List (Entry C)) → fall n f (change es) ≡ fall n f es
  pub balanced : (n : C → ℤ) → IsAdditive kind n → (es : List (Entry C)) → IsBalanced n es → IsBalanced n (change es)
  pub balanced_for_all : (n : C → ℤ) → IsAdditive kind n → (es : List (Entry C)) → IsBalancedForAll n es → IsBalancedForAll n (change es)
  pub bounded : (box : Bounds) (es : List (Entry C)) → EndsLieWithin box es → EndsLieWithin box (change es)

-- ---- passes that mark nothing

abbrev pub lays_any : Marks → Bool
lays_any m = nat_lt 0 (length m.first + length m.second)

-- the test of `MarksSome`
abbrev pub marks_some : (Edge → Edge → Marks) → List Edge → Bool
marks_some marks es = list_any (λ s. list_any (λ t. lays_any (marks s t)) es) es

-- A list of edges is marked exactly where it doesn't meet in ends, whatever the pass: where a test tells it, or where there are
-- marks on some edge of it.
pub record MarkedUnlessParted (precision : Precision) : Type 0 where
  pub by_test : (marks : Edge → Edge → Marks) (es : List Edge) → (marks_some marks es ≡ true) ↔ MarksSome marks es
  pub unmarked : (k : ℕ) (es : List Edge) → (MarksSome (marks_in precision k) es → ⊥) ↔ MeetsInEnds es
  pub on_no_edge : (k : ℕ) (es : List Edge) → All (λ s. marks_on (marks_in precision k) es s ≡ []) es ↔ MeetsInEnds es
  pub in_each_pass : (j k : ℕ) (es : List Edge) → MarksSome (marks_in precision j) es → MarksSome (marks_in precision k) es

-- A pass that marks nothing leaves the map as it is.
abbrev pub KeepsUnmarked : {C : Type 0} → Counting C → Precision → Type 0
KeepsUnmarked {C} kind precision =
    (es : List (Entry C)) (k : ℕ) → IsNormal kind es → (MarksSome (marks_in precision k) (edges_of es) → ⊥) → pass kind precision es k ≡ es

-- No pass changes the map, and its redrawing is the map itself.
pub record LeavesAsItIs {C : Type 0} (kind : Counting C) (precision : Precision) (es : List (Entry C)) : Type 0 where
  pub of_pass : (k : ℕ) → pass kind precision es k ≡ es
  pub of_iterate : (n : ℕ) → iterate kind precision es n ≡ es
  pub of_redrawn : redrawn kind precision es ≡ es

-- A map that meets in ends is left as it is.
abbrev pub IsStable : {C : Type 0} → Counting C → Precision → Type 0
IsStable {C} kind precision = (es : List (Entry C)) → IsNormal kind es → MeetsInEnds (edges_of es) → LeavesAsItIs kind precision es

-- ---- the end of redrawing

-- Once the map meets in ends it stays.
abbrev pub ComesToRest : {C : Type 0} → Counting C → Precision → Type 0
ComesToRest {C} kind precision =
    (es : List (Entry C)) (n m : ℕ) → IsNormal kind es → n ≤ m → MeetsInEnds (edges_of (iterate kind precision es n))
    → iterate kind precision es m ≡ iterate kind precision es n

-- A pass marks only what each pass before it marked. So a map on which any pass marks is marked by the first.
abbrev pub MarksFromTheFirst : {C : Type 0} → Counting C → Precision → Type 0
MarksFromTheFirst {C} kind precision =
    (es : List (Entry C)) (j k : ℕ) → IsNormal kind es → j ≤ k → MarksInPass kind precision es k → MarksInPass kind precision es j

-- Pass n is the first that marks nothing.
pub record IsFirstUnmarked {C : Type 0} (kind : Counting C) (precision : Precision) (es : List (Entry C)) (n : ℕ) : Type 0 where
  pub unmarked : MarksInPass kind precision es n → ⊥
  pub marked_before : (k : ℕ) → k < n → MarksInPass kind precision es k

-- Some pass is the first that marks nothing. The redrawn map is that before it, or before any other that marks nothing,
-- and it meets in ends.
pub record IsRedrawing {C : Type 0} (kind : Counting C) (precision : Precision) (es : List (Entry C)) : Type 0 where
  pub meets : MeetsInEnds (edges_of (redrawn kind precision es))
  pub first : (n : ℕ) × IsFirstUnmarked kind precision es n × (redrawn kind precision es ≡ iterate kind precision es n)
  pub at_each : (n : ℕ) → (MarksInPass kind precision es n → ⊥) → redrawn kind precision es ≡ iterate kind precision es n

-- Redrawing ends, from any map.
abbrev pub RedrawsToTheEnd : {C : Type 0} → Counting C → Precision → Type 0
RedrawsToTheEnd {C} kind precision = (es : List (Entry C)) → IsNormal kind es → IsRedrawing kind precision es

-- ---- counts seen otherwise

-- a reading of counts of one kind as counts of another
pub record IsCountMap {C D : Type 0} (from : Counting C) (to : Counting D) (f : C → D) : Type 0 where
  pub of_join : (c d : C) → f (from.join c d) ≡ to.join (f c) (f d)
  pub of_turned : (c : C) → f (from.turned c) ≡ to.turned (f c)
  pub of_empty : (c : C) → to.is_empty (f c) ≡ from.is_empty c

-- the entries with f of their counts
abbrev pub with_counts : {C D : Type 0} → (C → D) → List (Entry C) → List (Entry D)
with_counts f es = map (λ e. record { edge = e.edge; count = f e.count }) es

-- subject for clip, and clip for subject
abbrev pub roles_exchanged : Count → Count
roles_exchanged c = record { subject = c.clip; clip = c.subject }

-- To redraw and to read the counts otherwise may change places.
pub record RedrawsAnyCounts {C D : Type 0} (from : Counting C) (to : Counting D) (f : C → D) (precision : Precision) : Type 0 where
  pub of_normal : (es : List (Entry C)) → with_counts f (normal from es) ≡ normal to (with_counts f es)
  pub of_path : (c : C) (points : List Point) → with_counts f (laid_path from c points) ≡ laid_path to (f c) points
  pub of_pass : (es : List (Entry C)) (k : ℕ) → with_counts f (pass from precision es k) ≡ pass to precision (with_counts f es) k
  pub of_iterate : (es : List (Entry C)) (n : ℕ) → with_counts f (iterate from precision es n) ≡ iterate to precision (with_counts f es) n
  pub of_redrawn : (es : List (Entry C)) → with_counts f (redrawn from precision es) ≡ redrawn to precision (with_counts f es)

-- ---- pairs that were looked at before

-- what the edges of the list lay on s, but for pairs of two old ones
abbrev pub marks_of_new_pairs : (Edge → Bool) → (Edge → Edge → Marks) → List Edge → Edge → List Point
marks_of_new_pairs old marks es s = flat_map (λ t. cond (old s && old t) [] (marks s t).first) es

-- Old are edges that stood in the list before pass j and were not marked in it.
abbrev pub StoodUnmarked : Precision → ℕ → List Edge → (Edge → Bool) → Type 0
StoodUnmarked precision j before old =
    (s : Edge) → old s ≡ true → Contains before s × (marks_on (marks_in precision j) before s ≡ [])

-- Two edges that a pass left unmarked are parted, so no later pass has to look at both: a pass lays the same marks without
-- pairs of two such edges.
pub record OldPairsAreParted (precision : Precision) : Type 0 where
  pub parted : (j : ℕ) (es : List Edge) (s t : Edge) → Contains es s → Contains es t
      → marks_on (marks_in precision j) es s ≡ [] → marks_on (marks_in precision j) es t ≡ [] → parted s t ≡ true
  pub skipped : (j k : ℕ) (before es : List Edge) (old : Edge → Bool) → StoodUnmarked precision j before old
      → (s : Edge) → marks_of_new_pairs old (marks_in precision k) es s ≡ marks_on (marks_in precision k) es s

-- ---- whole crossings

-- Where edges cross at whole points alone, the map that a pass leaves meets in ends. So where a pass finds such a map, the map
-- after it is the redrawn one.
pub record OnePassIsEnough {C : Type 0} (kind : Counting C) (precision : Precision) : Type 0 where
  pub meets : (es : List (Entry C)) (k : ℕ) → IsNormal kind es → AllMeetWhole (edges_of es) → MeetsInEnds (edges_of (pass kind precision es k))
  pub is_last :
      (es : List (Entry C)) (n : ℕ) → IsNormal kind es → AllMeetWhole (edges_of (iterate kind precision es n))
      → redrawn kind precision es ≡ iterate kind precision es (suc n)
