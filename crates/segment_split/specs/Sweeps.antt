-- A sweep over the stops of horizontal and vertical edges, from the last to the first: what stands where it came to a stop.
use Rattle.std.specs.Prelude.{◌≡◌, ◌≢◌, ◌+◌, ◌<◌, ◌↔◌, ◌⊎◌, ℕ, ℤ, pos, ◌+ℤ◌, ◌<ℤ◌, nat_lt, Bool, true, false, not, cond, ◌||◌, List, [], ◌∷◌, ◌++◌}
use Rattle.std.specs.Prelude.{length, map, reverse, All, AllPairs, Contains, IsPermutation, Option, Some, None}
use Rattle.std.specs.declared.cmp.Ordering.TheVariants.{Less, Greater}
use Rattle.std.specs.Ordering.{int_eq, is_le}
use Rattle.plane_base.specs.Plane.{Point, Edge, is_before, point_order}
use Rattle.plane_base.specs.Segments.{strictly_inside}
use Rattle.plane_base.specs.Counts.{Count, Entry, boolean}
use Rattle.plane_base.specs.Totals.{total}
use Rattle.segment_split.specs.Passes.{edges_of}
use Rattle.segment_split.specs.LineLaws.{AllRectilinear, IsEndOfSome, IsCrossing, CountsFrom, first_by, steps_between}
use Rattle.segment_split.specs.Kinds.{count_fits}
use Rattle.segment_split.specs.Stops.{LineView, LinesView, AreRising, heights_in, IsPlaceOf, line_at, end_of, count_of, all_changed}

-- ---- entries in order

-- No first end comes before one that it follows.
abbrev pub AreByFirsts : List (Entry Count) → Type 0
AreByFirsts es = AllPairs (λ e f. point_order e.edge.a f.edge.a ≢ Greater) es

-- Entries whose first ends come before their second ones, in the order of their first ends. Equal ones may stand there.
pub record AreInOrder (es : List (Entry Count)) : Type 0 where
  pub directed : All (λ e. is_before e.edge.a e.edge.b ≡ true) es
  pub firsts : AreByFirsts es

-- ---- what runs along a line

-- the entries that run upward, and those of a row
abbrev pub in_column : Entry Count → Bool
in_column e = int_eq e.edge.a.x e.edge.b.x

abbrev pub in_row : ℤ → Entry Count → Bool
in_row y e = cond (int_eq e.edge.a.x e.edge.b.x) false (int_eq e.edge.a.y y)

abbrev pub one_if : (Entry Count → Bool) → Entry Count → ℤ
one_if test e = cond (test e) (pos 1) (pos 0)

abbrev pub subject_if : (Entry Count → Bool) → Entry Count → ℤ
subject_if test e = cond (test e) e.count.subject (pos 0)

abbrev pub clip_if : (Entry Count → Bool) → Entry Count → ℤ
clip_if test e = cond (test e) e.count.clip (pos 0)

-- Of the entries that pass the test those that came, but for those that went, run along the line.
pub record Runs (test : Entry Count → Bool) (gone come : List (Entry Count)) (l : LineView) : Type 0 where
  pub running : (pos l.running) +ℤ total (one_if test) gone ≡ total (one_if test) come
  pub subject : l.sum.subject +ℤ total (subject_if test) gone ≡ total (subject_if test) come
  pub clip : l.sum.clip +ℤ total (clip_if test) gone ≡ total (clip_if test) come

pub record AllRun (gone come : List (Entry Count)) (lines : LinesView) : Type 0 where
  pub rows : All (λ r. Runs (in_row r.y) gone come r.line) lines.rows
  pub column : Runs in_column gone come lines.column

-- ---- the stops

abbrev pub IsStop : List Edge → Point → Type 0
IsStop es p = IsEndOfSome es p ⊎ IsCrossing es p

-- The column and a row are to meet in a stop: a key runs along the row and, where what runs upward counts for nothing, what runs
-- along the row counts for something.
abbrev pub is_met : LineView → LineView → Bool
is_met column row = cond (boolean.is_empty column.sum) (not (boolean.is_empty row.sum)) (nat_lt 0 row.running)

-- the sweep came to the point: it is the last end that was met, or lies behind it
abbrev pub reached : Option Point → Point → Bool
reached None p = false
reached (Some q) p = is_le (point_order q p)

-- The point comes before all of the list.
abbrev pub IsBefore : List Point → Point → Type 0
IsBefore ps p = All (λ q. point_order p q ≡ Less) ps

-- The points are the stops from the last one that was met on. Crossings of two lines that count for nothing there may be left out.
pub record Stops (es : List (Entry Count)) (t : Option Point) (ps : List Point) : Type 0 where
  pub rising : AllPairs (λ p q. point_order p q ≡ Less) ps
  pub only : All (IsStop (edges_of es)) ps
  pub known : (p : Point) → IsCrossing (edges_of es) p → CountsFrom boolean es p → Contains ps p ⊎ IsBefore ps p
  pub ends : (p : Point) → IsEndOfSome (edges_of es) p → ((reached t p ≡ true) × Contains ps p) ⊎ ((reached t p ≡ false) × IsBefore ps p)

-- Both orders of the entries, cut where the sweep is: by first ends, down to t, and by second ends, down to u.
pub record Cut (es : List (Entry Count)) (t u : Option Point) (before gone ahead come : List (Entry Count)) : Type 0 where
  pub firsts : es ≡ before ++ gone
  pub seconds : IsPermutation es (ahead ++ come)
  pub not_gone : All (λ e. reached t e.edge.a ≡ false) before
  pub is_gone : All (λ e. reached t e.edge.a ≡ true) gone
  pub not_come : All (λ e. reached u e.edge.b ≡ false) ahead
  pub is_come : All (λ e. reached u e.edge.b ≡ true) come

abbrev pub first_of : List Point → Option Point
first_of [] = None
first_of (q ∷ qs) = Some q

-- ---- the sweep at a stop

abbrev pub same_y : ℤ → Point → Bool
same_y y q = int_eq q.y y

-- One of the points lies strictly inside an edge.
abbrev pub IsSomeInside : List Edge → List Point → Type 0
IsSomeInside es ps = (p : Point) × Contains ps p × ((s : Edge) × Contains es s × (strictly_inside p s ≡ true))

-- Up to the end t keys came and went, and up to the first of the stops ps steps are laid.
pub record Swept (es : List (Entry Count)) (t : Option Point) (ps : List Point) (before gone ahead come : List (Entry Count)) (lines : LinesView)
    (laid : List (Entry Count)) (marked : Bool) : Type 0 where
  pub cut : Cut es t t before gone ahead come
  pub stops : Stops es t ps
  pub runs : AllRun gone come lines
  pub nexts : All (λ r. r.line.next ≡ first_by (same_y r.y) ps) lines.rows
  pub next : lines.column.next ≡ first_of ps
  pub rising : AreRising lines.rows
  pub has : (e : Entry Count) → Contains es e → int_eq e.edge.a.x e.edge.b.x ≡ false → Contains (map (λ r. r.y) lines.rows) e.edge.a.y
  pub steps : laid ≡ reverse (steps_between boolean es ps)
  pub marks : (marked ≡ true) ↔ IsSomeInside (edges_of es) ps

-- p is the greatest end that the sweep did not come to.
pub record IsNextEnd (es : List (Entry Count)) (t : Option Point) (p : Point) : Type 0 where
  pub own : IsEndOfSome (edges_of es) p
  pub ahead : reached t p ≡ false
  pub last : (r : Point) → IsEndOfSome (edges_of es) r → reached t r ≡ false → is_le (point_order r p) ≡ true

-- While a vertical key runs, no row between p and the last stop is to be met.
abbrev pub IsClear : Point → LinesView → List Point → Type 0
IsClear p lines ps =
    (q : Point) → first_of ps ≡ Some q → 0 < lines.column.running
    → All (λ r. p.y <ℤ r.y → r.y <ℤ q.y → is_met lines.column r.line ≡ false) lines.rows

-- Pairs were counted, from the first number on: one for each of some crossings among the points.
pub record Ticked (es : List (Entry Count)) (ps : List Point) (first now : ℕ) : Type 0 where
  pub crossings : List Point
  pub rising : AllPairs (λ p q. point_order p q ≡ Less) crossings
  pub listed : All (Contains ps) crossings
  pub only : All (IsCrossing (edges_of es)) crossings
  pub number : now ≡ first + length crossings

-- No second end comes before one that it follows.
abbrev pub AreBySeconds : List (Entry Count) → Type 0
AreBySeconds es = AllPairs (λ e f. point_order e.edge.b f.edge.b ≢ Greater) es

-- From what was swept before, the sweep came to all crossings above p that are to be met.
abbrev pub Crosses : Point → LinesView → List (Entry Count) → ℕ → LinesView → List (Entry Count) → ℕ → Bool → Type 0
Crosses p lines laid ticks new_lines new_laid new_ticks crossed =
    (es before gone ahead come : List (Entry Count)) (t : Option Point) (ps : List Point) (marked : Bool)
    → AreInOrder es → AllRectilinear (edges_of es) → IsNextEnd es t p → Swept es t ps before gone ahead come lines laid marked
    → (more : List Point) × Swept es t more before gone ahead come new_lines new_laid (marked || crossed) × IsClear p new_lines more
    × ((first : ℕ) → Ticked es ps first ticks → Ticked es more first new_ticks)

-- From what was swept before, the sweep came to some of them.
abbrev pub CrossesSome : Point → LinesView → List (Entry Count) → ℕ → ℕ → Type 0
CrossesSome p lines laid ticks new_ticks =
    (es before gone ahead come : List (Entry Count)) (t : Option Point) (ps : List Point) (marked : Bool)
    → AreInOrder es → AllRectilinear (edges_of es) → IsNextEnd es t p → Swept es t ps before gone ahead come lines laid marked
    → (first : ℕ) → Ticked es ps first ticks → (more : List Point) × Ticked es more first new_ticks

-- The sweep came to some stop, with these entries before it and ahead of it; those behind it are still in order. Pairs were counted.
pub record IsSwept (es before ahead : List (Entry Count)) (lines : LinesView) (laid : List (Entry Count)) (marked : Bool) (first now : ℕ) : Type 0 where
  pub last : Option Point
  pub stops : List Point
  pub gone : List (Entry Count)
  pub come : List (Entry Count)
  pub swept : Swept es last stops before gone ahead come lines laid marked
  pub seconds : AreBySeconds (ahead ++ come)
  pub ticked : Ticked es stops first now

-- p is the greatest of the first ends of the one list and the second ends of the other, that of the last entry of one of the two.
pub record IsGreatestEnd (before ahead : List (Entry Count)) (p : Point) : Type 0 where
  pub own :
      ((front : List (Entry Count)) × (e : Entry Count) × (before ≡ front ++ e ∷ []) × (p ≡ e.edge.a))
      ⊎ ((front : List (Entry Count)) × (e : Entry Count) × (ahead ≡ front ++ e ∷ []) × (p ≡ e.edge.b))
  pub firsts : All (λ e. is_le (point_order e.edge.a p) ≡ true) before
  pub seconds : All (λ e. is_le (point_order e.edge.b p) ≡ true) ahead

-- The place is that of the first row that isn't below the last stop.
pub record IsPlaced (lines : LinesView) (place : ℕ) : Type 0 where
  pub top : Point
  pub next : lines.column.next ≡ Some top
  pub placed : IsPlaceOf top.y (heights_in lines.rows) place

-- From what was swept before, the sweep came to one crossing more above p.
abbrev pub CrossesOnce : Point → LinesView → List (Entry Count) → LinesView → List (Entry Count) → Type 0
CrossesOnce p lines laid new_lines new_laid =
    (es before gone ahead come : List (Entry Count)) (t : Option Point) (ps : List Point) (marked : Bool)
    → AreInOrder es → AllRectilinear (edges_of es) → IsNextEnd es t p → Swept es t ps before gone ahead come lines laid marked
    → (c : Point) × IsCrossing (edges_of es) c × IsBefore ps c × Swept es t (c ∷ ps) before gone ahead come new_lines new_laid true

-- Nothing is changed, and no row between p and the last stop is to be met.
pub record IsDone (p : Point) (lines : LinesView) (laid : List (Entry Count)) (new_lines : LinesView) (new_laid : List (Entry Count)) : Type 0 where
  pub lines_stay : new_lines ≡ lines
  pub laid_stays : new_laid ≡ laid
  pub quiet : (q : Point) → lines.column.next ≡ Some q → All (λ r. p.y <ℤ r.y → r.y <ℤ q.y → is_met lines.column r.line ≡ false) lines.rows

-- ---- sums out of their range

-- the line along which an edge runs
abbrev pub line_on : Edge → LinesView → LineView
line_on s lines = cond (int_eq s.a.x s.b.x) lines.column (line_at s.a.y lines.rows)

-- Of the entries that come at p, or go, the last of them first, one takes the sum of its line out of its range.
pub record LeavesRange (more : Bool) (p : Point) (es : List (Entry Count)) (lines : LinesView) : Type 0 where
  pub front : List (Entry Count)
  pub entry : Entry Count
  pub behind : List (Entry Count)
  pub parts : es ≡ front ++ entry ∷ behind
  pub here : All (λ e. end_of more e.edge ≡ p) (entry ∷ behind)
  pub too_much : count_fits (boolean.join (line_on entry.edge (all_changed more behind lines)).sum (count_of more entry.count)) ≡ false
