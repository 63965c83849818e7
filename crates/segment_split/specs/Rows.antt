-- Rows of y: where segments stand in them, how far each reaches, and what was found.
use Rattle.std.specs.Prelude.{◌&&◌, ◌≡◌, ◌≢◌, ◌⊎◌, ◌+◌, ◌-◌, ◌*◌, ◌/◌, ◌%◌, ◌^◌, ◌<◌, ◌≤◌, ◌<ℤ◌, ◌≤ℤ◌, ◌∷◌, ◌++◌}
use Rattle.std.specs.Prelude.{true, false, not, cond, nat_lt, int_le, count_by, sum_by, ℕ, zero, suc, ℤ, pos, Bool, ⊤, List, [], map, length, All}
use Rattle.std.specs.Prelude.{IsPermutation, Contains, drop, slice_index_or}
use Rattle.std.specs.List.{range_with_len}
use Rattle.std.specs.Int.{int_min, int_max, int_gap}
use Rattle.std.specs.List.Sorted.{IsNonDecreasing}
use Rattle.i_tree.specs.Steps.{Counts}
use Rattle.plane_base.specs.Plane.{Point, Edge}
use Rattle.plane_base.specs.Crossing.{Marks, no_marks, crosses_off_grid}
use Rattle.plane_base.specs.WholeLaws.{MeetsWhole}
use Rattle.segment_split.specs.declared.pairs.rows.extents.Extent.{Extent}
use Rattle.segment_split.specs.MarkLists.{LaidMark, IsAt, IsLaid, HasMark, IsFound}
use Rattle.segment_split.specs.StepBounds.{x_range, share_point}

-- the row of y, so wide, counted from the least y
abbrev pub row_of : ℤ → ℕ → ℤ → ℕ
row_of least width y = int_gap least y / width

abbrev pub lowest_row : ℤ → ℕ → Edge → ℕ
lowest_row least width s = row_of least width (int_min s.a.y s.b.y)

abbrev pub highest_row : ℤ → ℕ → Edge → ℕ
highest_row least width s = row_of least width (int_max s.a.y s.b.y)

-- The rows of the segment are numbered with 31 bits.
abbrev pub HasFewRows : ℤ → ℕ → Edge → Type 0
HasFewRows least width s = (lowest_row least width s < 2 ^ 31) × (highest_row least width s < 2 ^ 31)

-- ---- places

-- the place of the segment i in a row: places go by row, then by number
abbrev pub place_in : ℕ → ℕ → ℕ
place_in row i = 4294967296 * row + i

-- The place is of a segment whose number is below n.
abbrev pub IsNumbered : ℕ → ℕ → Type 0
IsNumbered n p = (p < 2 ^ 63) × (p % 4294967296 < n)

abbrev pub ArePlaces : ℕ → List ℕ → Type 0
ArePlaces n places = All (IsNumbered n) places

-- What stands before first is not past the place, and what stands from there on is.
pub record IsFirstAfter (to : List ℕ) (place first : ℕ) : Type 0 where
  pub before : (m : ℕ) → m < first → slice_index_or to m 0 ≤ place
  pub after : (m : ℕ) → first ≤ m → m < length to → place < slice_index_or to m 0

-- The segment i begins in its lowest row, and passes the other rows that it reaches: so far as they are near.
pub record IsPlaced (near : ℕ → Type 0) (least : ℤ) (width : ℕ) (begins passes : List ℕ) (i : ℕ) (s : Edge) : Type 0 where
  pub begin : near (lowest_row least width s) → Contains begins (place_in (lowest_row least width s) i)
  pub pass : (r : ℕ) → lowest_row least width s < r → r ≤ highest_row least width s → near r → Contains passes (place_in r i)

-- the places of the segment i in so many rows, from this one on
abbrev pub places_from : ℕ → ℕ → ℕ → List ℕ
places_from row n i = map (λ r. place_in r i) (range_with_len row n)

-- The part is of the whole, in any order.
abbrev pub IsPartOf : List ℕ → List ℕ → Type 0
IsPartOf whole part = (rest : List ℕ) × IsPermutation whole (part ++ rest)

-- A part of these places comes to the list.
abbrev pub AddsPart : List ℕ → List ℕ → List ℕ → Type 0
AddsPart places old new = (added : List ℕ) × (new ≡ old ++ added) × IsPartOf places added

-- The place comes to the list, or it isn't near.
abbrev pub AddsNear : Type 0 → ℕ → List ℕ → List ℕ → Type 0
AddsNear near place old new = ((new ≡ old) × (near → ⊥)) ⊎ (new ≡ old ++ place ∷ [])

-- The segment i came to the places, from the row low to the row high, so far as rows are near.
pub record ComesTo (near : ℕ → Type 0) (i low high : ℕ) (begins passes more_begins more_passes : List ℕ) : Type 0 where
  pub begin : near low → Contains more_begins (place_in low i)
  pub pass : (r : ℕ) → low < r → r ≤ high → near r → Contains more_passes (place_in r i)
  pub begins_stay : (p : ℕ) → Contains begins p → Contains more_begins p
  pub passes_stay : (p : ℕ) → Contains passes p → Contains more_passes p
  pub begins_are : AddsPart (place_in low i ∷ []) begins more_begins
  pub passes_are : AddsPart (places_from (low + 1) (high - low) i) passes more_passes
  pub begins_numbered : (n : ℕ) → i < n → ArePlaces n begins → ArePlaces n more_begins
  pub passes_numbered : (n : ℕ) → i < n → ArePlaces n passes → ArePlaces n more_passes

-- Both lists are sorted, and all their places are of segments whose numbers are below n.
pub record AreRows (n : ℕ) (begins passes : List ℕ) : Type 0 where
  pub begins_numbered : ArePlaces n begins
  pub passes_numbered : ArePlaces n passes
  pub begins_sorted : IsNonDecreasing begins
  pub passes_sorted : IsNonDecreasing passes

-- the row of an edge by its number
abbrev pub row_at : (Edge → ℕ) → List Edge → ℕ → ℕ
row_at row es i = row (slice_index_or es i (record { a = record { x = pos 0; y = pos 0 }; b = record { x = pos 0; y = pos 0 } }))

-- the places of the segments before n that are chosen, each in its lowest row
abbrev pub all_begins : (ℕ → Bool) → (ℕ → ℕ) → ℕ → List ℕ
all_begins chosen low zero = []
all_begins chosen low (suc n) = all_begins chosen low n ++ cond (chosen n) (place_in (low n) n ∷ []) []

-- and each in its other rows, up to its highest
abbrev pub all_passes : (ℕ → Bool) → (ℕ → ℕ) → (ℕ → ℕ) → ℕ → List ℕ
all_passes chosen low high zero = []
all_passes chosen low high (suc n) = all_passes chosen low high n ++ cond (chosen n) (places_from (low n + 1) (high n - low n) n) []

-- The segment i was in the old pass too, unmarked.
abbrev pub is_old : List ℕ → ℕ → Bool
is_old next_new i = nat_lt i (slice_index_or next_new i i)

-- Of the edges before n those that are chosen stand in the places, each in those of its rows that are near, and in none twice. All
-- places are of segments whose numbers are below m.
pub record ArePlacesTo (near : Edge → ℕ → Type 0) (chosen : ℕ → Bool) (least : ℤ) (width : ℕ) (es : List Edge) (m n : ℕ) (begins passes : List ℕ) : Type 0 where
  pub placed : (i : ℕ) (s : Edge) → i < n → IsAt es i s → chosen i ≡ true → IsPlaced (near s) least width begins passes i s
  pub begins_numbered : ArePlaces m begins
  pub passes_numbered : ArePlaces m passes
  pub begins_are : IsPartOf (all_begins chosen (row_at (lowest_row least width) es) n) begins
  pub passes_are : IsPartOf (all_passes chosen (row_at (lowest_row least width) es) (row_at (highest_row least width) es) n) passes

-- A new segment reaches the row, and shares an x with the edge.
pub record MeetsNew (least : ℤ) (width : ℕ) (es : List Edge) (next_new : List ℕ) (t : Edge) (r : ℕ) : Type 0 where
  pub number : ℕ
  pub edge : Edge
  pub at : IsAt es number edge
  pub new : is_old next_new number ≡ false
  pub low : lowest_row least width edge ≤ r
  pub high : r ≤ highest_row least width edge
  pub left : edge.a.x ≤ℤ t.b.x
  pub right : t.a.x ≤ℤ edge.b.x

-- New segments stand in all their rows, old ones at least where they meet new ones.
pub record ArePlaced (least : ℤ) (width : ℕ) (es : List Edge) (next_new : List ℕ) (n : ℕ) (begins passes old_begins old_passes : List ℕ) : Type 0 where
  pub fresh : ArePlacesTo (λ s r. ⊤) (λ i. not (is_old next_new i)) least width es n n begins passes
  pub old : ArePlacesTo (MeetsNew least width es next_new) (is_old next_new) least width es n n old_begins old_passes

-- ---- how far new segments extend

abbrev pub extent_at : List Extent → ℕ → Extent
extent_at extents r = slice_index_or extents r (record { left = pos 0; right = pos 0 })

-- In the row new segments extend so far to both sides, at least.
abbrev pub Covers : List Extent → ℕ → ℤ → ℤ → Type 0
Covers extents r left right = (r < length extents) × ((extent_at extents r).left ≤ℤ left) × (right ≤ℤ (extent_at extents r).right)

-- What lies from left to right shares an x with what extends in the row.
abbrev pub IsNear : List Extent → ℤ → ℤ → ℕ → Type 0
IsNear extents left right r = (r < length extents) × ((extent_at extents r).left ≤ℤ right) × (left ≤ℤ (extent_at extents r).right)

-- In each of its rows a new segment before n is covered.
abbrev pub AreExtentsTo : ℤ → ℕ → List Edge → List ℕ → ℕ → List Extent → Type 0
AreExtentsTo least width es next_new n extents =
    (i : ℕ) (s : Edge) → i < n → IsAt es i s → is_old next_new i ≡ false → (r : ℕ) → lowest_row least width s ≤ r → r ≤ highest_row least width s
    → Covers extents r s.a.x s.b.x

-- ---- reaches

-- the number from which on all edges begin past the end of this one: so many do not
abbrev pub reach_of : List Edge → Edge → ℕ
reach_of es s = count_by (λ t. int_le t.a.x s.b.x) es

abbrev pub reaches_of : List Edge → List ℕ
reaches_of es = map (reach_of es) es

-- The edge t, of which the begin doesn't come before s's, lays nothing on s, as far as x tells: it begins past the end of s, or there,
-- where neither is vertical.
abbrev pub LiesOnward : Edge → Edge → Type 0
LiesOnward s t = (s.b.x <ℤ t.a.x) ⊎ ((t.a.x ≡ s.b.x) × (s.a.x <ℤ s.b.x) × (t.a.x <ℤ t.b.x))

-- From this number on all edges lie onward of the edge, and before it none begins past its end.
pub record IsReach (es : List Edge) (s : Edge) (r : ℕ) : Type 0 where
  pub within : r ≤ length es
  pub past : (j : ℕ) (t : Edge) → IsAt es j t → r ≤ j → LiesOnward s t
  pub near : (j : ℕ) (t : Edge) → IsAt es j t → j < r → t.a.x ≤ℤ s.b.x

-- Each edge has its reach.
pub record AreReaches (es : List Edge) (reaches : List ℕ) : Type 0 where
  pub within : (i : ℕ) → slice_index_or reaches i 0 ≤ length es
  pub past : (i j : ℕ) (s t : Edge) → IsAt es i s → IsAt es j t → slice_index_or reaches i 0 ≤ j → LiesOnward s t
  pub near : (i j : ℕ) (s t : Edge) → IsAt es i s → IsAt es j t → j < slice_index_or reaches i 0 → t.a.x ≤ℤ s.b.x

-- The first edges have theirs, as many as are told of.
pub record AreTold (es : List Edge) (told : List ℕ) : Type 0 where
  pub short : length told ≤ length es
  pub each : (i : ℕ) (s : Edge) → IsAt es i s → i < length told → IsReach es s (slice_index_or told i 0)

-- those that are told, then for each edge the number from which on all begin past its end
abbrev pub all_reaches : List Edge → List ℕ → List ℕ
all_reaches es told = told ++ drop (length told) (reaches_of es)

-- From this number up to j all edges begin at one x, and none is vertical.
abbrev pub IsRun : List Edge → ℕ → ℕ → Type 0
IsRun es j r = (k : ℕ) (u t : Edge) → IsAt es j u → IsAt es k t → r ≤ k → k ≤ j → (t.a.x ≡ u.a.x) × (t.a.x <ℤ t.b.x)

-- So for the first edges, as many as there are numbers.
pub record AreRuns (es : List Edge) (runs : List ℕ) : Type 0 where
  pub within : (j : ℕ) → j < length runs → slice_index_or runs j 0 ≤ j + 1
  pub each : (j : ℕ) → j < length runs → IsRun es j (slice_index_or runs j 0)

-- ---- how many pairs are looked at

-- Pairs may have been looked at, at most so many, and nothing was compared.
pub record CountsPairsUpTo (old new : Counts) (most : ℕ) : Type 0 where
  pub comparisons : new.comparisons ≡ old.comparisons
  pub pairs : old.pairs ≤ new.pairs
  pub bound : new.pairs ≤ old.pairs + most

-- so many places lie strictly between two
abbrev pub between : List ℕ → ℕ → ℕ → ℕ
between to p q = count_by (λ w. nat_lt p w && nat_lt w q) to

-- so many places of a list follow that place in its row, before the reach of what stands there
abbrev pub followers : List ℕ → List ℕ → ℕ → ℕ
followers reaches to p = between to p (place_in (p / 4294967296) (slice_index_or reaches (p % 4294967296) 0))

abbrev pub all_followers : List ℕ → List ℕ → List ℕ → ℕ
all_followers reaches from to = sum_by (followers reaches to) from

-- the same in rows, where one of the two begins
abbrev pub row_followers : List ℕ → List ℕ → List ℕ → List ℕ → List ℕ → ℕ
row_followers reaches begins passes to_begins to_passes =
    all_followers reaches begins to_begins + all_followers reaches begins to_passes + all_followers reaches passes to_begins

-- ---- what was found

-- The pairs of numbers were held against each other: what they lay came to the list, and where they cross off the grid it is told.
pub record Finds (stride least greatest : ℤ) (marks : Edge → Edge → Marks) (es : List Edge) (pairs : ℕ → ℕ →
    Type 0) (old new : List LaidMark) (off_grid : Bool) : Type 0 where
  pub only : All (IsLaid stride least greatest marks es) old → All (IsLaid stride least greatest marks es) new
  pub keeps : (i : ℕ) (p : Point) → HasMark old i p → HasMark new i p
  pub found : (i j : ℕ) (s t : Edge) → pairs i j → IsAt es i s → IsAt es j t → IsFound marks new off_grid i s j t

-- The segment j follows i, and the two lay marks on each other.
abbrev pub MarksAhead : (Edge → Edge → Marks) → List Edge → ℕ → ℕ → Type 0
MarksAhead marks es i j = (i < j) × ((s t : Edge) → IsAt es i s → IsAt es j t → marks s t ≢ no_marks)

-- The segment j follows i in a row, before i's reach.
abbrev pub Follows : List ℕ → List ℕ → List ℕ → ℕ → ℕ → Type 0
Follows reaches from to i j =
    (i < j) × (j < slice_index_or reaches i 0) × ((r : ℕ) × Contains from (place_in r i) × Contains to (place_in r j))

-- One of the two begins in the row.
abbrev pub FollowsInRows : List ℕ → List ℕ → List ℕ → List ℕ → List ℕ → ℕ → ℕ → Type 0
FollowsInRows reaches begins passes to_begins to_passes i j =
    (Follows reaches begins to_begins i j ⊎ Follows reaches begins to_passes i j) ⊎ Follows reaches passes to_begins i j

-- i' is i, and the segment j follows it in this row, before so great a number.
abbrev pub FollowsIn : List ℕ → ℕ → ℕ → ℕ → ℕ → ℕ → Type 0
FollowsIn to row reach i i' j = (i' ≡ i) × (i < j) × (j < reach) × Contains to (place_in row j)

-- The same from new to old ones, or from old to new ones.
abbrev pub FollowsBetween : List ℕ → List ℕ → List ℕ → List ℕ → List ℕ → ℕ → ℕ → Type 0
FollowsBetween reaches begins passes old_begins old_passes i j =
    FollowsInRows reaches begins passes old_begins old_passes i j ⊎ FollowsInRows reaches old_begins old_passes begins passes i j

-- The same among new ones, from new to old ones, or from old to new ones.
abbrev pub FollowsAmong : List ℕ → List ℕ → List ℕ → List ℕ → List ℕ → ℕ → ℕ → Type 0
FollowsAmong reaches begins passes old_begins old_passes i j =
    (FollowsInRows reaches begins passes begins passes i j ⊎ FollowsInRows reaches begins passes old_begins old_passes i j)
    ⊎ FollowsInRows reaches old_begins old_passes begins passes i j

-- ---- pairs of which one is new

-- The segment j follows i, and one of the two is new.
abbrev pub IsNewPair : List ℕ → ℕ → ℕ → Type 0
IsNewPair next_new i j = (i < j) × ((is_old next_new i && is_old next_new j) ≡ false)

-- No two edges of such numbers cross off the grid.
abbrev pub CrossWhole : List Edge → (ℕ → ℕ → Type 0) → Type 0
CrossWhole es pairs = (i j : ℕ) (s t : Edge) → pairs i j → IsAt es i s → IsAt es j t → crosses_off_grid s t ≡ false

-- Of two edges one is new and the other old: they meet whole.
abbrev pub MeetNewWhole : List Edge → List ℕ → Type 0
MeetNewWhole es next_new =
    (i j : ℕ) (s t : Edge) → IsAt es i s → IsAt es j t → is_old next_new i ≡ not (is_old next_new j) → MeetsWhole s t

-- Pairs pass the test of which one is new, if they share an x.
abbrev pub TakesNew : List Edge → List ℕ → (Edge → Edge → Bool) → Type 0
TakesNew es next_new test =
    (i j : ℕ) (s t : Edge) → IsNewPair next_new i j → IsAt es i s → IsAt es j t → share_point (x_range s) (x_range t) ≡ true → test s t ≡ true
