-- Slices: the halves of a string map's edges, the walks that pass each of them once, and the pieces that the walks part the subject into.
use Rattle.std.specs.Prelude.{◌≡◌, ℕ, pos, Bool, true, false, not, cond, ◌&&◌, ◌||◌, int_lt, List, [], ◌∷◌, ◌++◌, map, flat_map, filter, find, take, All, Some, None}
use Rattle.plane_base.specs.Plane.{Point, Edge, turn}
use Rattle.plane_base.specs.Counts.{Entry}
use Rattle.plane_base.specs.Regions.{FillRule}
use Rattle.segment_split.specs.Strings.{StringCount}
use Rattle.segment_arrangement.specs.EdgeSides.{differ}
use Rattle.segment_arrangement.specs.Fills.{has}
use Rattle.segment_arrangement.specs.Graphs.{Link}
use Rattle.segment_arrangement.specs.Strings.{all_string_links, has_line}
use Rattle.contour_walk.specs.Walks.{Border, same_point, next_point}
use Rattle.contour_walk.specs.WalkLaws.{PassAll, contour_steps}
use Rattle.contour_walk.specs.Binding.{least_point}
use Rattle.contour_walk.specs.Loops.{long_loops}
use Rattle.contour_walk.specs.JoinedHoles.{joined}

-- ---- halves: an edge, and a side of it that the subject fills

-- an edge with this fill parts what lies on its sides: they differ, or a line runs along it
abbrev pub is_parting : ℕ → Bool
is_parting fill = differ (has 2 fill) (has 1 fill) || has_line fill

-- whether it has the half above it, or the half below it
abbrev pub has_half : Bool → ℕ → Bool
has_half above fill = is_parting fill && has (cond above 1 2) fill

abbrev pub halves_of_link : Link → List Border
halves_of_link l =
    cond (has_half true l.fill) (record { edge = l.edge; above = true } ∷ []) []
    ++ cond (has_half false l.fill) (record { edge = l.edge; above = false } ∷ []) []

-- the halves of all edges that part
abbrev pub halves : FillRule → List (Entry StringCount) → List Border
halves fill es = flat_map halves_of_link (all_string_links fill es)

-- ---- walks

-- each three of the list in a row
abbrev pub InARow : (Point → Point → Point → Type 0) → List Point → Type 0
InARow R [] = Unit {0}
InARow R (u ∷ []) = Unit {0}
InARow R (u ∷ v ∷ []) = Unit {0}
InARow R (u ∷ v ∷ w ∷ rest) = R u v w × InARow R (v ∷ w ∷ rest)

-- Walks pass each half once, with its filled side on the left, or on the right where the output is clockwise. At each point they go on by
-- the half that is met first on turning from the one that they came on through its filled side.
pub record AreSliceWalks (output : Bool) (halves : List Border) (walks : List (List Point)) : Type 0 where
  pub passes : PassAll output halves walks
  pub turns : All (λ points. InARow (λ u v w. next_point (not output) halves v u ≡ Some w) (points ++ take 2 points)) walks

-- ---- pieces

-- the loop turns left at its least point
abbrev pub runs_left : List Point → Bool
runs_left points =
    elim (least_point points) [
      | None ↦ false
      | Some v ↦
          elim (find (λ (s : Edge). same_point s.b v) (contour_steps points)) [
            | None ↦ false
            | Some s ↦
                elim (find (λ (s : Edge). same_point s.a v) (contour_steps points)) [
                  | None ↦ false
                  | Some t ↦ int_lt (pos 0) (turn s.a v t.b)
                ]
          ]
    ]

-- it runs as outlines do
abbrev pub is_outline : Bool → List Point → Bool
is_outline output points = cond output (not (runs_left points)) (runs_left points)

-- The pieces: the loops of the walks that reach the least area. Those that run in the output direction are outlines, and each other is a hole, in
-- the shape that the way down from it meets.
abbrev pub pieces : Bool → ℕ → List (List Point) → List (List (List Point))
pieces output least walks =
    let loops : List (List Point) = flat_map (long_loops least) walks in
    joined output (map (λ l. l ∷ []) (filter (is_outline output) loops)) (filter (λ l. not (is_outline output l)) loops)

pub record IsSlice (output : Bool) (least : ℕ) (fill : FillRule) (es : List (Entry StringCount)) (shapes : List (List (List Point))) : Type 0 where
  pub walks : List (List Point)
  pub are : AreSliceWalks output (halves fill es) walks
  pub is : shapes ≡ pieces output least walks
