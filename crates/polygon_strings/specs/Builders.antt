-- What a string builder holds, from query to query.
use Rattle.std.specs.Prelude.{◌≡◌, ◌⊎◌, ℕ, ℤ, pos, true, false, List, [], ◌∷◌, ◌++◌, flat_map, All}
use Rattle.plane_base.specs.Plane.{Point, is_before}
use Rattle.plane_base.specs.Counts.{Entry, normal}
use Rattle.plane_base.specs.Given.{laid_path}
use Rattle.plane_base.specs.Balance.{IsBalanced}
use Rattle.plane_base.specs.declared.fault.Fault.{Fault}
use Rattle.plane_base.specs.declared.fault.Fault.TheVariants.{Memory}
use Rattle.segment_split.specs.Adding.{AddsStepsUntil, AddsAll, AddsUntil}
use Rattle.segment_split.specs.Redrawing.{redrawn}
use Rattle.segment_split.specs.SegmentViews.{AreWithin, AreCounted}
use Rattle.segment_split.specs.Strings.{StringCount, stringed, one_line, string_of}
use Rattle.segment_split.specs.declared.solver.Precision.{Precision}
use Rattle.segment_split.specs.declared.solver.Solver.{Solver}
use Rattle.segment_split.specs.declared.solver.Strategy.TheVariants.{Auto}
use Rattle.contour_walk.specs.declared.options.IntOverlayOptions.{IntOverlayOptions}
use Rattle.contour_walk.specs.declared.contour_direction.ContourDirection.TheVariants.{CounterClockwise}

-- Edges in range, each counting for something. The subject leaves each point as often as it enters it, as contours do.
pub record IsStringHeld (least greatest : ℤ) (es : List (Entry StringCount)) : Type 0 where
  pub within : AreWithin least greatest es
  pub directed : All (λ e. is_before e.edge.a e.edge.b ≡ true) es
  pub counted : AreCounted stringed es
  pub balanced : IsBalanced (λ c. c.subject) es

-- the count of an edge of a shape
abbrev pub one_shape : StringCount
one_shape = string_of (pos 1) (pos 0)

-- the map that a query redraws, by the precision alone
abbrev pub string_map : Precision → List (Entry StringCount) → List (Entry StringCount)
string_map precision held = redrawn stringed precision (normal stringed held)

-- ---- what a builder does when nothing is said

abbrev pub default_options : IntOverlayOptions
default_options = record {
  preserve_input_collinear = false;
  output_direction = CounterClockwise;
  preserve_output_collinear = false;
  min_output_area = 0;
  ogc = false;
}

-- the precision is high: 1, then twice as much from pass to pass
abbrev pub default_precision : Precision
default_precision = record { start = 0; progression = 1 }

abbrev pub default_solver : Solver
default_solver = record { strategy = Auto; precision = default_precision }

-- ---- strings

-- The steps of the paths before one are added, and of that one those before a step that was refused.
pub record AddsPathsUntil (paths : List (List Point)) (room : ℕ) (old new : List (Entry StringCount)) (fault : Fault) : Type 0 where
  pub before : List (List Point)
  pub refused : List Point
  pub after : List (List Point)
  pub all : paths ≡ before ++ refused ∷ after
  pub adds : AddsStepsUntil stringed one_line refused room (old ++ flat_map (laid_path stringed one_line) before) new fault

-- ---- builders made of sources

-- The contours of a shape are held, thinned, and then the steps of open strings.
abbrev pub HoldsBoth : List (List Point) → List (List Point) → List (Entry StringCount) → Type 0
HoldsBoth shape strings held =
    (between : List (Entry StringCount)) × AddsAll stringed one_shape false shape [] between
    × (held ≡ between ++ flat_map (laid_path stringed one_line) strings)

-- Memory was refused, or a contour of the shape or a step of a string for its own reason.
abbrev pub IsNotMade : List (List Point) → List (List Point) → Fault → Type 0
IsNotMade shape strings fault =
    (fault ≡ Memory)
    ⊎ ((held : List (Entry StringCount)) × AddsUntil stringed one_shape false shape [] held fault)
    ⊎ ((between held : List (Entry StringCount)) × (room : ℕ) × AddsAll stringed one_shape false shape [] between
    × AddsPathsUntil strings room between held fault)
