-- What a builder holds, from query to query.
use Rattle.std.specs.Prelude.{◌≡◌, ◌⊎◌, ℤ, Bool, true, false, List, [], All}
use Rattle.plane_base.specs.Plane.{Point, is_before}
use Rattle.plane_base.specs.Counts.{Count, Entry, boolean, one_subject, one_clip}
use Rattle.plane_base.specs.Balance.{IsBalancedMap}
use Rattle.segment_split.specs.SegmentViews.{AreWithin, AreCounted}
use Rattle.plane_base.specs.declared.fault.Fault.{Fault}
use Rattle.plane_base.specs.declared.fault.Fault.TheVariants.{Memory}
use Rattle.segment_split.specs.Adding.{AddsAll, AddsUntil}
use Rattle.segment_split.specs.declared.count.ShapeType.{ShapeType}
use Rattle.segment_split.specs.declared.count.ShapeType.TheVariants.{Subject, Clip}
use Rattle.segment_split.specs.declared.solver.Precision.{Precision}
use Rattle.segment_split.specs.declared.solver.Solver.{Solver}
use Rattle.segment_split.specs.declared.solver.Strategy.TheVariants.{Auto}
use Rattle.contour_walk.specs.declared.options.IntOverlayOptions.{IntOverlayOptions}
use Rattle.contour_walk.specs.declared.contour_direction.ContourDirection.TheVariants.{CounterClockwise}

-- Edges in range, each counting for something. As many leave each point as enter it, as contours do.
pub record IsHeld (least greatest : ℤ) (es : List (Entry Count)) : Type 0 where
  pub within : AreWithin least greatest es
  pub directed : All (λ e. is_before e.edge.a e.edge.b ≡ true) es
  pub counted : AreCounted boolean es
  pub balanced : IsBalancedMap es

-- the count of an edge of a subject, and of a clip
abbrev pub count_of_type : ShapeType → Count
count_of_type Subject = one_subject
count_of_type Clip = one_clip

-- ---- what a builder does when nothing is said

-- corners alone are kept, outlines run counterclockwise, no contour is too small, and none is parted
abbrev pub default_options : IntOverlayOptions
default_options = record {
  preserve_input_collinear = false;
  output_direction = CounterClockwise;
  preserve_output_collinear = false;
  min_output_area = 0;
  ogc = false;
}

-- the precision is high: 1, then twice as much from pass to pass
abbrev pub default_precision : Precision
default_precision = record { start = 0; progression = 1 }

abbrev pub default_solver : Solver
default_solver = record { strategy = Auto; precision = default_precision }

-- ---- builders made of sources

-- The subject's contours are held, and then the clip's.
abbrev pub HoldsBoth : Bool → List (List Point) → List (List Point) → List (Entry Count) → Type 0
HoldsBoth keep_all subjects clips held =
    (between : List (Entry Count)) × AddsAll boolean one_subject keep_all subjects [] between × AddsAll boolean one_clip keep_all clips between held

-- The subject's contours are held up to one that was refused, or all of them and the clip's up to one.
abbrev pub HoldsUntil : Bool → List (List Point) → List (List Point) → List (Entry Count) → Fault → Type 0
HoldsUntil keep_all subjects clips held fault =
    AddsUntil boolean one_subject keep_all subjects [] held fault
    ⊎ ((between : List (Entry Count)) × AddsAll boolean one_subject keep_all subjects [] between ×
    AddsUntil boolean one_clip keep_all clips between held fault)

-- Memory was refused, or a contour of the subject or of the clip for its own reason.
abbrev pub IsNotMade : Bool → List (List Point) → List (List Point) → Fault → Type 0
IsNotMade keep_all subjects clips fault =
    (fault ≡ Memory)
    ⊎ ((held : List (Entry Count)) × AddsUntil boolean one_subject keep_all subjects [] held fault)
    ⊎ ((between held : List (Entry Count)) × AddsAll boolean one_subject keep_all subjects [] between ×
    AddsUntil boolean one_clip keep_all clips between held fault)
