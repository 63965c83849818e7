-- What contracts see of the code's segments and crossings.
use Rattle.std.specs.Prelude.{ℤ, Option, Some, None}
use Rattle.plane_base.specs.Plane.{Edge}
use Rattle.plane_base.specs.Views.{point_of}
use Rattle.plane_base.specs.Crossing.{Meeting, apart, pure, target_end, other_end, overlay}
use Rattle.plane_base.specs.declared.segment.XSegment.{XSegment}
use Rattle.plane_base.specs.declared.cross.CrossResult.{CrossResult}
use Rattle.plane_base.specs.declared.cross.CrossKind.TheVariants.{Pure, TargetEnd, OtherEnd, Overlay}

-- the segment over whole numbers
abbrev pub edge_of : {I : Type 0} → (I → ℤ) → XSegment I → Edge
edge_of value s = record { a = point_of value s.a; b = point_of value s.b }

abbrev pub found_of : {I : Type 0} → (I → ℤ) → CrossResult I → Meeting
found_of value r =
    elim r.kind [
      | Pure ↦ pure (point_of value r.point)
      | TargetEnd ↦ target_end (point_of value r.point)
      | OtherEnd ↦ other_end (point_of value r.point)
      | Overlay ↦ overlay (point_of value r.point)
    ]

-- no result stands for two segments with nothing but ends in common
abbrev pub meeting_of : {I : Type 0} → (I → ℤ) → Option (CrossResult I) → Meeting
meeting_of value None = apart
meeting_of value (Some r) = found_of value r
