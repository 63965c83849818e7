-- What a builder of edges holds, from query to query.
use Rattle.std.specs.Prelude.{◌≡◌, ℤ, true, false, List, All}
use Rattle.plane_base.specs.Plane.{is_before}
use Rattle.plane_base.specs.Counts.{Count, Entry, boolean}
use Rattle.segment_split.specs.SegmentViews.{AreWithin, AreCounted}
use Rattle.contour_walk.specs.declared.options.IntOverlayOptions.{IntOverlayOptions}
use Rattle.contour_walk.specs.declared.contour_direction.ContourDirection.TheVariants.{CounterClockwise}

-- Edges in range, lesser end first, each counting for something. They need not be balanced.
pub record AreHeldEdges (least greatest : ℤ) (es : List (Entry Count)) : Type 0 where
  pub within : AreWithin least greatest es
  pub directed : All (λ e. is_before e.edge.a e.edge.b ≡ true) es
  pub counted : AreCounted boolean es

-- points of the answer are kept, outlines run counterclockwise, no contour is too small, and none is parted
abbrev pub output_points_kept : IntOverlayOptions
output_points_kept = record {
  preserve_input_collinear = false;
  output_direction = CounterClockwise;
  preserve_output_collinear = true;
  min_output_area = 0;
  ogc = false;
}
