use Rattle.std.proofs.Common.{drop, map}
use Rattle.plane_base.specs.Counts.{boolean}
use Rattle.plane_base.specs.Given.{laid}
use Rattle.plane_base.specs.Plane.{IsWithin}
use Rattle.segment_split.specs.Data.{carried}
use Rattle.polygon_overlay.specs.Builders.{count_of_type}
use Rattle.polygon_c.specs.EdgeQueries.{carrying_of, laid_with}
use Rattle.polygon_c.specs.Given.{plane_points}
use Rattle.polygon_c.proofs.CarryLaws.{IsRoundLeft}
use Rattle.polygon_c.proofs.edges.add_contour.Given as goal

-- What is held and the edges from this point on are all there is.
abbrev pub invariant-loop-place : goal.invariant-loop-place
invariant-loop-place g l =
    let plane = g.P.CPointOf.plane in
    let join = g.D.OverlayEdgeData.join in
    let c = count_of_type l.shape_type in
    let points = plane_points plane l.points in
    let with_data = laid_with (carried boolean join) points (map (λ n. (c, g.D.Datum.datum n)) l.numbers) in
    record {
      carried : IsRoundLeft plane join c g.D.Datum.datum (laid boolean c points) with_data (carrying_of l.fn.overlay) (carrying_of l.overlay) l.first l.from
          (drop l.place l.others) (drop l.place l.numbers);
      in_range : IsWithin g.I.OverlayInt.least g.I.OverlayInt.greatest (plane l.from);
    }
