use Rattle.std.proofs.Common.{◌≡◌, drop, sum, length}
use Rattle.polygon_overlay.specs.Builders.{count_of_type}
use Rattle.polygon_c.specs.Cuts.{cut}
use Rattle.polygon_c.specs.EdgeQueries.{carrying_of, laid_all, laid_all_with}
use Rattle.polygon_c.specs.Given.{cut_contours, AreInRange}
use Rattle.polygon_c.proofs.CarryLaws.{AreContoursLeft}
use Rattle.polygon_c.proofs.edges.add_contours.Given as goal

-- What is held and the edges of the contours to come are all there is.
abbrev pub invariant-loop-length : goal.invariant-loop-length
invariant-loop-length g l =
    let plane = g.P.CPointOf.plane in
    let join = g.D.OverlayEdgeData.join in
    let c = count_of_type l.shape_type in
    let all = l.given.lengths.now in
    let contours = cut_contours plane l.given.points.now all in
    let with_data = laid_all_with join g.D.Datum.datum c contours (cut all l.given.numbers.now) in
    let lengths = drop l.length-index all in
    record {
      carried : AreContoursLeft plane join c g.D.Datum.datum (laid_all c contours) with_data (carrying_of l.fn.overlay) (carrying_of l.overlay) l.points l.numbers lengths;
      cut : sum lengths ≡ length l.points;
      numbered : sum lengths ≡ length l.numbers;
      in_range : AreInRange plane g.I.OverlayInt.least g.I.OverlayInt.greatest l.points;
    }
