use Rattle.std.proofs.Common.{map, get_or, refl, sym, subst, All, arith}
use Rattle.std.proofs.lemmas.List.{drop-map}
use Rattle.std.proofs.lemmas.List.Elements.{All-drop}
use Rattle.std.proofs.lemmas.List.Sums.{sum_by-drop_more}
use Rattle.std.proofs.lemmas.Result.{err_from_is_err_and}
use Rattle.plane_base.specs.Plane.{IsWithin}
use Rattle.polygon_overlay.specs.Builders.{count_of_type}
use Rattle.polygon_c.specs.Cuts.{cut}
use Rattle.polygon_c.specs.EdgeQueries.{carrying_of, laid_all, laid_all_with}
use Rattle.polygon_c.specs.Given.{cut_contours}
use Rattle.polygon_c.proofs.CarryLaws.{contour_carried, contour_refused}
use Rattle.polygon_c.proofs.edges.add_contours.Goals as goal

pub loop-length-preserved : goal.loop-length-preserved
loop-length-preserved g c =
    let plane = g.P.CPointOf.plane in
    let join = g.D.OverlayEdgeData.join in
    let count = count_of_type c.args.shape_type in
    let all = c.args.given.lengths.now in
    let contours = cut_contours plane c.args.given.points.now all in
    let i = c.loop-length.length-index in
    let n = get_or all i 0 in
    let within = IsWithin g.I.OverlayInt.least g.I.OverlayInt.greatest in
    let summed = sum_by-drop_more (λ x. x) all i 0 c.loop-length-test.true in
    record {
      carried = contour_carried plane join count g.D.Datum.datum (laid_all count contours) (laid_all_with join g.D.Datum.datum count contours (cut all c.args.given.numbers.now))
          (carrying_of c.args.overlay.now) (carrying_of c.loop-length.overlay) (carrying_of c.add_contour.new.overlay) c.loop-length.points.now _ _ c.loop-length.numbers.now _ _ all i
          n c.loop-length-test.true refl c.split_at.ensures.front c.split_at.ensures.back c.split_at-in-loop-length.ensures.front c.split_at-in-loop-length.ensures.back
          c.loop-length.invariant.carried c.in_ok-add_contour.ensures;
      cut = omega (arith, summed, c.loop-length.invariant.cut, c.split_at.ensures.back_len);
      numbered = omega (arith, summed, c.loop-length.invariant.numbered, c.split_at-in-loop-length.ensures.back_len);
      in_range = subst (λ ps. All within (map plane ps)) (sym c.split_at.ensures.back)
          (subst (All within) (drop-map plane n c.loop-length.points.now) (All-drop within n (map plane c.loop-length.points.now) c.loop-length.invariant.in_range));
    }

pub returns-in_err-add_contour : goal.returns-in_err-add_contour
returns-in_err-add_contour g c =
    let plane = g.P.CPointOf.plane in
    let join = g.D.OverlayEdgeData.join in
    let count = count_of_type c.args.shape_type in
    let all = c.args.given.lengths.now in
    let contours = cut_contours plane c.args.given.points.now all in
    let p = err_from_is_err_and c.from_residual.result c.from_residual.ensures.1 in
    rw (p.1, p.2)
    (contour_refused plane join count g.D.Datum.datum (laid_all count contours) (laid_all_with join g.D.Datum.datum count contours (cut all c.args.given.numbers.now))
    (carrying_of c.args.overlay.now) (carrying_of c.loop-length.overlay) (carrying_of c.add_contour.new.overlay) c.loop-length.points.now _ _ c.loop-length.numbers.now _ _ all
    c.loop-length.length-index (get_or all c.loop-length.length-index 0) c.loop-length-test.true refl c.split_at.ensures.front c.split_at.ensures.back
    c.split_at-in-loop-length.ensures.front c.split_at-in-loop-length.ensures.back c.loop-length.invariant.carried c.in_err-add_contour.field-0.0 c.in_err-add_contour.ensures)
