use Rattle.std.proofs.Common.{◌≡◌, ◌+◌, ◌<◌, ◌≤◌, ◌∷◌, length, map, get_or, refl, sym, subst, All, ◌∙◌, arith}
use Rattle.std.proofs.lemmas.List.Elements.{All-head, All-tail}
use Rattle.std.proofs.lemmas.Result.{err_from_is_err_and}
use Rattle.plane_base.specs.Counts.{boolean}
use Rattle.plane_base.specs.Given.{laid}
use Rattle.plane_base.specs.Plane.{IsWithin}
use Rattle.plane_base.proofs.Facts.Lists.Views.{All-mapped}
use Rattle.segment_split.specs.Data.{carried}
use Rattle.polygon_overlay.specs.Builders.{count_of_type}
use Rattle.polygon_c.specs.EdgeQueries.{carrying_of, laid_with}
use Rattle.polygon_c.specs.Given.{plane_points}
use Rattle.polygon_c.proofs.CarryLaws.{none_yet, IsRoundLeft, edge_carried, edge_refused, edge_is_last, last_carried}
use Rattle.polygon_c.proofs.edges.add_contour.Goals as goal

pub loop-place-init : goal.loop-place-init
loop-place-init g c =
    let plane = g.P.CPointOf.plane in
    let join = g.D.OverlayEdgeData.join in
    let count = count_of_type c.args.shape_type in
    let numbers = c.args.numbers.now in
    let counts = map (λ n. (count, g.D.Datum.datum n)) numbers in
    let old = carrying_of c.args.overlay.now in
    let first = c.in-Some.first.now in
    let others = c.in-Some.others.now in
    let split = c.in-Some.ensures.cases.0 in
    let within = IsWithin g.I.OverlayInt.least g.I.OverlayInt.greatest in
    record {
      carried = subst
          (λ ps. IsRoundLeft plane join count g.D.Datum.datum (laid boolean count (map plane ps)) (laid_with (carried boolean join) (map plane ps) counts) old old first first others numbers)
          (sym split)
          (none_yet (laid boolean count (map plane (first ∷ others))) (laid_with (carried boolean join) (map plane (first ∷ others)) counts) old);
      in_range = All-head within (plane first) (map plane others) (subst (λ ps. All within (map plane ps)) split c.requires.in_range);
    }

pub add_edge-requires : goal.add_edge-requires
add_edge-requires g c =
    let plane = g.P.CPointOf.plane in
    let first = c.in-Some.first.now in
    let others = c.in-Some.others.now in
    let within = IsWithin g.I.OverlayInt.least g.I.OverlayInt.greatest in
    let all = All-tail within (plane first) (map plane others) (subst (λ ps. All within (map plane ps)) c.in-Some.ensures.cases.0 c.requires.in_range) in
    record {
      ready = c.loop-place.invariant.carried.ready ∙ c.requires.ready;
      from_in_range = c.loop-place.invariant.in_range;
      to_in_range = All-mapped within plane others c.loop-place.place c.index-others-place.result c.loop-place-test.true c.index-others-place.is all;
    }

pub loop-place-preserved : goal.loop-place-preserved
loop-place-preserved g c =
    let plane = g.P.CPointOf.plane in
    let join = g.D.OverlayEdgeData.join in
    let count = count_of_type c.args.shape_type in
    let numbers = c.args.numbers.now in
    let points = plane_points plane c.args.points.now in
    let others = c.in-Some.others.now in
    let first = c.in-Some.first.now in
    let within = IsWithin g.I.OverlayInt.least g.I.OverlayInt.greatest in
    let all = All-tail within (plane first) (map plane others) (subst (λ ps. All within (map plane ps)) c.in-Some.ensures.cases.0 c.requires.in_range) in
    let to = c.index-others-place.result in
    let here : c.loop-place.place < length numbers = omega (arith, c.loop-place-test.true, c.in-Some.ensures.cases.1, c.requires.numbered) in
    record {
      carried = edge_carried plane join count g.D.Datum.datum (laid boolean count points) (laid_with (carried boolean join) points (map (λ n. (count, g.D.Datum.datum n)) numbers))
          (carrying_of c.args.overlay.now) (carrying_of c.loop-place.overlay) (carrying_of c.add_edge.new.overlay) first c.loop-place.from to others numbers c.loop-place.place
          (get_or numbers c.loop-place.place 0) c.loop-place-test.true here c.index-others-place.is refl c.loop-place.invariant.carried c.in_ok-add_edge.ensures;
      in_range = All-mapped within plane others c.loop-place.place to c.loop-place-test.true c.index-others-place.is all;
    }

pub returns-in_err-add_edge : goal.returns-in_err-add_edge
returns-in_err-add_edge g c =
    let plane = g.P.CPointOf.plane in
    let join = g.D.OverlayEdgeData.join in
    let count = count_of_type c.args.shape_type in
    let numbers = c.args.numbers.now in
    let points = plane_points plane c.args.points.now in
    let p = err_from_is_err_and c.from_residual.result c.from_residual.ensures.1 in
    let here : c.loop-place.place < length numbers = omega (arith, c.loop-place-test.true, c.in-Some.ensures.cases.1, c.requires.numbered) in
    rw (p.1, p.2)
    (edge_refused plane join count g.D.Datum.datum (laid boolean count points) (laid_with (carried boolean join) points (map (λ n. (count, g.D.Datum.datum n)) numbers))
    (carrying_of c.args.overlay.now) (carrying_of c.loop-place.overlay) (carrying_of c.add_edge.new.overlay) c.in-Some.first.now c.loop-place.from c.index-others-place.result c.in-Some.others.now numbers
    c.loop-place.place (get_or numbers c.loop-place.place 0) c.loop-place-test.true here c.index-others-place.is refl c.loop-place.invariant.carried
    c.in_err-add_edge.field-0.0 c.in_err-add_edge.ensures)

pub add_edge-requires-2 : goal.add_edge-requires-2
add_edge-requires-2 g c =
    let plane = g.P.CPointOf.plane in
    let first = c.in-Some.first.now in
    let within = IsWithin g.I.OverlayInt.least g.I.OverlayInt.greatest in
    record {
      ready = c.loop-place.invariant.carried.ready ∙ c.requires.ready;
      from_in_range = c.loop-place.invariant.in_range;
      to_in_range = All-head within (plane first) (map plane c.in-Some.others.now) (subst (λ ps. All within (map plane ps)) c.in-Some.ensures.cases.0 c.requires.in_range);
    }

pub returns : goal.returns
returns g c =
    let plane = g.P.CPointOf.plane in
    let join = g.D.OverlayEdgeData.join in
    let count = count_of_type c.args.shape_type in
    let numbers = c.args.numbers.now in
    let points = plane_points plane c.args.points.now in
    let others = c.in-Some.others.now in
    let edges = laid boolean count points in
    let with_data = laid_with (carried boolean join) points (map (λ n. (count, g.D.Datum.datum n)) numbers) in
    let old = carrying_of c.args.overlay.now in
    let now = carrying_of c.loop-place.overlay in
    let past : length others ≤ c.loop-place.place = omega (arith, c.loop-place-test.false) in
    let up : c.loop-place.place ≤ length others = omega (arith, c.loop-place.auto.place-end) in
    let long : length numbers ≡ length others + 1 = omega (arith, c.in-Some.ensures.cases.1, c.requires.numbered) in
    last_carried edges with_data old now (carrying_of c.add_edge-2.new.overlay) _ _
    (edge_is_last plane join count g.D.Datum.datum edges with_data old now c.in-Some.first.now c.loop-place.from others numbers c.loop-place.place (length others) (get_or numbers (length others) 0) past up refl long
    refl c.loop-place.invariant.carried) c.add_edge-2.result c.add_edge-2.ensures
