use Rattle.std.proofs.Common.{arith, take, ap, sym, subst, ◌∙◌, ◌≡◌, ◌<◌, [], length, slice_index_or, ◌+◌, ◌≤◌}
use Rattle.plane_base.specs.PathViews.{paths_of_shapes}
use Rattle.std.proofs.lemmas.List.{take_all}
use Rattle.plane_base.proofs.PathLaws.{paths_counted, path_found}
use Rattle.plane_base.proofs.resource.path_of_shapes.Goals as goal

-- src/resource.rt:111:5
pub loop-shape-init : goal.loop-shape-init
loop-shape-init g c = omega arith

-- src/resource.rt:113:13
pub returns-then-left-len : goal.returns-then-left-len
returns-then-left-len g c =
    let inv : c.args.index ≡ length (paths_of_shapes (take c.loop-shape.shape-index c.args.shapes.now)) + c.loop-shape.left = c.loop-shape.invariant in
    let points : c.deref.result.now ≡ c.index.result.now.points.items = c.deref.ensures.value in
    points
    ∙ path_found c.args.shapes.now c.loop-shape.shape-index c.shape-item.result c.loop-shape-test.true c.shape-item.is
    c.loop-shape.left c.index.result.now (subst (λ n. c.loop-shape.left < n) (c.len.ensures ∙ c.shape-item.result.contours.ok.0) c.if-left-len.true) c.index.ensures
    ∙ ap (λ n. slice_index_or (paths_of_shapes c.args.shapes.now) n []) (sym inv)

-- src/resource.rt:111:5
pub loop-shape-preserved : goal.loop-shape-preserved
loop-shape-preserved g c =
    let inv : c.args.index ≡ length (paths_of_shapes (take c.loop-shape.shape-index c.args.shapes.now)) + c.loop-shape.left = c.loop-shape.invariant in
    let more : length (paths_of_shapes (take (c.loop-shape.shape-index + 1) c.args.shapes.now)) ≡ length (paths_of_shapes (take c.loop-shape.shape-index c.args.shapes.now)) + length c.shape-item.result.contours.items =
    paths_counted c.args.shapes.now c.loop-shape.shape-index c.shape-item.result c.loop-shape-test.true c.shape-item.is in
    let one : c.len.result ≡ length c.shape-item.result.contours.items = c.len.ensures ∙ c.shape-item.result.contours.ok.0 in
    let two : c.len-left.result ≡ length c.shape-item.result.contours.items = c.len-left.ensures ∙ c.shape-item.result.contours.ok.0 in
    let enough : c.len.result ≤ c.loop-shape.left = c.if-left-len.false in
    omega arith

-- src/resource.rt:106:1
pub returns : goal.returns
returns g c =
    let inv : c.args.index ≡ length (paths_of_shapes (take c.loop-shape.shape-index c.args.shapes.now)) + c.loop-shape.left = c.loop-shape.invariant in
    let all : take c.loop-shape.shape-index c.args.shapes.now ≡ c.args.shapes.now = take_all c.loop-shape.shape-index c.args.shapes.now (omega (arith, c.loop-shape-test.false)) in
    let count : length (paths_of_shapes (take c.loop-shape.shape-index c.args.shapes.now)) ≡ length (paths_of_shapes c.args.shapes.now) = ap (λ l. length (paths_of_shapes l)) all in
    let within : c.args.index < length (paths_of_shapes c.args.shapes.now) = c.requires in
    absurd (omega arith)
