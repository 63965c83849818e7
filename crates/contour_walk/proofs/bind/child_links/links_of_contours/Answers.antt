use Rattle.std.proofs.Common.{◌≡◌, ◌∙◌, sym, ap, ap₂, ◌<◌, ◌++◌, map, length, get_or, arith}
use Rattle.contour_walk.specs.Hierarchy.{link_to}
use Rattle.contour_walk.proofs.Binder.Children.{links_more}
use Rattle.contour_walk.proofs.bind.child_links.links_of_contours.Goals as goal

pub loop-contour-preserved : goal.loop-contour-preserved
loop-contour-preserved c = λ parents told.
    let i = c.loop-contour.contour in
    let numbers = c.args.numbers.now in
    let x = c.index-children-contour.result in
    let inside : i < length c.args.children.now = omega (arith, c.loop-contour-test.true, c.requires.all) in
    let read : c.deref.result.now ≡ x.items = c.deref.ensures.value in
    let children = read ∙ (ap (λ v. v.items) c.index-children-contour.is ∙ told i x inside) in
    c.in_ok-add_links.ensures.is
    ∙ (ap₂ (λ before more. before ++ map (link_to (get_or numbers i 0) i) more) (c.loop-contour.invariant parents told) children
    ∙ sym (links_more parents numbers i c.loop-contour-test.true))
