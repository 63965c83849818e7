use Rattle.std.proofs.Common.{◌≡◌, ◌∙◌, sym, ap, ◌+◌, ◌++◌, ◌∷◌, [], take, length, get_or, arith}
use Rattle.std.specs.Prelude.{None}
use Rattle.std.proofs.lemmas.List.{take_more, length-take-le, with_items_is}
use Rattle.contour_walk.specs.Hierarchy.{children_of}
use Rattle.contour_walk.proofs.bind.child_links.children_of_contours.Goals as goal

pub loop-child-preserved : goal.loop-child-preserved
loop-child-preserved c =
    let old = c.loop-child.children in
    let new = c.add_child.new.children in
    let parents = c.args.parents.now in
    let i = c.loop-child.child in
    let inv = c.loop-child.invariant in
    let seen = c.deref_mut.ensures.value in
    let many : length c.deref_mut.result.now ≡ length old.items = ap length seen in
    let as_many : length new ≡ old.len = omega (arith, c.add_child.ensures.len, many, old.ok.0) in
    let items = with_items_is old new as_many in
    let first : length (take i parents) ≡ i = length-take-le i parents (omega (arith, c.loop-child-test.true)) in
    let step : take (i + 1) parents ≡ take i parents ++ get_or parents i None ∷ [] = take_more parents i None c.loop-child-test.true in (
      ap length items ∙ (c.add_child.ensures.len ∙ (many ∙ inv.0)),
      λ m d l.
          ap (λ xs. (get_or xs m d).items) items
          ∙ (c.in_ok-add_child.ensures.is (take i parents) first (λ k e h. ap (λ xs. (get_or xs k e).items) seen ∙ inv.1 k e (omega (arith, h, many, inv.0))) m d (omega (arith, l, many, inv.0))
          ∙ ap (children_of m 0) (sym step)),
    )
