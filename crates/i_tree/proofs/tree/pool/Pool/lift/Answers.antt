use Rattle.std.proofs.Common.{arith, ap, ◌∙◌}
use Rattle.i_tree.specs.Tree.Pool.{wired, root_of, parent_of, IsPut, IsHung}
use Rattle.i_tree.proofs.Trees.Pools.{wired-parent}
use Rattle.i_tree.proofs.Trees.Lifts.{lower, upper, above_is, sibling_is, red_is, parent_is, over_is, inner_is, outer_is, upper_red_is, inner_subtree, focus, place, Stands-lifted}
use Rattle.i_tree.proofs.tree.pool.Pool.lift.Goals as goal

pub links-node-requires : goal.links-node-requires
links-node-requires g c = (lower c.args.self.now.pool c.args.i c.args.left c.requires).node.within

pub links-over-requires : goal.links-over-requires
links-over-requires g c =
    rw (above_is c.args.self.now.pool c.args.i c.args.left c.requires _ _ c.links-node.ensures.links c.child-above.ensures)
    ((upper c.args.self.now.pool c.args.i c.args.left c.requires).node.within)

pub is_left-on_left-requires : goal.is_left-on_left-requires
is_left-on_left-requires g c = focus c.args.self.now.pool c.args.i c.args.left c.requires

pub adopt-requires : goal.adopt-requires
adopt-requires g c =
    let l = c.requires in
    let above = above_is c.args.self.now.pool c.args.i c.args.left l _ _ c.links-node.ensures.links c.child-above.ensures in
    let over = over_is c.args.self.now.pool c.args.i c.args.left l _ _ c.links-over.ensures.links above in
    record {
      subtree = inner_subtree c.args.self.now.pool c.args.i c.args.left l _ (inner_is c.args.self.now.pool c.args.i c.args.left l _ _ over c.child-inner.ensures);
      fits = let w = (lower c.args.self.now.pool c.args.i c.args.left l).node.within in let f = l.stands.fits in omega arith;
    }

pub put-requires-clause-fits : goal.put-requires-clause-fits
put-requires-clause-fits g c =
    let l = c.requires in
    let above = above_is c.args.self.now.pool c.args.i c.args.left l _ _ c.links-node.ensures.links c.child-above.ensures in
    let w = (upper c.args.self.now.pool c.args.i c.args.left l).node.within in
    let f = l.stands.fits in
    let p = ap (λ x. x.parent) c.wire.ensures ∙ wired-parent c.args.left _ _ _ _ in
    omega arith

pub put-requires-clause-within : goal.put-requires-clause-within
put-requires-clause-within g c =
    let old = c.args.self.now.pool in
    let i = c.args.i in
    let s = c.args.left in
    let l = c.requires in
    let above = above_is old i s l _ _ c.links-node.ensures.links c.child-above.ensures in
    let over = over_is old i s l _ _ c.links-over.ensures.links above in
    let adopted = c.adopt.ensures.tree (inner_subtree old i s l _ (inner_is old i s l _ _ over c.child-inner.ensures)) in
    rw adopted.only.places ((lower old i s l).node.within)

pub put-requires-2-clause-within : goal.put-requires-2-clause-within
put-requires-2-clause-within g c =
    let old = c.args.self.now.pool in
    let i = c.args.i in
    let s = c.args.left in
    let l = c.requires in
    let above = above_is old i s l _ _ c.links-node.ensures.links c.child-above.ensures in
    let over = over_is old i s l _ _ c.links-over.ensures.links above in
    let adopted = c.adopt.ensures.tree (inner_subtree old i s l _ (inner_is old i s l _ _ over c.child-inner.ensures)) in
    rw (c.put.ensures.tree.only.places, adopted.only.places, above) ((upper old i s l).node.within)

pub put-requires-2-clause-fits : goal.put-requires-2-clause-fits
put-requires-2-clause-fits g c = let p = ap (λ x. x.parent) c.wire-2.ensures ∙ wired-parent c.args.left _ _ _ _ in omega (arith, c.links-node.ensures.fits)

pub hang-requires : goal.hang-requires
hang-requires g c =
    let old = c.args.self.now.pool in
    let i = c.args.i in
    let s = c.args.left in
    let l = c.requires in
    let above = above_is old i s l _ _ c.links-node.ensures.links c.child-above.ensures in
    let over = over_is old i s l _ _ c.links-over.ensures.links above in
    let inner = inner_is old i s l _ _ over c.child-inner.ensures in
    let outer = outer_is old i s l _ _ over c.child-2.ensures in
    let sibling = sibling_is old i s l _ _ c.links-node.ensures.links c.child.ensures in
    let red = red_is old i s l _ c.links-node.ensures.links in
    let upper_red = upper_red_is old i s l _ over in
    let parent = parent_is old i s l _ c.links-node.ensures.links in
    let adopted = c.adopt.ensures.tree (inner_subtree old i s l _ inner) in
    let first : IsPut c.adopt.new.self.pool c.put.new.self.pool i (wired s l.child l.child_red (root_of l.inner) (root_of l.sibling)) =
    rw (← above, ← upper_red, ← inner, ← sibling, ← c.wire.ensures) c.put.ensures.tree in
    let second : IsPut c.put.new.self.pool c.put-2.new.self.pool l.child (wired s (parent_of l.context) l.parent_red (root_of l.outer) i) =
    rw (← above, ← parent, ← red, ← outer, ← c.wire-2.ensures) c.put-2.ensures.tree in
    place old i s l _ _ _ adopted first second _ _ parent (c.is_left-on_left.ensures (focus old i s l))

pub returns-clause-tree : goal.returns-clause-tree
returns-clause-tree g c = λ l.
    let old = c.args.self.now.pool in
    let i = c.args.i in
    let s = c.args.left in
    let above = above_is old i s l _ _ c.links-node.ensures.links c.child-above.ensures in
    let over = over_is old i s l _ _ c.links-over.ensures.links above in
    let inner = inner_is old i s l _ _ over c.child-inner.ensures in
    let outer = outer_is old i s l _ _ over c.child-2.ensures in
    let sibling = sibling_is old i s l _ _ c.links-node.ensures.links c.child.ensures in
    let red = red_is old i s l _ c.links-node.ensures.links in
    let upper_red = upper_red_is old i s l _ over in
    let parent = parent_is old i s l _ c.links-node.ensures.links in
    let adopted = c.adopt.ensures.tree (inner_subtree old i s l _ inner) in
    let first : IsPut c.adopt.new.self.pool c.put.new.self.pool i (wired s l.child l.child_red (root_of l.inner) (root_of l.sibling)) =
    rw (← above, ← upper_red, ← inner, ← sibling, ← c.wire.ensures) c.put.ensures.tree in
    let second : IsPut c.put.new.self.pool c.put-2.new.self.pool l.child (wired s (parent_of l.context) l.parent_red (root_of l.outer) i) =
    rw (← above, ← parent, ← red, ← outer, ← c.wire-2.ensures) c.put-2.ensures.tree in
    let hung = c.hang.ensures.tree (place old i s l _ _ _ adopted first second _ _ parent (c.is_left-on_left.ensures (focus old i s l))) in
    let hung' : IsHung c.put-2.new.self.pool c.hang.new.self.pool l.context l.child = rw above at hung in
    Stands-lifted old i s l _ _ _ adopted first second _ hung'
