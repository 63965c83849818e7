use Rattle.std.proofs.Common.{◌∙◌, ap, sym, subst, true}
use Rattle.i_tree.specs.Tree.Shape.{redness}
use Rattle.i_tree.specs.Tree.Pool.{Lifts}
use Rattle.i_tree.specs.Tree.Removal.{LacksByBoth}
use Rattle.i_tree.proofs.Trees.Lacks.{Opens-red, FillsIn-grown, IsRefilled-fills}
use Rattle.i_tree.proofs.Trees.Refills.{by-red, by-both, refilled-opened, near-lifts, near-by-red, near-grown, lift-as, both-as}
use Rattle.i_tree.proofs.Trees.Nephews.{opening, lack-within, sibling-read, sibling-within, far-nephew, near-nephew, far-red, near-red}
use Rattle.i_tree.proofs.tree.pool.Pool.mend_by_black.Goals as goal

pub links-requires : goal.links-requires
links-requires g c = lack-within c.args.self.now.pool c.args.i c.args.left c.requires

pub links-nephews-requires : goal.links-nephews-requires
links-nephews-requires g c =
    let old = c.args.self.now.pool in
    let i = c.args.i in
    let s = c.args.left in
    let l = c.requires in
    let sibling = sibling-read old i s l _ _ c.links.ensures.links c.child-sibling.ensures in
    sibling-within old i s l _ sibling

pub is_red-requires : goal.is_red-requires
is_red-requires g c =
    let old = c.args.self.now.pool in
    let i = c.args.i in
    let s = c.args.left in
    let l = c.requires in
    let sibling = sibling-read old i s l _ _ c.links.ensures.links c.child-sibling.ensures in
    far-nephew old i s l _ sibling _ c.links-nephews.ensures.links _ c.child.ensures

pub mend_by_red-requires : goal.mend_by_red-requires
mend_by_red-requires g c =
    let old = c.args.self.now.pool in
    let i = c.args.i in
    let s = c.args.left in
    let l = c.requires in
    let sibling = sibling-read old i s l _ _ c.links.ensures.links c.child-sibling.ensures in
    let far = far-red old i s l _ sibling _ c.links-nephews.ensures.links _ _ c.is_red.ensures c.child.ensures in
    by-red old i s l (opening old i s l) (far ∙ ap redness c.if-is_red.true)

pub returns-then-is_red-clause-tree : goal.returns-then-is_red-clause-tree
returns-then-is_red-clause-tree g c = λ l.
    let old = c.args.self.now.pool in
    let i = c.args.i in
    let s = c.args.left in
    let sibling = sibling-read old i s l _ _ c.links.ensures.links c.child-sibling.ensures in
    let far = far-red old i s l _ sibling _ c.links-nephews.ensures.links _ _ c.is_red.ensures c.child.ensures in
    let filled = c.mend_by_red.ensures.tree (by-red old i s l (opening old i s l) (far ∙ ap redness c.if-is_red.true)) in
    refilled-opened old i s l (opening old i s l) c.mend_by_red.new.self.pool true (IsRefilled-fills c.mend_by_red.new.self.pool l.below.spare _ l.below.tree i filled)

pub is_red-requires-2 : goal.is_red-requires-2
is_red-requires-2 g c =
    let old = c.args.self.now.pool in
    let i = c.args.i in
    let s = c.args.left in
    let l = c.requires in
    let sibling = sibling-read old i s l _ _ c.links.ensures.links c.child-sibling.ensures in
    near-nephew old i s l _ sibling _ c.links-nephews.ensures.links _ c.child-2.ensures

pub lift-requires : goal.lift-requires
lift-requires g c =
    let old = c.args.self.now.pool in
    let i = c.args.i in
    let s = c.args.left in
    let l = c.requires in
    let sibling = sibling-read old i s l _ _ c.links.ensures.links c.child-sibling.ensures in
    let near = near-red old i s l _ sibling _ c.links-nephews.ensures.links _ _ c.is_red-2.ensures c.child-2.ensures in
    let z = Opens-red s (opening old i s l).near (near ∙ ap redness c.if-is_red-2.true) in
    subst (λ x. Lifts old x s) (sym sibling) (near-lifts old i s l (opening old i s l) z)

pub mend_by_red-requires-then-is_red-2 : goal.mend_by_red-requires-then-is_red-2
mend_by_red-requires-then-is_red-2 g c =
    let old = c.args.self.now.pool in
    let i = c.args.i in
    let s = c.args.left in
    let l = c.requires in
    let sibling = sibling-read old i s l _ _ c.links.ensures.links c.child-sibling.ensures in
    let far = far-red old i s l _ sibling _ c.links-nephews.ensures.links _ _ c.is_red.ensures c.child.ensures in
    let near = near-red old i s l _ sibling _ c.links-nephews.ensures.links _ _ c.is_red-2.ensures c.child-2.ensures in
    let z = Opens-red s (opening old i s l).near (near ∙ ap redness c.if-is_red-2.true) in
    let black = far ∙ ap redness c.if-is_red.false in
    let up = lift-as old c.lift.new.self.pool s _ (opening old i s l).name sibling c.lift.ensures.tree (near-lifts old i s l (opening old i s l) z) in
    near-by-red old i s l (opening old i s l) z c.lift.new.self.pool black up

pub returns-then-is_red-2-clause-tree : goal.returns-then-is_red-2-clause-tree
returns-then-is_red-2-clause-tree g c = λ l.
    let old = c.args.self.now.pool in
    let i = c.args.i in
    let s = c.args.left in
    let sibling = sibling-read old i s l _ _ c.links.ensures.links c.child-sibling.ensures in
    let far = far-red old i s l _ sibling _ c.links-nephews.ensures.links _ _ c.is_red.ensures c.child.ensures in
    let near = near-red old i s l _ sibling _ c.links-nephews.ensures.links _ _ c.is_red-2.ensures c.child-2.ensures in
    let z = Opens-red s (opening old i s l).near (near ∙ ap redness c.if-is_red-2.true) in
    let black = far ∙ ap redness c.if-is_red.false in
    let up = lift-as old c.lift.new.self.pool s _ (opening old i s l).name sibling c.lift.ensures.tree (near-lifts old i s l (opening old i s l) z) in
    let new = c.mend_by_red-then-is_red-2.new.self.pool in
    let filled = c.mend_by_red-then-is_red-2.ensures.tree (near-by-red old i s l (opening old i s l) z c.lift.new.self.pool black up) in
    IsRefilled-fills new l.below.spare _ l.below.tree i (FillsIn-grown new l.below.spare _ _ l.below.tree (near-grown old i s l (opening old i s l) z c.lift.new.self.pool black up) filled)

pub mend_by_both-requires : goal.mend_by_both-requires
mend_by_both-requires g c =
    let old = c.args.self.now.pool in
    let i = c.args.i in
    let s = c.args.left in
    let l = c.requires in
    let sibling = sibling-read old i s l _ _ c.links.ensures.links c.child-sibling.ensures in
    let far = far-red old i s l _ sibling _ c.links-nephews.ensures.links _ _ c.is_red.ensures c.child.ensures in
    let near = near-red old i s l _ sibling _ c.links-nephews.ensures.links _ _ c.is_red-2.ensures c.child-2.ensures in
    let both = by-both old i s l (opening old i s l) (near ∙ ap redness c.if-is_red-2.false) (far ∙ ap redness c.if-is_red.false) in
    subst (λ x. LacksByBoth old i x s) (sym sibling) both

pub returns-clause-tree : goal.returns-clause-tree
returns-clause-tree g c = λ l.
    let old = c.args.self.now.pool in
    let i = c.args.i in
    let s = c.args.left in
    let sibling = sibling-read old i s l _ _ c.links.ensures.links c.child-sibling.ensures in
    let far = far-red old i s l _ sibling _ c.links-nephews.ensures.links _ _ c.is_red.ensures c.child.ensures in
    let near = near-red old i s l _ sibling _ c.links-nephews.ensures.links _ _ c.is_red-2.ensures c.child-2.ensures in
    let both = by-both old i s l (opening old i s l) (near ∙ ap redness c.if-is_red-2.false) (far ∙ ap redness c.if-is_red.false) in
    refilled-opened old i s l (opening old i s l) c.mend_by_both.new.self.pool _ (both-as old c.mend_by_both.new.self.pool i s _ (opening old i s l).name c.mend_by_both.result sibling c.mend_by_both.ensures.tree both)
