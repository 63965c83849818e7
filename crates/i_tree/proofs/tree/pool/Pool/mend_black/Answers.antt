use Rattle.std.proofs.Common.{◌∙◌, ap, refl}
use Rattle.i_tree.specs.Tree.Shape.{redness}
use Rattle.i_tree.proofs.Trees.Reads.{node-within, far-read, far-subtree}
use Rattle.i_tree.proofs.Trees.Lacks.{Opens-red, IsRefilled-settled}
use Rattle.i_tree.proofs.Trees.Refills.{sibling-lifts, lower-by-black, lower-grown}
use Rattle.i_tree.proofs.tree.pool.Pool.mend_black.Goals as goal

pub links-requires : goal.links-requires
links-requires g c = let l = c.requires in node-within c.args.self.now.pool l.spare l.above c.args.left c.args.i l.red l.tree l.sibling l.lacks.stands

pub is_red-requires : goal.is_red-requires
is_red-requires g c =
    let l = c.requires in
    let far = far-read c.args.self.now.pool l.spare l.above c.args.left c.args.i l.red l.tree l.sibling l.lacks.stands _ _ c.links.ensures.links c.child.ensures in
    far-subtree c.args.self.now.pool l.spare l.above c.args.left c.args.i l.red l.tree l.sibling l.lacks.stands _ far

pub lift-requires : goal.lift-requires
lift-requires g c =
    let l = c.requires in
    let far = far-read c.args.self.now.pool l.spare l.above c.args.left c.args.i l.red l.tree l.sibling l.lacks.stands _ _ c.links.ensures.links c.child.ensures in
    let red = c.is_red.ensures (far-subtree c.args.self.now.pool l.spare l.above c.args.left c.args.i l.red l.tree l.sibling l.lacks.stands _ far) ∙ ap redness c.if-is_red.true in
    sibling-lifts c.args.self.now.pool c.args.i c.args.left l (Opens-red c.args.left l.sibling red)

pub mend_by_black-requires : goal.mend_by_black-requires
mend_by_black-requires g c =
    let l = c.requires in
    let far = far-read c.args.self.now.pool l.spare l.above c.args.left c.args.i l.red l.tree l.sibling l.lacks.stands _ _ c.links.ensures.links c.child.ensures in
    let red = c.is_red.ensures (far-subtree c.args.self.now.pool l.spare l.above c.args.left c.args.i l.red l.tree l.sibling l.lacks.stands _ far) ∙ ap redness c.if-is_red.true in
    let o = Opens-red c.args.left l.sibling red in
    lower-by-black c.args.self.now.pool c.args.i c.args.left l o c.lift.new.self.pool (c.lift.ensures.tree (sibling-lifts c.args.self.now.pool c.args.i c.args.left l o))

pub returns-then-is_red-clause-tree : goal.returns-then-is_red-clause-tree
returns-then-is_red-clause-tree g c = λ l.
    let far = far-read c.args.self.now.pool l.spare l.above c.args.left c.args.i l.red l.tree l.sibling l.lacks.stands _ _ c.links.ensures.links c.child.ensures in
    let red = c.is_red.ensures (far-subtree c.args.self.now.pool l.spare l.above c.args.left c.args.i l.red l.tree l.sibling l.lacks.stands _ far) ∙ ap redness c.if-is_red.true in
    let o = Opens-red c.args.left l.sibling red in
    let up = c.lift.ensures.tree (sibling-lifts c.args.self.now.pool c.args.i c.args.left l o) in
    IsRefilled-settled c.mend_by_black.new.self.pool l.spare _ _ l.tree c.args.i c.mend_by_black.result refl (lower-grown c.args.self.now.pool c.args.i c.args.left l o c.lift.new.self.pool up)
    (c.mend_by_black.ensures.tree (lower-by-black c.args.self.now.pool c.args.i c.args.left l o c.lift.new.self.pool up))

pub mend_by_black-requires-2 : goal.mend_by_black-requires-2
mend_by_black-requires-2 g c =
    let l = c.requires in
    let far = far-read c.args.self.now.pool l.spare l.above c.args.left c.args.i l.red l.tree l.sibling l.lacks.stands _ _ c.links.ensures.links c.child.ensures in
    let black = c.is_red.ensures (far-subtree c.args.self.now.pool l.spare l.above c.args.left c.args.i l.red l.tree l.sibling l.lacks.stands _ far) ∙ ap redness c.if-is_red.false in
    record { below = l; sibling_black = black }

pub returns-clause-tree : goal.returns-clause-tree
returns-clause-tree g c = λ l.
    let far = far-read c.args.self.now.pool l.spare l.above c.args.left c.args.i l.red l.tree l.sibling l.lacks.stands _ _ c.links.ensures.links c.child.ensures in
    let black = c.is_red.ensures (far-subtree c.args.self.now.pool l.spare l.above c.args.left c.args.i l.red l.tree l.sibling l.lacks.stands _ far) ∙ ap redness c.if-is_red.false in
    c.mend_by_black-2.ensures.tree (record { below = l; sibling_black = black })
