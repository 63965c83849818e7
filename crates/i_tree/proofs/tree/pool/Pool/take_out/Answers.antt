use Rattle.std.proofs.Common.{◌∙◌, ap, sym, subst, false, true, ◌∷◌}
use Rattle.i_tree.specs.Tree.Shape.{leaf, redness, plug}
use Rattle.i_tree.specs.Tree.Pool.{root_of, Stands}
use Rattle.i_tree.proofs.Trees.Pools.{root_of-join}
use Rattle.i_tree.proofs.Trees.Reads.{node-within, node-focus, far-read, far-subtree, red-read, parent-read}
use Rattle.i_tree.proofs.Trees.Twists.{IsRed-root}
use Rattle.i_tree.proofs.Trees.Refills.{painted-as}
use Rattle.i_tree.proofs.Trees.Outs.{out-cuts, out-red, out-painted, out-lacks, out-filled}
use Rattle.i_tree.proofs.tree.pool.Pool.take_out.Goals as goal

pub links-node-requires : goal.links-node-requires
links-node-requires g c = let l = c.requires in node-within c.args.self.now.pool l.spare l.context c.args.left c.args.i l.red leaf l.child l.filled.stands

pub is_left-on_left-requires : goal.is_left-on_left-requires
is_left-on_left-requires g c = let l = c.requires in node-focus c.args.self.now.pool l.spare l.context c.args.left c.args.i l.red leaf l.child l.filled.stands

pub is_red-only_red-requires : goal.is_red-only_red-requires
is_red-only_red-requires g c =
    let l = c.requires in
    let far = far-read c.args.self.now.pool l.spare l.context c.args.left c.args.i l.red leaf l.child l.filled.stands _ _ c.links-node.ensures.links c.child-only.ensures in
    far-subtree c.args.self.now.pool l.spare l.context c.args.left c.args.i l.red leaf l.child l.filled.stands _ far

pub cut-requires : goal.cut-requires
cut-requires g c = out-cuts c.args.self.now.pool c.args.i c.args.left c.requires

pub returns-then-node-clause-tree : goal.returns-then-node-clause-tree
returns-then-node-clause-tree g c = λ l.
    let red = red-read c.args.self.now.pool l.spare l.context c.args.left c.args.i l.red leaf l.child l.filled.stands _ c.links-node.ensures.links in
    out-red c.args.self.now.pool c.args.i c.args.left l c.cut.new.self.pool (c.cut.ensures.tree (out-cuts c.args.self.now.pool c.args.i c.args.left l)) (sym red ∙ c.if-node.true)

pub paint-requires : goal.paint-requires
paint-requires g c =
    let l = c.requires in
    let far = far-read c.args.self.now.pool l.spare l.context c.args.left c.args.i l.red leaf l.child l.filled.stands _ _ c.links-node.ensures.links c.child-only.ensures in
    let child_red = c.is_red-only_red.ensures (far-subtree c.args.self.now.pool l.spare l.context c.args.left c.args.i l.red leaf l.child l.filled.stands _ far) ∙ ap redness c.if-only_red.true in
    let o = IsRed-root l.child child_red in
    let cut = c.cut.ensures.tree (out-cuts c.args.self.now.pool c.args.i c.args.left l) in
    rw (far ∙ ap root_of o.is ∙ root_of-join true o.name true o.left o.right)
    (node-within c.cut.new.self.pool _ l.context true o.name true o.left o.right (subst (λ x. Stands c.cut.new.self.pool (c.args.i ∷ l.spare) (plug l.context x)) o.is cut))

pub returns-then-only_red-clause-tree : goal.returns-then-only_red-clause-tree
returns-then-only_red-clause-tree g c = λ l.
    let far = far-read c.args.self.now.pool l.spare l.context c.args.left c.args.i l.red leaf l.child l.filled.stands _ _ c.links-node.ensures.links c.child-only.ensures in
    let red = red-read c.args.self.now.pool l.spare l.context c.args.left c.args.i l.red leaf l.child l.filled.stands _ c.links-node.ensures.links in
    let child_red = c.is_red-only_red.ensures (far-subtree c.args.self.now.pool l.spare l.context c.args.left c.args.i l.red leaf l.child l.filled.stands _ far) ∙ ap redness c.if-only_red.true in
    let o = IsRed-root l.child child_red in
    let cut = c.cut.ensures.tree (out-cuts c.args.self.now.pool c.args.i c.args.left l) in
    out-painted c.args.self.now.pool c.args.i c.args.left l c.paint.new.self.pool o (sym red ∙ c.if-node.false)
    (painted-as c.cut.new.self.pool c.paint.new.self.pool (c.args.i ∷ l.spare) _ o.name false (far ∙ ap root_of o.is ∙ root_of-join true o.name true o.left o.right) c.paint.ensures.tree l.context true true o.left o.right
    (subst (λ x. Stands c.cut.new.self.pool (c.args.i ∷ l.spare) (plug l.context x)) o.is cut))

pub mend_removal-requires : goal.mend_removal-requires
mend_removal-requires g c =
    let l = c.requires in
    let far = far-read c.args.self.now.pool l.spare l.context c.args.left c.args.i l.red leaf l.child l.filled.stands _ _ c.links-node.ensures.links c.child-only.ensures in
    let red = red-read c.args.self.now.pool l.spare l.context c.args.left c.args.i l.red leaf l.child l.filled.stands _ c.links-node.ensures.links in
    let parent = parent-read c.args.self.now.pool l.spare l.context c.args.left c.args.i l.red leaf l.child l.filled.stands _ c.links-node.ensures.links in
    let black = c.is_red-only_red.ensures (far-subtree c.args.self.now.pool l.spare l.context c.args.left c.args.i l.red leaf l.child l.filled.stands _ far) ∙ ap redness c.if-only_red.false in
    let side = c.is_left-on_left.ensures (node-focus c.args.self.now.pool l.spare l.context c.args.left c.args.i l.red leaf l.child l.filled.stands) in
    let lacks = out-lacks c.args.self.now.pool c.args.i c.args.left l c.cut.new.self.pool (c.cut.ensures.tree (out-cuts c.args.self.now.pool c.args.i c.args.left l)) (sym red ∙ c.if-node.false) black in
    (c.args.i ∷ l.spare, (l.context, (l.child, (lacks, (sym parent, side)))))

pub returns-clause-tree : goal.returns-clause-tree
returns-clause-tree g c = λ l.
    let far = far-read c.args.self.now.pool l.spare l.context c.args.left c.args.i l.red leaf l.child l.filled.stands _ _ c.links-node.ensures.links c.child-only.ensures in
    let red = red-read c.args.self.now.pool l.spare l.context c.args.left c.args.i l.red leaf l.child l.filled.stands _ c.links-node.ensures.links in
    let parent = parent-read c.args.self.now.pool l.spare l.context c.args.left c.args.i l.red leaf l.child l.filled.stands _ c.links-node.ensures.links in
    let black = c.is_red-only_red.ensures (far-subtree c.args.self.now.pool l.spare l.context c.args.left c.args.i l.red leaf l.child l.filled.stands _ far) ∙ ap redness c.if-only_red.false in
    let side = c.is_left-on_left.ensures (node-focus c.args.self.now.pool l.spare l.context c.args.left c.args.i l.red leaf l.child l.filled.stands) in
    let lacks = out-lacks c.args.self.now.pool c.args.i c.args.left l c.cut.new.self.pool (c.cut.ensures.tree (out-cuts c.args.self.now.pool c.args.i c.args.left l)) (sym red ∙ c.if-node.false) black in
    out-filled c.args.self.now.pool c.args.i c.args.left l c.mend_removal.new.self.pool (c.mend_removal.ensures.tree (c.args.i ∷ l.spare) l.context l.child lacks (sym parent) side)
