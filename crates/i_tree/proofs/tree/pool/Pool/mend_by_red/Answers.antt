use Rattle.std.proofs.Common.{◌∙◌, ap, false, true, not}
use Rattle.i_tree.specs.Tree.Shape.{join, under}
use Rattle.i_tree.specs.Tree.Pool.{links_at, root_of}
use Rattle.i_tree.proofs.Trees.Pools.{root_of-join}
use Rattle.i_tree.proofs.Trees.Reads.{node-within, far-read, Stands-turned}
use Rattle.i_tree.proofs.Trees.Twists.{IsRed-root}
use Rattle.i_tree.proofs.Trees.Refills.{painted-as, red-lifts, lifted-stands, FillsIn-red}
use Rattle.i_tree.proofs.tree.pool.Pool.mend_by_red.Goals as goal

pub links-requires : goal.links-requires
links-requires g c = let l = c.requires in node-within c.args.self.now.pool l.spare l.above c.args.left c.args.i l.red l.tree _ l.lacks.stands

pub links-requires-2 : goal.links-requires-2
links-requires-2 g c =
    let l = c.requires in
    let s = c.args.left in
    let sibling = far-read c.args.self.now.pool l.spare l.above s c.args.i l.red l.tree _ l.lacks.stands _ _ c.links.ensures.links c.child-sibling.ensures ∙ root_of-join s l.sibling false l.inner l.outer in
    let turned = Stands-turned c.args.self.now.pool l.spare l.above s c.args.i l.red l.tree (join s l.sibling false l.inner l.outer) l.lacks.stands in
    rw sibling (node-within c.args.self.now.pool l.spare (under l.above (not s) c.args.i l.red l.tree) s l.sibling false l.inner l.outer turned)

pub lift-requires : goal.lift-requires
lift-requires g c = red-lifts c.args.self.now.pool c.args.i c.args.left c.requires

pub paint-requires : goal.paint-requires
paint-requires g c =
    let l = c.requires in
    let s = c.args.left in
    let sibling = far-read c.args.self.now.pool l.spare l.above s c.args.i l.red l.tree _ l.lacks.stands _ _ c.links.ensures.links c.child-sibling.ensures ∙ root_of-join s l.sibling false l.inner l.outer in
    let turned = Stands-turned c.args.self.now.pool l.spare l.above s c.args.i l.red l.tree (join s l.sibling false l.inner l.outer) l.lacks.stands in
    let o = IsRed-root l.outer l.outer_red in
    let outer = far-read c.args.self.now.pool l.spare (under l.above (not s) c.args.i l.red l.tree) s l.sibling false l.inner l.outer turned _ _ (c.links-2.ensures.links ∙ ap (links_at c.args.self.now.pool) sibling) c.child-outer.ensures
    ∙ ap root_of o.is ∙ root_of-join true o.name true o.left o.right in
    let before = lifted-stands c.args.self.now.pool c.args.i s l c.lift.new.self.pool (c.lift.ensures.tree (red-lifts c.args.self.now.pool c.args.i s l)) o in
    rw outer (node-within c.lift.new.self.pool l.spare (under l.above (not s) l.sibling l.red (join s c.args.i false l.tree l.inner)) true o.name true o.left o.right before)

pub returns-clause-tree : goal.returns-clause-tree
returns-clause-tree g c = λ l.
    let s = c.args.left in
    let sibling = far-read c.args.self.now.pool l.spare l.above s c.args.i l.red l.tree _ l.lacks.stands _ _ c.links.ensures.links c.child-sibling.ensures ∙ root_of-join s l.sibling false l.inner l.outer in
    let turned = Stands-turned c.args.self.now.pool l.spare l.above s c.args.i l.red l.tree (join s l.sibling false l.inner l.outer) l.lacks.stands in
    let o = IsRed-root l.outer l.outer_red in
    let outer = far-read c.args.self.now.pool l.spare (under l.above (not s) c.args.i l.red l.tree) s l.sibling false l.inner l.outer turned _ _ (c.links-2.ensures.links ∙ ap (links_at c.args.self.now.pool) sibling) c.child-outer.ensures
    ∙ ap root_of o.is ∙ root_of-join true o.name true o.left o.right in
    let before = lifted-stands c.args.self.now.pool c.args.i s l c.lift.new.self.pool (c.lift.ensures.tree (red-lifts c.args.self.now.pool c.args.i s l)) o in
    FillsIn-red c.args.self.now.pool c.args.i s l c.paint.new.self.pool o
    (painted-as c.lift.new.self.pool c.paint.new.self.pool l.spare _ o.name false outer c.paint.ensures.tree (under l.above (not s) l.sibling l.red (join s c.args.i false l.tree l.inner)) true true o.left o.right before)
