use Rattle.std.proofs.Common.{sym, subst, false, not, Bool}
use Rattle.i_tree.specs.Tree.Shape.{join, under}
use Rattle.i_tree.specs.Tree.Removal.{IsRefilled}
use Rattle.i_tree.proofs.Trees.Reads.{node-within, red-read, Stands-turned}
use Rattle.i_tree.proofs.Trees.Lacks.{IsRefilled-both, Stands-back}
use Rattle.i_tree.proofs.tree.pool.Pool.mend_by_both.Goals as goal

pub links-red-requires : goal.links-red-requires
links-red-requires g c = let l = c.requires in node-within c.args.self.now.pool l.spare l.above c.args.left c.args.i l.red l.tree _ l.lacks.stands

pub paint-requires : goal.paint-requires
paint-requires g c =
    let l = c.requires in
    let turned = Stands-turned c.args.self.now.pool l.spare l.above c.args.left c.args.i l.red l.tree (join c.args.left c.args.sibling false l.inner l.outer) l.lacks.stands in
    node-within c.args.self.now.pool l.spare (under l.above (not c.args.left) c.args.i l.red l.tree) c.args.left c.args.sibling false l.inner l.outer turned

pub paint-requires-2 : goal.paint-requires-2
paint-requires-2 g c =
    let l = c.requires in
    let turned = Stands-turned c.args.self.now.pool l.spare l.above c.args.left c.args.i l.red l.tree (join c.args.left c.args.sibling false l.inner l.outer) l.lacks.stands in
    let first = c.paint.ensures.tree l.spare (under l.above (not c.args.left) c.args.i l.red l.tree) c.args.left false l.inner l.outer turned in
    node-within c.paint.new.self.pool l.spare l.above (not c.args.left) c.args.i l.red _ l.tree first

pub returns-clause-tree : goal.returns-clause-tree
returns-clause-tree g c = λ l.
    let turned = Stands-turned c.args.self.now.pool l.spare l.above c.args.left c.args.i l.red l.tree (join c.args.left c.args.sibling false l.inner l.outer) l.lacks.stands in
    let first = c.paint.ensures.tree l.spare (under l.above (not c.args.left) c.args.i l.red l.tree) c.args.left false l.inner l.outer turned in
    let second = c.paint-2.ensures.tree l.spare l.above (not c.args.left) l.red _ l.tree first in
    let red = red-read c.args.self.now.pool l.spare l.above c.args.left c.args.i l.red l.tree _ l.lacks.stands _ c.links-red.ensures.links in
    subst (λ (r : Bool). IsRefilled c.paint-2.new.self.pool l.spare (under l.above c.args.left c.args.i l.red (join c.args.left c.args.sibling false l.inner l.outer)) l.tree c.args.i r) (sym red)
    (IsRefilled-both c.args.self.now.pool c.args.i c.args.sibling c.args.left l c.paint-2.new.self.pool (Stands-back c.paint-2.new.self.pool l.spare l.above c.args.left c.args.i false _ l.tree second))
