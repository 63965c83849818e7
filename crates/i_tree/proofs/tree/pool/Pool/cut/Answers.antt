use Rattle.std.proofs.Common.{◌≡◌, ◌∙◌, ap, false, true, arith}
use Rattle.i_tree.specs.declared.tree.pool.TheConstants.{NO_NODE}
use Rattle.i_tree.specs.Tree.Pool.{wired, root_of, parent_of, IsPut, IsAdopted, IsHung}
use Rattle.i_tree.proofs.Trees.Pools.{wired-parent}
use Rattle.i_tree.proofs.Trees.Cuts.{lower, child_is, parent_is, child_subtree, focus, place, Stands-cut}
use Rattle.i_tree.proofs.tree.pool.Pool.cut.Goals as goal

pub links-node-requires : goal.links-node-requires
links-node-requires g c = (lower c.args.self.now.pool c.args.i c.args.left c.requires).node.within

pub is_left-on_left-requires : goal.is_left-on_left-requires
is_left-on_left-requires g c = focus c.args.self.now.pool c.args.i c.args.left c.requires

pub adopt-requires : goal.adopt-requires
adopt-requires g c = record {
  subtree = child_subtree c.args.self.now.pool c.args.i c.args.left c.requires _ (child_is c.args.self.now.pool c.args.i c.args.left c.requires _ _ c.links-node.ensures.links c.child-only.ensures);
  fits = c.links-node.ensures.fits;
}

pub hang-requires : goal.hang-requires
hang-requires g c =
    let old = c.args.self.now.pool in
    let i = c.args.i in
    let s = c.args.left in
    let l = c.requires in
    let child = child_is old i s l _ _ c.links-node.ensures.links c.child-only.ensures in
    let parent = parent_is old i s l _ c.links-node.ensures.links in
    let adopted : IsAdopted old c.adopt.new.self.pool (parent_of l.context) l.child = rw parent at (c.adopt.ensures.tree (child_subtree old i s l _ child)) in
    place old i s l _ adopted _ _ parent (c.is_left-on_left.ensures (focus old i s l))

pub put-requires-clause-within : goal.put-requires-clause-within
put-requires-clause-within g c =
    let old = c.args.self.now.pool in
    let i = c.args.i in
    let s = c.args.left in
    let l = c.requires in
    let child = child_is old i s l _ _ c.links-node.ensures.links c.child-only.ensures in
    let parent = parent_is old i s l _ c.links-node.ensures.links in
    let adopted : IsAdopted old c.adopt.new.self.pool (parent_of l.context) l.child = rw parent at (c.adopt.ensures.tree (child_subtree old i s l _ child)) in
    let hung = c.hang.ensures.tree (place old i s l _ adopted _ _ parent (c.is_left-on_left.ensures (focus old i s l))) in
    rw (hung.only.places, adopted.only.places) ((lower old i s l).node.within)

pub put-requires-clause-fits : goal.put-requires-clause-fits
put-requires-clause-fits g c = let p = ap (λ l. l.parent) c.wire.ensures ∙ wired-parent true NO_NODE false c.spare-next.result NO_NODE in omega arith

pub returns-clause-tree : goal.returns-clause-tree
returns-clause-tree g c = λ l.
    let old = c.args.self.now.pool in
    let i = c.args.i in
    let s = c.args.left in
    let child = child_is old i s l _ _ c.links-node.ensures.links c.child-only.ensures in
    let parent = parent_is old i s l _ c.links-node.ensures.links in
    let adopted : IsAdopted old c.adopt.new.self.pool (parent_of l.context) l.child = rw parent at (c.adopt.ensures.tree (child_subtree old i s l _ child)) in
    let hung : IsHung c.adopt.new.self.pool c.hang.new.self.pool l.context (root_of l.child) = rw child at (c.hang.ensures.tree (place old i s l _ adopted _ _ parent (c.is_left-on_left.ensures (focus old i s l)))) in
    let wired_is : c.wire.result ≡ wired true NO_NODE false c.hang.new.self.pool.spare NO_NODE = c.wire.ensures ∙ ap (λ x. wired true NO_NODE false x NO_NODE) c.spare-next.ensures in
    let put : IsPut c.hang.new.self.pool c.put.new.self.pool i (wired true NO_NODE false c.hang.new.self.pool.spare NO_NODE) =
    rw (← wired_is) c.put.ensures.tree in
    Stands-cut old i s l _ adopted _ _ _ hung put c.set_spare.ensures.spare c.set_spare.ensures.root c.set_spare.ensures.only
