use Rattle.i_tree.proofs.Trees.Nodes.{site}
use Rattle.i_tree.proofs.Sets.Laws.{AreRising-values_without}
use Rattle.i_tree.proofs.Sets.Trees.{index-among, live-within, at-node}
use Rattle.i_tree.proofs.Sets.Losses.{emptied, IsSetTree-removed, DropsOne-removed, values-removed}
use Rattle.i_tree.proofs.set.tree.SetTreeSetCollection.delete_by_index.Goals as goal

pub entry_mut-requires : goal.entry_mut-requires
entry_mut-requires g c = live-within c.self.inside.tree c.self.inside.insertions c.self.invariant c.args.index (rw (← c.self.view_is) at c.requires.live)

pub remove-requires : goal.remove-requires
remove-requires g c =
    let h = index-among c.self.inside.tree c.self.inside.insertions c.self.invariant c.args.index (rw (← c.self.view_is) at c.requires.live) in
    let o = at-node c.self.inside.tree c.self.inside.insertions c.self.invariant c.args.index h in
    let y = c.take-value.new.self in
    (site o.parent o.side o.deep o.before o.near y o.far o.after, emptied c.self.inside.tree c.self.inside.insertions c.self.invariant c.args.index h y)

pub invariant_of-self : goal.invariant_of-self
invariant_of-self g c =
    let h = index-among c.self.inside.tree c.self.inside.insertions c.self.invariant c.args.index (rw (← c.self.view_is) at c.requires.live) in
    let o = at-node c.self.inside.tree c.self.inside.insertions c.self.invariant c.args.index h in
    let y = c.take-value.new.self in
    IsSetTree-removed c.self.inside.tree c.self.inside.insertions c.self.invariant c.args.index h y c.take-value.ensures.after c.remove.new.self c.remove.result
    (c.remove.ensures (site o.parent o.side o.deep o.before o.near y o.far o.after) (emptied c.self.inside.tree c.self.inside.insertions c.self.invariant c.args.index h y))

pub returns-clause-values : goal.returns-clause-values
returns-clause-values g c =
    let h = index-among c.self.inside.tree c.self.inside.insertions c.self.invariant c.args.index (rw (← c.self.view_is) at c.requires.live) in
    let o = at-node c.self.inside.tree c.self.inside.insertions c.self.invariant c.args.index h in
    let y = c.take-value.new.self in
    rw (← c.self.view_is)
    (values-removed c.self.inside.tree c.self.inside.insertions c.self.invariant c.args.index h y c.take-value.ensures.after c.remove.new.self c.remove.result
    (c.remove.ensures (site o.parent o.side o.deep o.before o.near y o.far o.after) (emptied c.self.inside.tree c.self.inside.insertions c.self.invariant c.args.index h y)))

pub returns-clause-sorted : goal.returns-clause-sorted
returns-clause-sorted g c = λ rising. rw (returns-clause-values g c) (AreRising-values_without g.K.Ord.cmp g.V.KeyValue.key_of c.args.index c.args.self.now rising)

pub returns-clause-indexes : goal.returns-clause-indexes
returns-clause-indexes g c =
    let h = index-among c.self.inside.tree c.self.inside.insertions c.self.invariant c.args.index (rw (← c.self.view_is) at c.requires.live) in
    let o = at-node c.self.inside.tree c.self.inside.insertions c.self.invariant c.args.index h in
    let y = c.take-value.new.self in
    rw (← c.self.view_is)
    (DropsOne-removed c.self.inside.tree c.self.inside.insertions c.self.invariant c.args.index h y c.take-value.ensures.after c.remove.new.self c.remove.result
    (c.remove.ensures (site o.parent o.side o.deep o.before o.near y o.far o.after) (emptied c.self.inside.tree c.self.inside.insertions c.self.invariant c.args.index h y)))
