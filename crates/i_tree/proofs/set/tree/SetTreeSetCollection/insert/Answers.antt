use Rattle.std.proofs.Common.{◌+◌, rules}
use Rattle.i_tree.proofs.Sets.Held.{held-length}
use Rattle.i_tree.proofs.Sets.Laws.{AreRising-with_value}
use Rattle.i_tree.proofs.Sets.Gains.{IsSetTree-added, with_value-gap, AddsOne-gap}
use Rattle.i_tree.proofs.set.tree.SetTreeSetCollection.insert.Goals as goal

pub invariant_of-self : goal.invariant_of-self
invariant_of-self g c =
    let (n, (counts, gap)) = c.search-gap.ensures.gap in
    IsSetTree-added _ g.V.KeyValue.key_of c.self.inside.tree c.self.inside.insertions c.self.invariant c.search-gap.result.parent c.search-gap.result.left n c.search-gap.result.index gap c.insert.new.self c.in-Ok._index c.args.val
    (c.in-Ok.ensures.ok n gap.before gap.after gap.place) (rw (← c.self.view_is) at c.requires.room)

pub returns-in-Ok-clause-values : goal.returns-in-Ok-clause-values
returns-in-Ok-clause-values g c =
    let (n, (counts, gap)) = c.search-gap.ensures.gap in
    rw (← c.self.view_is)
    (with_value-gap _ g.V.KeyValue.key_of c.self.inside.tree c.self.inside.insertions c.self.invariant c.search-gap.result.parent c.search-gap.result.left n c.search-gap.result.index gap c.insert.new.self c.in-Ok._index c.args.val
    (c.in-Ok.ensures.ok n gap.before gap.after gap.place) g.K.Ord.cmp g.met.K.Ord.total (λ i d h r said. search rules) (rw (← c.self.view_is) at c.requires.sorted) (rw (← c.self.view_is) at c.requires.new_key) (c.self.inside.insertions + 1))

pub returns-in-Ok-clause-sorted : goal.returns-in-Ok-clause-sorted
returns-in-Ok-clause-sorted g c = rw (returns-in-Ok-clause-values g c) (AreRising-with_value g.K.Ord.cmp g.V.KeyValue.key_of c.args.val g.met.K.Ord.total _ c.requires.sorted c.requires.new_key)

pub returns-in-Ok-clause-cost : goal.returns-in-Ok-clause-cost
returns-in-Ok-clause-cost g c = rw (← c.self.view_is, held-length _ c.self.invariant.each_node) c.search-gap.ensures.cost

pub returns-in-Ok-clause-indexes : goal.returns-in-Ok-clause-indexes
returns-in-Ok-clause-indexes g c =
    let (n, (counts, gap)) = c.search-gap.ensures.gap in
    rw (← c.self.view_is)
    (AddsOne-gap _ g.V.KeyValue.key_of c.self.inside.tree c.self.inside.insertions c.self.invariant c.search-gap.result.parent c.search-gap.result.left n c.search-gap.result.index gap c.insert.new.self c.in-Ok._index c.args.val
    (c.in-Ok.ensures.ok n gap.before gap.after gap.place) (c.self.inside.insertions + 1))

pub returns-in-Err-clause-cost : goal.returns-in-Err-clause-cost
returns-in-Err-clause-cost g c = rw (← c.self.view_is, held-length _ c.self.invariant.each_node) c.search-gap.ensures.cost
