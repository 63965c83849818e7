use Rattle.i_tree.proofs.Sets.Held.{held-length}
use Rattle.i_tree.proofs.Sets.Searches.{IsMonotoneBy-key, IsNewSetKey-searched}
use Rattle.i_tree.proofs.Sets.Trees.{IsNamed-tree}
use Rattle.i_tree.proofs.Sets.Gains.{gap-index}
use Rattle.i_tree.proofs.set.tree.SetTreeSetCollection.first_index_less_by.Goals as goal

pub returns-clause-index : goal.returns-clause-index
returns-clause-index g c =
    rw (← c.self.view_is)
    (λ by depends mono.
    let (n, (counts, gap)) = c.search.ensures.gap in
    gap-index _ g.V.KeyValue.key_of c.self.inside.tree c.self.inside.insertions c.self.invariant c.search.result.parent c.search.result.left n c.search.result.index gap by depends mono)

pub returns-clause-cost : goal.returns-clause-cost
returns-clause-cost g c = rw (← c.self.view_is, held-length _ c.self.invariant.each_node) c.search.ensures.cost

pub returns-clause-new_key : goal.returns-clause-new_key
returns-clause-new_key g c = λ key rising depends unlike.
    let cmp = g.K.Ord.cmp in
    let total = g.met.K.Ord.total in
    let index = returns-clause-index g c (λ k. cmp k key) depends (IsMonotoneBy-key cmp g.V.KeyValue.key_of total key 4294967295 c.args.self.now rising) in
    IsNewSetKey-searched cmp g.V.KeyValue.key_of total key 4294967295 c.args.self.now rising (rw (← c.self.view_is) (IsNamed-tree c.self.inside.tree c.self.inside.insertions c.self.invariant)) c.search.result.index index unlike
