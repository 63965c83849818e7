use Rattle.std.proofs.Common.{rules, ◌≡◌, sym, ◌∙◌, ap}
use Rattle.std.specs.Prelude.{insert}
use Rattle.i_tree.specs.IndexedSet.{with_value}
use Rattle.i_tree.specs.SetSearch.{leading}
use Rattle.i_tree.proofs.Sets.Laws.{insert-leading, AreRising-with_value, values-enumerate, length-enumerate, CountsAtMost-min}
use Rattle.i_tree.proofs.set.list.SetListSetCollection.insert.Goals as goal

pub returns-in-Ok-clause-values : goal.returns-in-Ok-clause-values
returns-in-Ok-clause-values g c =
    let items = c.args.self.now.values.items in
    let at : c.count_not_above-at.result ≡ leading g.V.KeyValue.key_of (λ k. g.K.Ord.cmp k (g.V.KeyValue.key_of c.args.val)) items =
    (rw c.deref.ensures.value at c.count_not_above-at.ensures.count) (λ k. g.K.Ord.cmp k (g.V.KeyValue.key_of c.args.val)) (λ i d h r said. search rules) in
    values-enumerate 0 c.insert.new.self.items ∙ c.in-Ok.ensures.items ∙ ap (λ n. insert items n c.args.val) at
    ∙ insert-leading g.K.Ord.cmp g.V.KeyValue.key_of c.args.val items (rw values-enumerate at c.requires.new_key)
    ∙ ap (with_value g.K.Ord.cmp g.V.KeyValue.key_of c.args.val) (sym (values-enumerate 0 items))

pub returns-in-Ok-clause-sorted : goal.returns-in-Ok-clause-sorted
returns-in-Ok-clause-sorted g c =
    rw (returns-in-Ok-clause-values g c) (AreRising-with_value g.K.Ord.cmp g.V.KeyValue.key_of c.args.val g.met.K.Ord.total _ c.requires.sorted c.requires.new_key)

pub returns-in-Ok-clause-cost : goal.returns-in-Ok-clause-cost
returns-in-Ok-clause-cost g c =
    CountsAtMost-min c.args.steps.now c.count_not_above-at.new.steps _ _ _ (sym (length-enumerate 0 c.args.self.now.values.items)) (rw c.deref.ensures.value at c.count_not_above-at.ensures.cost)

pub returns-in-Err-clause-cost : goal.returns-in-Err-clause-cost
returns-in-Err-clause-cost g c =
    CountsAtMost-min c.args.steps.now c.count_not_above-at.new.steps _ _ _ (sym (length-enumerate 0 c.args.self.now.values.items)) (rw c.deref.ensures.value at c.count_not_above-at.ensures.cost)

pub returns-in-Ok-clause-exact : goal.returns-in-Ok-clause-exact
returns-in-Ok-clause-exact g c =
    let at : c.count_not_above-at.result ≡ leading g.V.KeyValue.key_of (λ k. g.K.Ord.cmp k (g.V.KeyValue.key_of c.args.val)) c.args.self.now.values.items = (rw c.deref.ensures.value at c.count_not_above-at.ensures.count) (λ k. g.K.Ord.cmp k (g.V.KeyValue.key_of c.args.val)) (λ i d h r said. search rules) in
    rw (values-enumerate, ← at) (rw c.deref.ensures.value at c.count_not_above-at.ensures.cost)

pub returns-in-Err-clause-exact : goal.returns-in-Err-clause-exact
returns-in-Err-clause-exact g c =
    let at : c.count_not_above-at.result ≡ leading g.V.KeyValue.key_of (λ k. g.K.Ord.cmp k (g.V.KeyValue.key_of c.args.val)) c.args.self.now.values.items = (rw c.deref.ensures.value at c.count_not_above-at.ensures.count) (λ k. g.K.Ord.cmp k (g.V.KeyValue.key_of c.args.val)) (λ i d h r said. search rules) in
    rw (values-enumerate, ← at) (rw c.deref.ensures.value at c.count_not_above-at.ensures.cost)
