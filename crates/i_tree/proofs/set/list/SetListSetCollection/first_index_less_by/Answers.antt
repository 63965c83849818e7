use Rattle.std.proofs.Common.{◌≡◌, ◌-◌, suc, sym, ◌∙◌, ap, arith}
use Rattle.i_tree.specs.SetListView.{set_of}
use Rattle.i_tree.specs.SetSearch.{leading}
use Rattle.i_tree.proofs.Sets.Laws.{just_before, sought_before, values-enumerate, length-enumerate, IsNamed-positions, CountsAtMost-min}
use Rattle.i_tree.proofs.Sets.Searches.{IsMonotoneBy-key, IsNewSetKey-searched}
use Rattle.i_tree.proofs.set.list.SetListSetCollection.first_index_less_by.Goals as goal

pub returns-then-count-eq0-clause-index : goal.returns-then-count-eq0-clause-index
returns-then-count-eq0-clause-index g c = λ by depends mono.
    let items = c.args.self.now.values.items in
    let none : leading g.V.KeyValue.key_of by items ≡ 0 = omega (arith, (rw c.deref.ensures.value at c.count_not_above-count.ensures.count) by (rw values-enumerate at depends)) in
    sym (sought_before g.V.KeyValue.key_of by 4294967295 0 items (rw values-enumerate at mono) ∙ ap (just_before 4294967295 0) none)

pub returns-else-count-eq0-clause-index : goal.returns-else-count-eq0-clause-index
returns-else-count-eq0-clause-index g c = λ by depends mono.
    let items = c.args.self.now.values.items in
    let some : leading g.V.KeyValue.key_of by items ≡ suc (c.count_not_above-count.result - 1) = omega (arith, (rw c.deref.ensures.value at c.count_not_above-count.ensures.count) by (rw values-enumerate at depends)) in
    sym (sought_before g.V.KeyValue.key_of by 4294967295 0 items (rw values-enumerate at mono) ∙ ap (just_before 4294967295 0) some ∙ omega arith)

pub count_not_above-count-requires : goal.count_not_above-count-requires
count_not_above-count-requires g c = rw c.deref.ensures.value (rw values-enumerate at c.requires.callable)

pub returns-then-count-eq0-clause-new_key : goal.returns-then-count-eq0-clause-new_key
returns-then-count-eq0-clause-new_key g c = λ key rising depends unlike.
    let cmp = g.K.Ord.cmp in
    let total = g.met.K.Ord.total in
    let list = c.args.self.now in
    let named = IsNamed-positions list.insertions list.values.items (omega (arith, list.few, list.values.ok.0)) list.bounded in
    let index = returns-then-count-eq0-clause-index g c (λ k. cmp k key) depends (IsMonotoneBy-key cmp g.V.KeyValue.key_of total key 4294967295 (set_of list) rising) in
    IsNewSetKey-searched cmp g.V.KeyValue.key_of total key 4294967295 (set_of list) rising named _ index unlike

pub returns-else-count-eq0-clause-new_key : goal.returns-else-count-eq0-clause-new_key
returns-else-count-eq0-clause-new_key g c = λ key rising depends unlike.
    let cmp = g.K.Ord.cmp in
    let total = g.met.K.Ord.total in
    let list = c.args.self.now in
    let named = IsNamed-positions list.insertions list.values.items (omega (arith, list.few, list.values.ok.0)) list.bounded in
    let index = returns-else-count-eq0-clause-index g c (λ k. cmp k key) depends (IsMonotoneBy-key cmp g.V.KeyValue.key_of total key 4294967295 (set_of list) rising) in
    IsNewSetKey-searched cmp g.V.KeyValue.key_of total key 4294967295 (set_of list) rising named _ index unlike

pub returns-then-count-eq0-clause-cost : goal.returns-then-count-eq0-clause-cost
returns-then-count-eq0-clause-cost g c =
    CountsAtMost-min c.args.steps.now c.count_not_above-count.new.steps _ _ _ (sym (length-enumerate 0 c.args.self.now.values.items)) (rw c.deref.ensures.value at c.count_not_above-count.ensures.cost)

pub returns-else-count-eq0-clause-cost : goal.returns-else-count-eq0-clause-cost
returns-else-count-eq0-clause-cost g c =
    CountsAtMost-min c.args.steps.now c.count_not_above-count.new.steps _ _ _ (sym (length-enumerate 0 c.args.self.now.values.items)) (rw c.deref.ensures.value at c.count_not_above-count.ensures.cost)

pub returns-then-count-eq0-clause-exact : goal.returns-then-count-eq0-clause-exact
returns-then-count-eq0-clause-exact g c = λ by depends.
    let at = (rw c.deref.ensures.value at c.count_not_above-count.ensures.count) by (rw values-enumerate at depends) in
    rw (values-enumerate, ← at) (rw c.deref.ensures.value at c.count_not_above-count.ensures.cost)

pub returns-else-count-eq0-clause-exact : goal.returns-else-count-eq0-clause-exact
returns-else-count-eq0-clause-exact g c = λ by depends.
    let at = (rw c.deref.ensures.value at c.count_not_above-count.ensures.count) by (rw values-enumerate at depends) in
    rw (values-enumerate, ← at) (rw c.deref.ensures.value at c.count_not_above-count.ensures.cost)
