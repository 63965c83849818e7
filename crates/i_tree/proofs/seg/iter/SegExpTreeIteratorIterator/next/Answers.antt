use Rattle.std.proofs.Common.{rules, map, ap, sym, ◌∙◌, arith}
use Rattle.i_tree.specs.Ranges.Nodes.{list_at}
use Rattle.i_tree.specs.Ranges.Pool.{named_at}
use Rattle.i_tree.proofs.Ranges.Walks.{walk_end, walk_on, walk_step}
use Rattle.i_tree.proofs.seg.iter.SegExpTreeIteratorIterator.next.Goals as goal

pub returns-in-Some : goal.returns-in-Some
returns-in-Some g c =
    let walk = c.loop-value.self in
    let pool = walk.ranges.now.pool.items in
    let found = rw c.deref.ensures.value at c.in-Some.ensures in
    let on = sym c.loop-value.invariant ∙ walk_step pool (λ e. e.value) (named_at (λ e. e.named) pool) (list_at (map (λ v. v.items) walk.ranges.now.nodes.items)) walk.query walk.node walk.rest.now c.in-Some.rest.now c.in-Some.value found in
    search (rules, on)

pub returns-then-self-eq-NODES-clause-steps : goal.returns-then-self-eq-NODES-clause-steps
returns-then-self-eq-NODES-clause-steps g c =
    let walk = c.loop-value.self in
    let pool = walk.ranges.now.pool.items in
    let missed = rw c.deref.ensures.value at c.in_default.ensures in
    let none = ap (map (λ e. e.value)) (walk_end pool (named_at (λ e. e.named) pool) (list_at (map (λ v. v.items) walk.ranges.now.nodes.items)) walk.query walk.node walk.rest.now missed c.if-self-eq-NODES.true) in
    (sym c.loop-value.invariant ∙ none, none)

pub loop-value-preserved : goal.loop-value-preserved
loop-value-preserved g c =
    let walk = c.loop-value.self in
    let pool = walk.ranges.now.pool.items in
    let missed = rw c.deref.ensures.value at c.in_default.ensures in
    let list = rw c.deref-in-loop-value.ensures.value at c.list_of_query-self.ensures in
    ap (map (λ e. e.value)) (sym (walk_on pool (named_at (λ e. e.named) pool) (list_at (map (λ v. v.items) walk.ranges.now.nodes.items)) walk.query walk.node walk.rest.now missed _ (omega (arith, walk.at_node, c.if-self-eq-NODES.false)) (list (named_at (λ e. e.named) pool)))) ∙ c.loop-value.invariant
