use Rattle.std.proofs.Common.{◌≡◌, ◌∙◌, Some, true, [], refl, ap, arith}
use Rattle.std.specs.Fn.{FnReturnsAt}
use Rattle.std.specs.declared.cmp.Ordering.{Ordering}
use Rattle.i_tree.specs.Tree.Entries.{tree_entries_of}
use Rattle.i_tree.proofs.Trees.Cursors.{whole-place}
use Rattle.i_tree.proofs.Trees.Nodes.{place-vacant, place-node}
use Rattle.i_tree.proofs.Sets.Ways.{sought-first, sought-gap, sought-few, fork-within, fork-some, sought-left, sought-right, value-asked, below-smaller, fork-place}
use Rattle.i_tree.proofs.set.tree.search.Goals as goal

pub loop-at-init : goal.loop-at-init
loop-at-init g c = record {
  sought = record { way = sought-first _ g.V.KeyValue.key_of c.args.tree.now c.requires.tree true c.args.steps.now.comparisons; at_place = c.down-at.ensures 0 [] (tree_entries_of c.args.tree.now) [] (whole-place c.args.tree.now true c.requires.tree) };
  pairs = refl;
}

pub down-at-requires : goal.down-at-requires
down-at-requires g c = (0, ([], (tree_entries_of c.args.tree.now, ([], whole-place c.args.tree.now true c.requires.tree))))

pub returns-then-at-eq-NO_NODE-clause-gap : goal.returns-then-at-eq-NO_NODE-clause-gap
returns-then-at-eq-NO_NODE-clause-gap g c =
    let r = c.loop-at.invariant.sought in
    let l = r.way in
    let there = r.at_place in (
      l.deep,
      (
        record { comparisons = l.counted; pairs = c.loop-at.invariant.pairs },
        sought-gap _ g.V.KeyValue.key_of c.args.tree.now c.loop-at.parent c.loop-at.left c.loop-at.index _ _ l (place-vacant c.args.tree.now c.loop-at.parent c.loop-at.left l.deep l.before l.here l.after c.loop-at.at there c.if-at-eq-NO_NODE.true),
      ),
    )

pub returns-then-at-eq-NO_NODE-clause-cost : goal.returns-then-at-eq-NO_NODE-clause-cost
returns-then-at-eq-NO_NODE-clause-cost g c =
    let r = c.loop-at.invariant.sought in
    let l = r.way in
    record {
      never_falls = omega (arith, l.counted);
      bound = sought-few _ g.V.KeyValue.key_of c.args.tree.now c.loop-at.parent c.loop-at.left c.loop-at.index _ _ l;
      pairs = c.loop-at.invariant.pairs;
    }

pub entry-requires : goal.entry-requires
entry-requires g c =
    let r = c.loop-at.invariant.sought in
    let l = r.way in
    let k = place-node c.args.tree.now c.loop-at.parent c.loop-at.left l.deep l.before l.here l.after c.loop-at.at r.at_place c.if-at-eq-NO_NODE.false in
    fork-within _ g.V.KeyValue.key_of c.args.tree.now c.loop-at.parent c.loop-at.left c.loop-at.index _ _ l c.loop-at.at k

pub held-value-requires : goal.held-value-requires
held-value-requires g c =
    let r = c.loop-at.invariant.sought in
    let l = r.way in
    let k = place-node c.args.tree.now c.loop-at.parent c.loop-at.left l.deep l.before l.here l.after c.loop-at.at r.at_place c.if-at-eq-NO_NODE.false in
    fork-some _ g.V.KeyValue.key_of c.args.tree.now c.loop-at.parent c.loop-at.left c.loop-at.index _ _ l c.loop-at.at k c.requires.held c.entry.result.now c.entry.ensures

pub f-requires : goal.f-requires
f-requires g c =
    let r = c.loop-at.invariant.sought in
    let l = r.way in
    let k = place-node c.args.tree.now c.loop-at.parent c.loop-at.left l.deep l.before l.here l.after c.loop-at.at r.at_place c.if-at-eq-NO_NODE.false in
    value-asked _ g.V.KeyValue.key_of c.args.tree.now c.loop-at.parent c.loop-at.left c.loop-at.index _ _ l c.loop-at.at k c.held-value.result.now (c.entry.ensures ∙ ap Some c.held-value.ensures)
    (λ v. (r : _) → r.now ≡ g.V.KeyValue.key_of v → goal.F-pre g c.args.f r) c.requires.callable c.key.result c.key.ensures

pub loop-at-smaller-then-not-left : goal.loop-at-smaller-then-not-left
loop-at-smaller-then-not-left g c =
    let r = c.loop-at.invariant.sought in
    let l = r.way in
    let k = place-node c.args.tree.now c.loop-at.parent c.loop-at.left l.deep l.before l.here l.after c.loop-at.at r.at_place c.if-at-eq-NO_NODE.false in
    below-smaller _ g.V.KeyValue.key_of c.args.tree.now c.loop-at.parent c.loop-at.left c.loop-at.index _ _ l c.loop-at.at k c.is_gt-left.result

pub loop-at-smaller : goal.loop-at-smaller
loop-at-smaller g c =
    let r = c.loop-at.invariant.sought in
    let l = r.way in
    let k = place-node c.args.tree.now c.loop-at.parent c.loop-at.left l.deep l.before l.here l.after c.loop-at.at r.at_place c.if-at-eq-NO_NODE.false in
    below-smaller _ g.V.KeyValue.key_of c.args.tree.now c.loop-at.parent c.loop-at.left c.loop-at.index _ _ l c.loop-at.at k c.is_gt-left.result

pub loop-at-preserved-then-not-left : goal.loop-at-preserved-then-not-left
loop-at-preserved-then-not-left g c =
    let r = c.loop-at.invariant.sought in
    let l = r.way in
    let k = place-node c.args.tree.now c.loop-at.parent c.loop-at.left l.deep l.before l.here l.after c.loop-at.at r.at_place c.if-at-eq-NO_NODE.false in
    let said : FnReturnsAt g.F.Fn c.args.f (g.V.KeyValue.key_of c.held-value.result.now) c.f.result = record { shown = c.key.result; shows = c.key.ensures; says = record { met = c.f.ensures } } in
    let next = sought-right _ g.V.KeyValue.key_of c.args.tree.now c.loop-at.parent c.loop-at.left c.loop-at.index _ _ l c.loop-at.at k c.held-value.result.now (c.entry.ensures ∙ ap Some c.held-value.ensures)
    c.f.result (λ by t. value-asked _ g.V.KeyValue.key_of c.args.tree.now c.loop-at.parent c.loop-at.left c.loop-at.index _ _ l c.loop-at.at k c.held-value.result.now (c.entry.ensures ∙ ap Some c.held-value.ensures) (λ v. (r : Ordering) → FnReturnsAt g.F.Fn c.args.f (g.V.KeyValue.key_of v) r → r ≡ by (g.V.KeyValue.key_of v)) t _ said) c.is_gt-left.result c.is_gt-left.ensures _ (omega arith) c.if-not-left.true in
    record { sought = record { way = next; at_place = c.child_at-at.ensures next.deep next.before next.here next.after next.place }; pairs = omega arith }

pub loop-at-preserved : goal.loop-at-preserved
loop-at-preserved g c =
    let r = c.loop-at.invariant.sought in
    let l = r.way in
    let k = place-node c.args.tree.now c.loop-at.parent c.loop-at.left l.deep l.before l.here l.after c.loop-at.at r.at_place c.if-at-eq-NO_NODE.false in
    let said : FnReturnsAt g.F.Fn c.args.f (g.V.KeyValue.key_of c.held-value.result.now) c.f.result = record { shown = c.key.result; shows = c.key.ensures; says = record { met = c.f.ensures } } in
    let next = sought-left _ g.V.KeyValue.key_of c.args.tree.now c.loop-at.parent c.loop-at.left c.loop-at.index _ _ l c.loop-at.at k c.held-value.result.now (c.entry.ensures ∙ ap Some c.held-value.ensures)
    c.f.result (λ by t. value-asked _ g.V.KeyValue.key_of c.args.tree.now c.loop-at.parent c.loop-at.left c.loop-at.index _ _ l c.loop-at.at k c.held-value.result.now (c.entry.ensures ∙ ap Some c.held-value.ensures) (λ v. (r : Ordering) → FnReturnsAt g.F.Fn c.args.f (g.V.KeyValue.key_of v) r → r ≡ by (g.V.KeyValue.key_of v)) t _ said) c.is_gt-left.result c.is_gt-left.ensures _ (omega arith) c.if-not-left.false in
    record { sought = record { way = next; at_place = c.child_at-at-else-not-left.ensures next.deep next.before next.here next.after next.place }; pairs = omega arith }

pub child_at-at-requires-clause-place : goal.child_at-at-requires-clause-place
child_at-at-requires-clause-place g c =
    let r = c.loop-at.invariant.sought in
    let l = r.way in
    let k = place-node c.args.tree.now c.loop-at.parent c.loop-at.left l.deep l.before l.here l.after c.loop-at.at r.at_place c.if-at-eq-NO_NODE.false in
    fork-place _ g.V.KeyValue.key_of c.args.tree.now c.loop-at.parent c.loop-at.left c.loop-at.index _ _ l c.loop-at.at k c.is_gt-left.result
